use Rattle.std.proofs.Common.{◌≡◌, ◌<◌, ◌≤◌, ◌^◌, drop, length, true}
use Rattle.std.specs.List.{list_all}
use Rattle.ep_script.specs.Parts.{value_after, is_digit}
use Rattle.ep_script.proofs.numbers.digits.Given as goal

abbrev pub invariant-loop-digit : goal.invariant-loop-digit
invariant-loop-digit l = record {
  value : value_after l.value (drop l.digit-index l.word) ≡ value_after 0 l.word;
  small : l.value < 10 ^ l.digit-index;
  digits : list_all is_digit (drop l.digit-index l.word) ≡ true;
  short : length l.word ≤ 15;
}
