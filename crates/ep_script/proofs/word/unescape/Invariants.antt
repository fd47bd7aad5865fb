use Rattle.std.proofs.Common.{◌≡◌, [], length}
use Rattle.ep_script.specs.Word.{spelled, between}
use Rattle.ep_script.proofs.word.unescape.Given as goal

abbrev pub invariant-loop-rest : goal.invariant-loop-rest
invariant-loop-rest l = spelled between l.bytes.items l.rest ≡ spelled between [] l.word

abbrev pub decreases-loop-rest : goal.decreases-loop-rest
decreases-loop-rest l = length l.rest
