use Rattle.std.proofs.Common.{◌≡◌, ◌≤◌, drop}
use Rattle.ep_base.specs.Instances.{highest_number}
use Rattle.ep_serve.specs.Answering.{last_number}
use Rattle.ep_serve.proofs.reporting.last_number.Given as goal

abbrev pub invariant-loop-entry : goal.invariant-loop-entry
invariant-loop-entry l = record {
  value : last_number l.last (drop l.entry-index l.entries) ≡ last_number 0 l.entries;
  range : l.last ≤ highest_number;
}
