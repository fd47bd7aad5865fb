use Rattle.std.proofs.Common.{◌≡◌, drop}
use Rattle.std.specs.FinMap.{from_entries}
use Rattle.ep_rules.specs.OneMap.{opened}
use Rattle.ep_replay.proofs.heads.contents.Given as goal

abbrev pub invariant-loop-index : goal.invariant-loop-index
invariant-loop-index l = l.store ≡ opened (from_entries (drop l.index l.entries))
