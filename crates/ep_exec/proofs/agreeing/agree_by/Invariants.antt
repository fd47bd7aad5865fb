use Rattle.std.proofs.Common.{◌≡◌, drop}
use Rattle.ep_exec.specs.Agreeing.{agree_by}
use Rattle.ep_exec.proofs.agreeing.agree_by.Given as goal

abbrev pub invariant-loop-index : goal.invariant-loop-index
invariant-loop-index l = agree_by l.one l.other (drop l.index l.changes.entries) ≡ agree_by l.one l.other l.changes.entries
