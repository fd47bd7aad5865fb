use Rattle.std.proofs.Common.{◌≡◌, drop}
use Rattle.ep_exec.specs.Agreeing.{agree_at}
use Rattle.ep_exec.proofs.agreeing.agree_at.Given as goal

abbrev pub invariant-loop-key : goal.invariant-loop-key
invariant-loop-key l = agree_at l.one l.other (drop l.key-index l.items) ≡ agree_at l.one l.other l.items
