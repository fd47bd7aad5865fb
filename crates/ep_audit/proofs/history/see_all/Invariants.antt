use Rattle.std.proofs.Common.{ℕ, ◌↔◌, ◌⊎◌, take}
use Rattle.ep_base.specs.Places.{Has}
use Rattle.ep_rules.specs.Steps.{order_of}
use Rattle.ep_audit.proofs.history.see_all.Given as goal

abbrev pub invariant-loop-instance : goal.invariant-loop-instance
invariant-loop-instance l = (i : ℕ) → Has l.seen.list i ↔ (Has l.fn.seen.list i ⊎ Has (order_of (take l.instance-index l.done)) i)
