use Rattle.std.proofs.Common.{List, ℕ, subst, sym, arith}
use Rattle.ep_base.specs.Places.{Has}
use Rattle.ep_rules.specs.Order.{IsClosed}
use Rattle.ep_rules.specs.States.{graph_in}
use Rattle.ep_rules.proofs.Closed.{closed_nil}
use Rattle.ep_exec.proofs.planning.plan.Goals as goal

pub plan_past-requires-clause-closed : goal.plan_past-requires-clause-closed
plan_past-requires-clause-closed c = subst (IsClosed (graph_in c.args.space.now.records)) (sym c.new-skipped.ensures) (closed_nil (graph_in c.args.space.now.records))

pub plan_past-requires-clause-within : goal.plan_past-requires-clause-within
plan_past-requires-clause-within c = subst (λ (ks : List ℕ). (i : ℕ) → Has ks i → Has c.args.executed.now.list i) (sym c.new-skipped.ensures) (λ i h. absurd (omega arith))
