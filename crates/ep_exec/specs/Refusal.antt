-- When there is no plan.
use Rattle.std.specs.Prelude.{ℕ, List}
use Rattle.ep_rules.specs.Graph.{Graph}
use Rattle.ep_rules.specs.Order.{IsBlocked}
use Rattle.ep_exec.specs.declared.plan_fault.PlanFault.{PlanFault}
use Rattle.ep_exec.specs.declared.plan_fault.PlanFault.TheVariants.{Memory, NotCommitted}

-- when out of memory, or since the root waits for the least of the instances that aren't committed
abbrev pub Refuses : Graph → List ℕ → ℕ → PlanFault → Type 0
Refuses g done root Memory = Unit {0}
Refuses g done root (NotCommitted i) = IsBlocked g done root i
