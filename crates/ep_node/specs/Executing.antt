-- Executing an instance that a replica committed, own or not.
use Rattle.std.specs.Prelude.{◌≡◌, ℕ, Bool, true, false, Some}
use Rattle.ep_base.specs.Instances.{IsInstance}
use Rattle.ep_base.specs.Places.{Has}
use Rattle.ep_base.specs.declared.decree.Decree.{Decree}
use Rattle.ep_journal.specs.declared.event.Event.TheVariants.{Execute}
use Rattle.ep_journal.specs.declared.step_fault.StepFault.{StepFault}
use Rattle.ep_journal.specs.declared.step_fault.StepFault.TheVariants.{NotCommitted}
use Rattle.ep_replica.specs.Applied.{IsDeclined}
use Rattle.ep_replica.specs.Kept.{Kept}
use Rattle.ep_replica.specs.Pending.{IsWaiting, state_of}
use Rattle.ep_rules.specs.States.{committed_in}
use Rattle.ep_node.specs.Nodes.{Logged, Takes}
use Rattle.ep_node.specs.declared.node_fault.NodeFault.{NodeFault}
use Rattle.ep_node.specs.declared.node_fault.NodeFault.TheVariants.{Refused, Memory, Failed, Closed}

-- the fault says that an execution waits for an instance that isn't committed
abbrev pub is_uncommitted : StepFault → Bool
is_uncommitted (NotCommitted i) = true
is_uncommitted _ = false

-- an instance that is committed and not executed
pub record IsOutstanding (k : Kept) (i : ℕ) : Type 0 where
  pub named : IsInstance i
  pub decree : Decree
  pub committed : committed_in (state_of k).records i ≡ Some decree
  pub left : ¬ Has (state_of k).executed i

-- a try to execute it: it was executed, with all that it waits for; or it isn't outstanding, or waits for one that isn't committed, and nothing changed
abbrev pub IsTried : Kept → ℕ → Bool → Kept → Type 0
IsTried k i true k' = IsOutstanding k i × Takes k (Execute i) k'
IsTried k i false k' = (IsOutstanding k i → IsWaiting k i) × (k' ≡ k)

-- why it wasn't tried: its execution is refused, and not since it waits; or the node is closed
abbrev pub IsUntried : {D : Type 0} → Logged D → ℕ → NodeFault → Type 0
IsUntried n i (Refused fault) = (n.closed ≡ false) × IsOutstanding n.replica i × IsDeclined n.replica (Execute i) fault × (is_uncommitted fault ≡ false)
IsUntried n i Memory = ⊥
IsUntried n i (Failed cause) = ⊥
IsUntried n i Closed = n.closed ≡ true

-- the same of a node's fault
abbrev pub is_waiting : NodeFault → Bool
is_waiting (Refused fault) = is_uncommitted fault
is_waiting Memory = false
is_waiting (Failed cause) = false
is_waiting Closed = false
