-- Why a node hands out no file for the next generation.
use Rattle.std.specs.Prelude.{◌≡◌, ◌<◌, false, true, length}
use Rattle.ep_opening.specs.Closing as opening
use Rattle.ep_opening.specs.declared.closing_fault.ClosingFault.{ClosingFault}
use Rattle.ep_opening.specs.declared.closing_fault.ClosingFault.TheVariants as closing
use Rattle.ep_replica.specs.Kept.{Kept}
use Rattle.ep_node.specs.Nodes.{Logged, IsQuiet}
use Rattle.ep_node.specs.declared.close_fault.CloseFault.{CloseFault}
use Rattle.ep_node.specs.declared.close_fault.CloseFault.TheVariants.{Memory, NotSealed, LastGeneration, Unsynced, Closed}

-- what a journal's fault is reported as
abbrev pub of_closing : ClosingFault → CloseFault
of_closing closing.Memory = Memory
of_closing closing.NotSealed = NotSealed
of_closing closing.LastGeneration = LastGeneration

-- why there is none: the device failed before; not all that was taken is on the disk; else as of the replica's journal
abbrev pub IsUnclosed : {D : Type 0} → Logged D → CloseFault → Type 0
IsUnclosed n Memory = IsQuiet n
IsUnclosed n NotSealed = IsQuiet n × opening.IsUnclosed n.replica closing.NotSealed
IsUnclosed n LastGeneration = IsQuiet n × opening.IsUnclosed n.replica closing.LastGeneration
IsUnclosed n Unsynced = (n.closed ≡ false) × (n.synced < length n.replica.entries)
IsUnclosed n Closed = n.closed ≡ true

-- why there is none of a node that is quiet
abbrev pub IsUnsealed : Kept → CloseFault → Type 0
IsUnsealed k Memory = Unit {0}
IsUnsealed k NotSealed = opening.IsUnclosed k closing.NotSealed
IsUnsealed k LastGeneration = opening.IsUnclosed k closing.LastGeneration
IsUnsealed k Unsynced = ⊥
IsUnsealed k Closed = ⊥
