use Rattle.std.proofs.Common.{take}
use Rattle.ep_replica.specs.Slots.{HoldsProposals}
use Rattle.ep_replica.proofs.slots.Slots.of.Given as goal

abbrev pub invariant-loop-entry : goal.invariant-loop-entry
invariant-loop-entry l = HoldsProposals l.me (take l.entry-index l.entries) l.slots
