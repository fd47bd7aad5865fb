-- Why a generation isn't closed, as a node reports it.
use Rattle.std.proofs.Common.{◌≡◌, ◌≢◌, refl}
use Rattle.ep_opening.specs.declared.closing_fault.ClosingFault.{ClosingFault}
use Rattle.ep_opening.specs.declared.closing_fault.ClosingFault.TheVariants as closing
use Rattle.ep_node.specs.Closing.{IsUnclosed, IsUnsealed, of_closing}
use Rattle.ep_node.specs.Nodes.{IsQuiet, Logged}
use Rattle.ep_node.specs.declared.close_fault.CloseFault.{CloseFault}
use Rattle.ep_node.specs.declared.close_fault.CloseFault.TheVariants.{Memory, NotSealed, LastGeneration, Unsynced, Closed}

pub not_memory : (fault : ClosingFault) → fault ≢ closing.Memory → of_closing fault ≢ Memory
not_memory closing.Memory known e = known refl
not_memory closing.NotSealed known e = absurd (cc)
not_memory closing.LastGeneration known e = absurd (cc)

-- that of a quiet node's replica is the node's
pub unclosed : {D : Type 0} (n : Logged D) (fault : CloseFault) → IsQuiet n → IsUnsealed n.replica fault → IsUnclosed n fault
unclosed n Memory quiet un = quiet
unclosed n NotSealed quiet un = (quiet, un)
unclosed n LastGeneration quiet un = (quiet, un)
unclosed n Unsynced quiet un = absurd un
unclosed n Closed quiet un = absurd un
