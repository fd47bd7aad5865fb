-- A handle may go to another thread, as the box that it holds.
use mir.Raw.{raw as bare}
use base.Shift.{Keyless}
use denote.Builtin.{RawPtr}
use denote.Memory.{lone}
use denote.RawPtr.{Ptr}
use denote.Param.Send.{IsSend, owning_send, struct_send, sendable}
use denote.Struct.Struct.{exits_of}
use denote.Struct.Owning.{shape, fields, to}
use Rattle.std.proofs.Crossing.{frees}
use Rattle.std.specs.declared.option.Option.{Option}
use Rattle.std.specs.declared.option.Option.TheVariants.{None, Some}
use Rattle.ep_embedded.proofs.hosted_checkpoint.HostedCheckpoint.TheSendSync.{the_send}
use Rattle.std_alloc.proofs.SendSync.{lies, quiet}
use Rattle.ep_handle.specs.Held.{heap, held}
use Rattle.ep_handle.specs.contracts.checkpoint_handle.CheckpointHandle.{the_row, the_type}
use Rattle.ep_embedded.specs.contracts.hosted_checkpoint.HostedCheckpoint.{the_row as K}

pointer_send : IsSend RawPtr
pointer_send = search sendable

held_keyless : (p : Ptr) (o : Option K.Denot) → Keyless (held K p o)
held_keyless p None = tt
held_keyless p (Some x) = (lies K the_send p x, frees.frees heap (bare (lone K.mir)) p)

pub send : IsSend the_row
send = owning_send the_type (pointer_send, tt) (λ d. held_keyless d.at d.value) (λ k. quiet (to the_type) (exits_of k (fields the_type)) ((struct_send (shape the_type) (pointer_send, tt)).leaving k))
