-- The instance that a message is about, and what it says of it.
use Rattle.std.specs.Prelude.{ℕ}
use Rattle.std.specs.Option.{option_copied}
use Rattle.ep_base.specs.declared.message.Message.{Message}
use Rattle.ep_base.specs.declared.message.Message.TheVariants.{PreAccept, PreAcceptOk, Accept, AcceptOk, Commit, Prepare, PrepareOk, Nack}
use Rattle.ep_base.specs.declared.message_view.MessageView.{MessageView}
use Rattle.ep_base.specs.declared.message_view.MessageView.TheVariants as said

abbrev pub instance_of_message : Message → ℕ
instance_of_message (PreAccept i b x) = i
instance_of_message (PreAcceptOk i b a) = i
instance_of_message (Accept i b x) = i
instance_of_message (AcceptOk i b) = i
instance_of_message (Commit i x) = i
instance_of_message (Prepare i b) = i
instance_of_message (PrepareOk i b v) = i
instance_of_message (Nack i b p) = i

-- the message about instance i that says this
abbrev pub says : ℕ → MessageView → Message
says i (said.PreAccept b x) = PreAccept i b x.now
says i (said.PreAcceptOk b a) = PreAcceptOk i b a.now
says i (said.Accept b x) = Accept i b x.now
says i (said.AcceptOk b) = AcceptOk i b
says i (said.Commit x) = Commit i x.now
says i (said.Prepare b) = Prepare i b
says i (said.PrepareOk b v) = PrepareOk i b (option_copied v)
says i (said.Nack b p) = Nack i b p
