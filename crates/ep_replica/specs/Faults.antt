-- Why an event was not applied: the step's fault, an instance by its two numbers, and a frame of another version or generation as a bad frame.
use Rattle.ep_base.specs.Instances.{leader_of, number_of}
use Rattle.ep_frame.specs.declared.fault.FrameFault.TheVariants.{Version, Generation}
use Rattle.ep_journal.specs.declared.step_fault.StepFault.{StepFault}
use Rattle.ep_journal.specs.declared.step_fault.StepFault.TheVariants as step
use Rattle.ep_replica.specs.declared.replica_fault.ReplicaFault.{ReplicaFault}
use Rattle.ep_replica.specs.declared.replica_fault.ReplicaFault.TheVariants.{Memory, BadFrame, OutOfRange, NotMine, StampFull, SpaceFull, SeqExhausted, NotLeading, TooFewAnswers, AlreadyCommitted, BallotsExhausted, NotCommitted}

abbrev pub in_numbers : StepFault → ReplicaFault
in_numbers step.Memory = Memory
in_numbers step.OtherVersion = BadFrame Version
in_numbers step.OtherGeneration = BadFrame Generation
in_numbers step.OutOfRange = OutOfRange
in_numbers step.NotMine = NotMine
in_numbers step.StampFull = StampFull
in_numbers step.SpaceFull = SpaceFull
in_numbers step.SeqExhausted = SeqExhausted
in_numbers step.NotLeading = NotLeading
in_numbers step.TooFewAnswers = TooFewAnswers
in_numbers step.AlreadyCommitted = AlreadyCommitted
in_numbers step.BallotsExhausted = BallotsExhausted
in_numbers (step.NotCommitted i) = NotCommitted (leader_of i) (number_of i)
