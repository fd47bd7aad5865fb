-- Why an event was not taken: the names that the parts give their refusals, as those of the rule book.
use Rattle.std.specs.Prelude.{◌≡◌, Option, Some, None, Result, Err}
use Rattle.ep_exec.specs.declared.plan_fault.PlanFault.{PlanFault}
use Rattle.ep_exec.specs.declared.plan_fault.PlanFault.TheVariants.{Memory as PlanMemory, NotCommitted as PlanNotCommitted}
use Rattle.ep_phase.specs.declared.decision_fault.DecisionFault.{DecisionFault}
use Rattle.ep_phase.specs.declared.decision_fault.DecisionFault.TheVariants as decision
use Rattle.ep_rules.specs.Cells as rules
use Rattle.ep_rules.specs.Cells.{Refusal}
use Rattle.ep_journal.specs.declared.step_fault.StepFault.{StepFault}
use Rattle.ep_journal.specs.declared.step_fault.StepFault.TheVariants.{Memory, OutOfRange, NotMine, SpaceFull, SeqExhausted, NotLeading, TooFewAnswers, AlreadyCommitted, BallotsExhausted, NotCommitted}

abbrev pub of_decision : DecisionFault → StepFault
of_decision decision.Memory = Memory
of_decision decision.SeqExhausted = SeqExhausted
of_decision decision.NotLeading = NotLeading
of_decision decision.TooFewAnswers = TooFewAnswers
of_decision decision.AlreadyCommitted = AlreadyCommitted
of_decision decision.BallotsExhausted = BallotsExhausted

abbrev pub of_plan : PlanFault → StepFault
of_plan PlanMemory = Memory
of_plan (PlanNotCommitted i) = NotCommitted i

-- the refusal of the rule book that the fault names; none when out of memory, another version or generation and a full stamp, which the rule book doesn't know
abbrev pub named : StepFault → Option Refusal
named OutOfRange = Some rules.OutOfRange
named NotMine = Some rules.NotMine
named SpaceFull = Some rules.SpaceFull
named SeqExhausted = Some rules.SeqExhausted
named NotLeading = Some rules.NotLeading
named TooFewAnswers = Some rules.TooFewAnswers
named AlreadyCommitted = Some rules.AlreadyCommitted
named BallotsExhausted = Some rules.BallotsExhausted
named (NotCommitted i) = Some (rules.NotCommitted i)
named _ = None

-- a rule refuses for the reason that the fault names; or there is no memory
abbrev pub IsRefused : {X : Type 0} → Result X Refusal → StepFault → Type 0
IsRefused o Memory = Unit {0}
IsRefused o SpaceFull = o ≡ Err rules.SpaceFull
IsRefused o SeqExhausted = o ≡ Err rules.SeqExhausted
IsRefused o NotLeading = o ≡ Err rules.NotLeading
IsRefused o TooFewAnswers = o ≡ Err rules.TooFewAnswers
IsRefused o AlreadyCommitted = o ≡ Err rules.AlreadyCommitted
IsRefused o BallotsExhausted = o ≡ Err rules.BallotsExhausted
IsRefused o _ = ⊥
