-- Why a rule refuses, by the names that the code gives it. Out of memory is no reason of a rule's.
use Rattle.std.specs.Prelude.{◌≡◌, Err}
use Rattle.ep_rules.specs.Cells.{SeqExhausted as Exhausted, NotLeading as Unled, TooFewAnswers as Few, AlreadyCommitted as Committed, BallotsExhausted as Spent}
use Rattle.ep_rules.specs.Phases.{Outcome}
use Rattle.ep_phase.specs.declared.decision_fault.DecisionFault.{DecisionFault}
use Rattle.ep_phase.specs.declared.decision_fault.DecisionFault.TheVariants.{Memory, SeqExhausted, NotLeading, TooFewAnswers, AlreadyCommitted, BallotsExhausted}
use Rattle.ep_space.specs.declared.interference_fault.InterferenceFault.{InterferenceFault}
use Rattle.ep_space.specs.declared.interference_fault.InterferenceFault.TheVariants.{Memory as Unfound, SeqExhausted as Limit}

abbrev pub of_limit : InterferenceFault → DecisionFault
of_limit Unfound = Memory
of_limit Limit = SeqExhausted

-- a named refusal is the rule's
abbrev pub IsRefused : Outcome → DecisionFault → Type 0
IsRefused o Memory = Unit {0}
IsRefused o SeqExhausted = o ≡ Err Exhausted
IsRefused o NotLeading = o ≡ Err Unled
IsRefused o TooFewAnswers = o ≡ Err Few
IsRefused o AlreadyCommitted = o ≡ Err Committed
IsRefused o BallotsExhausted = o ≡ Err Spent
