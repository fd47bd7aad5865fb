-- A part's refusal is the step's.
use Rattle.std.proofs.Common.{◌≡◌, ℕ, Result, Ok, Err, ap, sym, subst}
use Rattle.std.specs.Prelude.{IfErr, IsErrAnd}
use Rattle.ep_phase.specs.declared.decision_fault.DecisionFault.TheVariants as decision
use Rattle.ep_rules.specs.Phases.{Outcome}
use Rattle.ep_rules.specs.Steps.{at}
use Rattle.ep_journal.specs.Refused.{IsRefused}
use Rattle.ep_journal.specs.declared.step_fault.StepFault.{StepFault}
use Rattle.ep_journal.specs.declared.step_fault.StepFault.TheVariants.{Memory, SpaceFull, SeqExhausted, NotLeading, TooFewAnswers, AlreadyCommitted, BallotsExhausted}

-- a rule's refusal is one at its instance
pub refused_at : (i : ℕ) (o : Outcome) (e : StepFault) → IsRefused o e → IsRefused (at i o) e
refused_at i o Memory h = tt
refused_at i o SpaceFull h = ap (at i) h
refused_at i o SeqExhausted h = ap (at i) h
refused_at i o NotLeading h = ap (at i) h
refused_at i o TooFewAnswers h = ap (at i) h
refused_at i o AlreadyCommitted h = ap (at i) h
refused_at i o BallotsExhausted h = ap (at i) h
refused_at i o _ h = h

-- a refusal that is passed on
pub passed_on : {X : Type 0} (P : StepFault → Type 0) (f : StepFault) (r : Result X StepFault) → IsErrAnd r (λ e. e ≡ f) → P f → IfErr r P
passed_on P f (Ok x) h k = tt
passed_on P f (Err e) h k = subst P (sym h) k
