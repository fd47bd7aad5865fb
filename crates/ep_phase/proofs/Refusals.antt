-- A refusal that is passed on.
use Rattle.std.proofs.Common.{◌≡◌, Result, Ok, Err, sym, subst}
use Rattle.std.specs.Prelude.{IfErr, IsErrAnd}
use Rattle.ep_phase.specs.declared.decision_fault.DecisionFault.{DecisionFault}

pub passed_on : {X : Type 0} (P : DecisionFault → Type 0) (f : DecisionFault) (r : Result X DecisionFault) → IsErrAnd r (λ e. e ≡ f) → P f → IfErr r P
passed_on P f (Ok x) h k = tt
passed_on P f (Err e) h k = subst P (sym h) k
