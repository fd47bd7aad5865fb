-- A key whose bytes were read.
use Rattle.std.proofs.Common.{◌≡◌, ◌∙◌, ℕ, List, Option, Result, Ok, Err, subst, sym}
use Rattle.std.specs.Prelude.{IfOk, IfErr}
use Rattle.ep_bundle.specs.Reading.{Reading, Reads}
use Rattle.ep_bundle.specs.declared.bundle_fault.BundleFault.{BundleFault}
use Rattle.ep_bundle.specs.declared.bundle_fault.BundleFault.TheVariants.{Memory}
use Rattle.ep_bundle.proofs.Readings.{gives}

pub keyed : (o : Reading (List ℕ)) (bs own : List ℕ) (r : Result (List ℕ) BundleFault) (p : ℕ) (left : Option (List ℕ)) → Reads o (Ok bs) p left → own ≡ bs → IfOk r (λ k. k ≡ own) → IfErr r (λ e. e ≡ Memory) → Reads o r p left
keyed o bs own (Ok k) p left h same ok err = gives o bs k p left h (ok ∙ same)
keyed o bs own (Err e) p left h same ok err = subst (λ (x : BundleFault). Reads {A = List ℕ} o (Err x) p left) (sym err) tt
