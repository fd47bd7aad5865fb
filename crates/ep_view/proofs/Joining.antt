-- Texts that are appended one after the other.
use Rattle.std.proofs.Common.{◌≡◌, ℕ, List, ◌++◌, Result, Ok, Err, ap, ◌∙◌, append_assoc}
use Rattle.std.specs.Prelude.{OnOk}

pub more : (t a x e n : List ℕ) → e ≡ t ++ a → n ≡ e ++ x → n ≡ t ++ (a ++ x)
more t a x e n p q = q ∙ ap (λ (z : List ℕ). z ++ x) p ∙ append_assoc t a x

pub two : {T E : Type 0} (r : Result T E) (t a b e n : List ℕ) → e ≡ t ++ a → OnOk r (n ≡ e ++ b) → OnOk r (n ≡ t ++ (a ++ b))
two (Ok x) t a b e n p h = more t a b e n p h
two (Err x) t a b e n p h = h

pub three : {T E : Type 0} (r : Result T E) (t a b c e f n : List ℕ) → e ≡ t ++ a → f ≡ e ++ b → OnOk r (n ≡ f ++ c) → OnOk r (n ≡ t ++ (a ++ b ++ c))
three r t a b c e f n p q h = two r t (a ++ b) c f n (more t a b e f p q) h
