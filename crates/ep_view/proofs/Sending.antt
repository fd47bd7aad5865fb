-- What is sent, reported from the first frame on.
use Rattle.std.proofs.Common.{◌≡◌, ℕ, ◌-◌, ◌≤◌, Bool, List, [], ◌∷◌, ◌++◌, length, take, take_all, drop, get_or, Result, Ok, Err, codes, sym, ap, subst, ◌∙◌, append_assoc, arith}
use Rattle.std.specs.Prelude.{OnOk}
use Rattle.ep_view.specs.Lines.{words_at, receiver_text, more_sent, sent_text}

pub joined : (t c r m e n : List ℕ) → e ≡ t ++ c → n ≡ e ++ r ++ m → n ≡ t ++ (c ++ r ++ m)
joined t c r m e n is reported =
    reported ∙ ap (λ (z : List ℕ). z ++ r ++ m) is ∙ ap (λ (z : List ℕ). z ++ m) (append_assoc t c r) ∙ append_assoc t (c ++ r) m

pub sent :
    {T E : Type 0} (r : Result T E) (handled : List ℕ → Bool) (fs : List (List ℕ)) (first : List ℕ) (rest : List (List ℕ)) (t e n : List ℕ) →
    e ≡ t ++ codes "; sends " → OnOk r (n ≡ e ++ receiver_text handled first ++ more_sent handled (words_at first) rest) → fs ≡ first ∷ rest → OnOk r (n ≡ t ++ sent_text handled fs)
sent (Ok x) handled fs first rest t e n is reported are =
    joined t (codes "; sends ") (receiver_text handled first) (more_sent handled (words_at first) rest) e n is reported
    ∙ ap (λ (z : List (List ℕ)). t ++ sent_text handled z) (sym are)
sent (Err x) handled fs first rest t e n is reported are = reported

-- a list that has a first item, and what stands after it
pub from_first : (fs : List (List ℕ)) (first : List ℕ) → 1 ≤ length fs → first ≡ get_or fs 0 first → fs ≡ first ∷ take (length fs - 1) (drop 1 fs)
from_first [] first some is = absurd (omega arith)
from_first (f ∷ fs) first some is =
    let len : length (f ∷ fs) - 1 ≡ length fs = omega arith in
    sym (ap (λ (k : ℕ). first ∷ take k fs) len ∙ ap (λ (z : List (List ℕ)). first ∷ z) (take_all (length fs) fs (omega arith)) ∙ ap (λ (x : List ℕ). x ∷ fs) is)
