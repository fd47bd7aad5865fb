-- The front of a list that may be shorter.
use Rattle.std.proofs.Common.{◌≡◌, ℕ, zero, suc, List, [], ◌∷◌, length, take, min, take_all, sym, ap, ◌∙◌, arith}

pub front : (n : ℕ) (ws : List ℕ) → take (min (length ws) n) ws ≡ take n ws
front zero ws = let e : min (length ws) 0 ≡ 0 = omega arith in ap (λ (k : ℕ). take k ws) e
front (suc n) [] = take_all (min 0 (suc n)) [] (omega arith) ∙ sym (take_all (suc n) [] (omega arith))
front (suc n) (w ∷ ws) =
    let e : min (suc (length ws)) (suc n) ≡ suc (min (length ws) n) = omega arith in
    ap (λ (k : ℕ). take k (w ∷ ws)) e ∙ ap (λ (l : List ℕ). w ∷ l) (front n ws)
