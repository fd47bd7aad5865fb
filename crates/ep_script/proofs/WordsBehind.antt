-- The word that stands so many words behind another.
use Rattle.std.proofs.Common.{◌≡◌, ℕ, suc, ◌+◌, ◌-◌, ◌<◌, List, [], ◌∷◌, ap, ◌∙◌, arith}
use Rattle.ep_script.specs.Refusals.{word_behind}

left : (n k : ℕ) → k < n → n - k ≡ suc (n - (k + 1))
left n k h = omega arith

at_next : (w : List ℕ) (n k : ℕ) (ws vs : List (List ℕ)) → k < n → ws ≡ vs
    → word_behind w (n - k) ws ≡ word_behind w (suc (n - (k + 1))) vs
at_next w n k ws vs h e =
    ap (λ (m : ℕ). word_behind w m ws) (left n k h) ∙ ap (word_behind w (suc (n - (k + 1)))) e

pub behind_more : (w v : List ℕ) (n k : ℕ) (ws vs : List (List ℕ)) → k < n → ws ≡ v ∷ vs
    → word_behind w (n - k) ws ≡ word_behind v (n - (k + 1)) vs
behind_more w v n k ws vs h e = at_next w n k ws (v ∷ vs) h e

pub behind_none : (w : List ℕ) (n k : ℕ) (ws : List (List ℕ)) → k < n → ws ≡ [] → word_behind w (n - k) ws ≡ []
behind_none w n k ws h e = at_next w n k ws [] h e
