-- What is written for words as a label is read as the words.
use Rattle.std.proofs.Common.{◌≡◌, ℕ, Bool, true, false, cond, List, [], ◌∷◌, ◌++◌, codes, refl, sym, ap, subst, arith}
use Rattle.std.specs.Prelude.{eqb, decimal}
use Rattle.ep_view.specs.Labels.{stands_for_itself, mermaid_byte, mermaid_words, dot_other, dot_byte, dot_words, AreLabels}
use Rattle.ep_view.specs.Labels.{ReadsMermaid, no_text, plain_text, numbered_text, ReadsDot, no_label, plain_label, backslash, numbered_label}

joined : (xs bs : List ℕ) → (xs ++ codes ";") ++ bs ≡ xs ++ (59 ∷ bs)
joined [] bs = refl
joined (x ∷ xs) bs = ap (λ (l : List ℕ). x ∷ l) (joined xs bs)

mermaid_one : (b : ℕ) (bs ws : List ℕ) → ReadsMermaid bs ws → ReadsMermaid (mermaid_byte b ++ bs) (b ∷ ws)
mermaid_one b bs ws r = go (stands_for_itself b) refl
  where
    go : (t : Bool) → stands_for_itself b ≡ t → ReadsMermaid (cond t (b ∷ []) (codes "#" ++ decimal b ++ codes ";") ++ bs) (b ∷ ws)
    go true e = plain_text b bs ws e r
    go false e = subst (λ (l : List ℕ). ReadsMermaid (35 ∷ l) (b ∷ ws)) (sym (joined (decimal b) bs)) (numbered_text b bs ws r)

mermaid : (ws : List ℕ) → ReadsMermaid (mermaid_words ws) ws
mermaid [] = no_text
mermaid (b ∷ bs) = mermaid_one b (mermaid_words bs) bs (mermaid bs)

dot_numbered : (b : ℕ) (bs ws : List ℕ) → ReadsDot bs ws → ReadsDot (dot_other b ++ bs) (b ∷ ws)
dot_numbered b bs ws r = go (eqb b 92) refl
  where
    go : (t : Bool) → eqb b 92 ≡ t → ReadsDot (cond t (codes "\\\\") (codes "&#" ++ decimal b ++ codes ";") ++ bs) (b ∷ ws)
    go true e = let same : 92 ≡ b = grind arith in subst (λ (n : ℕ). ReadsDot (92 ∷ 92 ∷ bs) (n ∷ ws)) same (backslash bs ws r)
    go false e = subst (λ (l : List ℕ). ReadsDot (38 ∷ 35 ∷ l) (b ∷ ws)) (sym (joined (decimal b) bs)) (numbered_label b bs ws r)

dot_one : (b : ℕ) (bs ws : List ℕ) → ReadsDot bs ws → ReadsDot (dot_byte b ++ bs) (b ∷ ws)
dot_one b bs ws r = go (stands_for_itself b) refl
  where
    go : (t : Bool) → stands_for_itself b ≡ t → ReadsDot (cond t (b ∷ []) (dot_other b) ++ bs) (b ∷ ws)
    go true e = plain_label b bs ws e r
    go false e = dot_numbered b bs ws r

dot : (ws : List ℕ) → ReadsDot (dot_words ws) ws
dot [] = no_label
dot (b ∷ bs) = dot_one b (dot_words bs) bs (dot bs)

pub are_labels : (ws : List ℕ) → AreLabels ws
are_labels ws = record { mermaid = mermaid ws; dot = dot ws }
