-- Texts that are joined, one after another.
use Rattle.std.proofs.Common.{◌≡◌, ℕ, Bool, true, false, List, [], ◌∷◌, ◌++◌, codes, refl, sym, ap, ◌∙◌, append_assoc}
use Rattle.std.proofs.lemmas.List.{append-nil}
use Rattle.ep_json.specs.Values.{array, comma, joined, member, name_text}

-- of one piece
pub joined_append : (xs ys : List (List ℕ)) → joined false (xs ++ ys) ≡ joined false xs ++ joined false ys
joined_append [] ys = refl
joined_append (x ∷ xs) ys =
    ap (λ (t : List ℕ). codes "," ++ x ++ t) (joined_append xs ys)
    ∙ sym (append_assoc (codes "," ++ x) (joined false xs) (joined false ys))

-- further ones make a longer text
pub joined_more : (o a b : List ℕ) (xs ys : List (List ℕ)) → a ≡ o ++ joined false xs → b ≡ a ++ joined false ys → b ≡ o ++ joined false (xs ++ ys)
joined_more o a b xs ys e f =
    f
    ∙ ap (λ (t : List ℕ). t ++ joined false ys) e
    ∙ append_assoc o (joined false xs) (joined false ys)
    ∙ ap (λ (t : List ℕ). o ++ t) (sym (joined_append xs ys))

-- one that isn't the first
pub joined_one : (m : List ℕ) → joined false (m ∷ []) ≡ codes "," ++ m
joined_one m = append-nil (codes "," ++ m)

-- a member that is an array, by its parts
pub array_reported :
    (o a b c name : List ℕ) (items : List (List ℕ)) → a ≡ o ++ (codes "," ++ name_text name ++ codes "[") → b ≡ a ++ joined true items → c ≡ b ++ codes "]" →
    c ≡ o ++ joined false (member name (array items) ∷ [])
array_reported o a b c name items e f g =
    g
    ∙ ap (λ (t : List ℕ). t ++ codes "]") (f ∙ ap (λ (t : List ℕ). t ++ joined true items) e)
    ∙ append_assoc (o ++ (codes "," ++ name_text name ++ codes "[")) (joined true items) (codes "]")
    ∙ append_assoc o (codes "," ++ name_text name ++ codes "[") (joined true items ++ codes "]")
    ∙ ap (λ (t : List ℕ). o ++ t) (
    append_assoc (codes "," ++ name_text name) (codes "[") (joined true items ++ codes "]")
    ∙ sym (joined_one (member name (array items)))
    )
