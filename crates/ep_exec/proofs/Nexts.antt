-- One step of a loop over a list: what is done, with what is left gives, is still the whole.
use Rattle.std.proofs.Common.{◌≡◌, ℕ, ◌+◌, ◌<◌, Bool, true, false, cond, Vec, List, [], ◌∷◌, ◌++◌, length, get_or, drop, filter, flat_map, sym, ap, ◌∙◌, append_assoc}
use Rattle.std.specs.Global.{Global}
use Rattle.std.proofs.lemmas.List.{at_drop_more}
use Rattle.std.proofs.lemmas.Bool.{lt-ltb}
use Rattle.ep_base.specs.Places.{place, Has}
use Rattle.ep_rules.specs.Graph.{Graph}
use Rattle.ep_exec.specs.Ready.{is_out, waits_for}
use Rattle.ep_exec.specs.Walk.{deps_at, lists}

pub out_no : (xs : List ℕ) (i : ℕ) → Has xs i → is_out xs i ≡ false
out_no xs i h = ap (λ (b : Bool). cond b false true) (lt-ltb (place xs i) (length xs) h)

-- what is left begins with the next one
pub next : {X Y : Type 0} (F : List X → Y) (xs : List X) (i : ℕ) (x : X) → i < length xs → x ≡ get_or xs i x → F (drop i xs) ≡ F (x ∷ drop (i + 1) xs)
next {X = X} F xs i x lt is = at_drop_more F xs i x lt ∙ ap (λ (y : X). F (y ∷ drop (i + 1) xs)) (sym is)

-- one that passes is added
pub next_kept : (p : ℕ → Bool) (xs : List ℕ) (i x : ℕ) (done more whole : List ℕ) → i < length xs → x ≡ get_or xs i x → p x ≡ true → more ≡ done ++ x ∷ [] → done ++ filter p (drop i xs) ≡ whole → more ++ filter p (drop (i + 1) xs) ≡ whole
next_kept p xs i x done more whole lt is here made h =
    let rest : List ℕ = filter p (drop (i + 1) xs) in
    ap (λ (ys : List ℕ). ys ++ rest) made
    ∙ append_assoc done (x ∷ []) rest
    ∙ ap (λ (ys : List ℕ). done ++ ys) (sym (next (filter p) xs i x lt is ∙ ap (λ (b : Bool). cond b (x ∷ rest) rest) here))
    ∙ h

-- another is not
pub next_left : (p : ℕ → Bool) (xs : List ℕ) (i x : ℕ) (done more whole : List ℕ) → i < length xs → x ≡ get_or xs i x → p x ≡ false → more ≡ done → done ++ filter p (drop i xs) ≡ whole → more ++ filter p (drop (i + 1) xs) ≡ whole
next_left p xs i x done more whole lt is here made h =
    let rest : List ℕ = filter p (drop (i + 1) xs) in
    ap (λ (ys : List ℕ). ys ++ rest) made
    ∙ ap (λ (ys : List ℕ). done ++ ys) (sym (next (filter p) xs i x lt is ∙ ap (λ (b : Bool). cond b (x ∷ rest) rest) here))
    ∙ h

abbrev members : List (Vec ℕ Global) → List ℕ
members vs = flat_map (λ c. c) (lists vs)

pub next_members : (vs : List (Vec ℕ Global)) (i : ℕ) (v : Vec ℕ Global) (all more now : List ℕ) → i < length vs → v ≡ get_or vs i v → now ≡ v.items → more ≡ all ++ now
    → all ++ flat_map (λ c. c) (lists (drop i vs)) ≡ flat_map (λ c. c) (lists vs) → more ++ flat_map (λ c. c) (lists (drop (i + 1) vs)) ≡ flat_map (λ c. c) (lists vs)
next_members vs i v all more now lt is here made h =
    let rest : List ℕ = members (drop (i + 1) vs) in
    ap (λ (ys : List ℕ). ys ++ rest) (made ∙ ap (λ (ys : List ℕ). all ++ ys) here)
    ∙ append_assoc all v.items rest
    ∙ ap (λ (ys : List ℕ). all ++ ys) (sym (next members vs i v lt is))
    ∙ h

-- what one more instance waits for
pub next_waits : (g : Graph) (xs own : List ℕ) (i x : ℕ) (old more : List ℕ) → own ≡ xs → i < length xs → x ≡ get_or xs i x → more ≡ old ++ filter (is_out own) (deps_at (g x))
    → old ++ waits_for g xs (drop i xs) ≡ waits_for g xs xs → more ++ waits_for g xs (drop (i + 1) xs) ≡ waits_for g xs xs
next_waits g xs own i x old more same lt is made h =
    let rest : List ℕ = waits_for g xs (drop (i + 1) xs) in
    ap (λ (ys : List ℕ). ys ++ rest) (made ∙ ap (λ (ys : List ℕ). old ++ filter (is_out ys) (deps_at (g x))) same)
    ∙ append_assoc old (filter (is_out xs) (deps_at (g x))) rest
    ∙ ap (λ (ys : List ℕ). old ++ ys) (sym (next (waits_for g xs) xs i x lt is))
    ∙ h
