-- What one key, or two of them, change of the runs.
use Rattle.std.proofs.Common.{◌≡◌, ◌≢◌, ℕ, Bool, true, false, cond, not, ◌&&◌, ◌||◌, List, [], ◌∷◌, refl, sym, ap, subst, ◌∙◌, true≢false, Result, Ok, Err, IfOk, OnOk}
use Rattle.ep_base.specs.Attributes.{same_list}
use Rattle.ep_base.specs.Commands.{Command, Opaque}
use Rattle.ep_base.specs.Interference.{has_key}
use Rattle.ep_base.specs.CommandParts.{IsInRange, IsSecond}
use Rattle.ep_base.specs.Touched.{Touched}
use Rattle.ep_base.proofs.Same.{Decides-same_list}
use Rattle.ep_space.specs.Index.{brings}

-- a run that is changed unless its key stays

pub unless_stays : (b s : Bool) (f : List ℕ → List ℕ) (xs : List ℕ) → s ≡ true → xs ≡ cond (b && not s) (f xs) xs
unless_stays true true f xs e = refl
unless_stays false true f xs e = refl
unless_stays b false f xs e = absurd (true≢false (sym e))

pub unless_goes : (b s : Bool) (f : List ℕ → List ℕ) (xs : List ℕ) → s ≡ false → cond b (f xs) xs ≡ cond (b && not s) (f xs) xs
unless_goes true false f xs e = refl
unless_goes false false f xs e = refl
unless_goes b true f xs e = absurd (true≢false e)

-- one key

pub brings_one : (own : List (List ℕ)) (key k : List ℕ) → (same_list k key && not (has_key key own)) ≡ brings own (key ∷ []) k
brings_one own key k = go (same_list k key) refl
  where
    go : (b : Bool) → same_list k key ≡ b → (b && not (has_key key own)) ≡ ((b || false) && not (has_key k own))
    go true e = ap (λ z. not (has_key z own)) (sym ((Decides-same_list k key).0 e))
    go false e = refl

pub same_itself : (k : List ℕ) → same_list k k ≡ true
same_itself k = (Decides-same_list k k).1 refl

-- two keys

-- one after the other is both
pub two_steps : (f : List ℕ → List ℕ) (own : List (List ℕ)) (p q k : List ℕ) (xs : List ℕ) → p ≢ q
    → cond (same_list k q && not (has_key q own)) (f (cond (same_list k p && not (has_key p own)) (f xs) xs)) (cond (same_list k p && not (has_key p own)) (f xs) xs)
    ≡ cond (brings own (p ∷ q ∷ []) k) (f xs) xs
two_steps f own p q k xs apart = go (same_list k p) (same_list k q) refl refl
  where
    go : (a b : Bool) → same_list k p ≡ a → same_list k q ≡ b
        → cond (b && not (has_key q own)) (f (cond (a && not (has_key p own)) (f xs) xs)) (cond (a && not (has_key p own)) (f xs) xs) ≡ cond ((a || (b || false)) && not (has_key k own)) (f xs) xs
    go true true e g = absurd (apart (sym ((Decides-same_list k p).0 e) ∙ (Decides-same_list k q).0 g))
    go true false e g = ap (λ z. cond (not (has_key z own)) (f xs) xs) (sym ((Decides-same_list k p).0 e))
    go false true e g = ap (λ z. cond (not (has_key z own)) (f xs) xs) (sym ((Decides-same_list k q).0 g))
    go false false e g = refl

-- the first of two is among them, and so is the second
pub first_among : (p q : List ℕ) → has_key p (p ∷ q ∷ []) ≡ true
first_among p q = ap (λ b. b || (same_list p q || false)) (same_itself p)

pub second_among : (p q : List ℕ) → has_key q (p ∷ q ∷ []) ≡ true
second_among p q = go (same_list q p) (same_list q q) (same_itself q)
  where
    go : (a b : Bool) → b ≡ true → (a || (b || false)) ≡ true
    go true b e = refl
    go false true e = refl
    go false false e = e

-- what changes the run of p leaves that of another key
pub other_run : (f : List ℕ → List ℕ) (p q : List ℕ) (s : Bool) (xs : List ℕ) → p ≢ q → cond (same_list q p && not s) (f xs) xs ≡ xs
other_run f p q s xs apart = go (same_list q p) refl
  where
    go : (b : Bool) → same_list q p ≡ b → cond (b && not s) (f xs) xs ≡ xs
    go true e = absurd (apart (sym ((Decides-same_list q p).0 e)))
    go false e = refl

-- the same, of what calls give

pub on_value : {X E : Type 0} {P Q : X → Type 0} (r : Result X E) → ((x : X) → P x → Q x) → IfOk r P → IfOk r Q
on_value (Ok x) f h = f x h
on_value (Err e) f h = h

pub on_ok : {X E : Type 0} {P Q : Type 0} (r : Result X E) → (P → Q) → OnOk r P → OnOk r Q
on_ok (Ok x) f h = f h
on_ok (Err e) f h = h

pub one_step : (f : ℕ → List ℕ → List ℕ) (own : List (List ℕ)) (key k : List ℕ) (s : Bool) (p i : ℕ) (xs ys : List ℕ) → s ≡ has_key key own → p ≡ i → ys ≡ cond (same_list k key && not s) (f p xs) xs
    → ys ≡ cond (brings own (key ∷ []) k) (f i xs) xs
one_step f own key k s p i xs ys stays place e =
    e ∙ (λ d. cond (same_list k key && not (stays d)) (f (place d) xs) xs) ∙ ap (λ b. cond b (f i xs) xs) (brings_one own key k)

pub both_steps : (f : ℕ → List ℕ → List ℕ) (own : List (List ℕ)) (p q k : List ℕ) (s t : Bool) (a b i : ℕ) (xs ys zs : List ℕ) → p ≢ q → s ≡ has_key p own → t ≡ has_key q own → a ≡ i → b ≡ i
    → ys ≡ cond (same_list k p && not s) (f a xs) xs → zs ≡ cond (same_list k q && not t) (f b ys) ys → zs ≡ cond (brings own (p ∷ q ∷ []) k) (f i xs) xs
both_steps f own p q k s t a b i xs ys zs apart es et ea eb first second =
    second ∙ (λ d. cond (same_list k q && not (et d)) (f (eb d) (first d)) (first d))
    ∙ (λ d. cond (same_list k q && not (has_key q own)) (f i (cond (same_list k p && not (es d)) (f (ea d) xs) xs)) (cond (same_list k p && not (es d)) (f (ea d) xs) xs))
    ∙ two_steps (f i) own p q k xs apart

-- the second key of what a command touches
pub second_in : (c : Command) (p : Touched) (b : List ℕ) → c ≡ Opaque p b → IsInRange c → IsSecond p.first p.second
second_in c p b is h = (subst IsInRange is h).1.0
