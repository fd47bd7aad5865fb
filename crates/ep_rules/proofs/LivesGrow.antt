-- The history of a life only grows.
use Rattle.std.proofs.Common.{◌≡◌, ℕ, zero, suc, ◌+◌, ◌-◌, ◌<◌, ◌≤◌, Bool, true, false, cond, inl, inr, List, [], ◌∷◌, ◌++◌, refl, sym, ap, ◌∙◌, arith, append-nil, append_assoc, max}
use Rattle.std.proofs.Math.Nat.{le-max_left, le-max_right, max-eq_left, max-eq_right}
use Rattle.std.proofs.lemmas.Bool.{cases_lt}
use Rattle.ep_base.specs.Interference.{is_seal}
use Rattle.ep_base.specs.Quorums.{size}
use Rattle.ep_rules.specs.Closing.{has_seal, up_to_seal, written_by}
use Rattle.ep_rules.specs.Generations.{Turn, Opens, Steps, birth, IsLife, acts_in, opening_map, history_in, Named, named, joined, ages, one_history, LivesGrow}
use Rattle.ep_rules.specs.OneMap.{Contents, opened}
use Rattle.ep_rules.specs.Operations.{Operation, history_of}
use Rattle.ep_rules.specs.Worlds.{In, Act}
use Rattle.ep_rules.proofs.Lives.{acts_both, cut_more}
use Rattle.ep_rules.proofs.LivesLinear.{in_acts, sealed_before}
use Rattle.ep_rules.proofs.RunHistories.{history_grows_lem}

-- a list up to its first seal begins a longer list up to its
cut_grows : (xs ys : List Operation) → (more : List Operation) × (up_to_seal (xs ++ ys) ≡ up_to_seal xs ++ more)
cut_grows [] ys = (up_to_seal ys, refl)
cut_grows (o ∷ xs) ys = go (is_seal o.command) (cut_grows xs ys)
  where
    go : (b : Bool) → (more : List Operation) × (up_to_seal (xs ++ ys) ≡ up_to_seal xs ++ more) → (more : List Operation) × (o ∷ cond b [] (up_to_seal (xs ++ ys)) ≡ (o ∷ cond b [] (up_to_seal xs)) ++ more)
    go true r = ([], refl)
    go false r = (r.0, ap (λ z. o ∷ z) r.1)

named_both : (g : ℕ) (xs ys : List Operation) → named g (xs ++ ys) ≡ named g xs ++ named g ys
named_both g [] ys = refl
named_both g (o ∷ xs) ys = ap (λ z. record { generation = g; operation = o } ∷ z) (named_both g xs ys)

joined_grows : (h : ℕ → List Operation) (m n : ℕ) → m ≤ n → (more : List Named) × (joined h n ≡ joined h m ++ more)
joined_grows h m zero le = let is : m ≡ 0 = omega arith in ([], ap (joined h) (sym is) ∙ sym (append-nil (joined h m)))
joined_grows h m (suc n) le = elim (cases_lt n m) [
  | inl more ↦ (let is : suc n ≡ m = omega arith in ([], ap (joined h) is ∙ sym (append-nil (joined h m))))
  | inr less ↦ (let r = joined_grows h m n less in
      (r.0 ++ named n (up_to_seal (h n)), ap (λ z. z ++ named n (up_to_seal (h n))) r.1 ∙ append_assoc (joined h m) r.0 (named n (up_to_seal (h n)))))
]

ages_grow : (early late : List Turn) → ages early ≤ ages (early ++ late)
ages_grow [] late = omega arith
ages_grow (Opens g r q ∷ early) late = ages_grow early late
ages_grow (Steps g a ∷ early) late = widen (suc g) (ages early) (ages (early ++ late)) (ages_grow early late)
  where
    widen : (k m n : ℕ) → m ≤ n → max k m ≤ max k n
    widen k m n le = let a = le-max_left k n in let b = le-max_right k n in omega arith

-- the last generation has a step
last_step : (ts : List Turn) (n : ℕ) → ages ts ≡ suc n → (a : Act) × In (Steps n a) ts
last_step [] n e = absurd (omega arith)
last_step (Opens g r q ∷ ts) n e = let t = last_step ts n e in (t.0, inr t.1)
last_step (Steps g a ∷ ts) n e = elim (cases_lt (ages ts) (suc g)) [
  | inl less ↦ (let m : max (suc g) (ages ts) ≡ suc g = max-eq_left (omega arith) in let is : g ≡ n = omega arith in (a, inl (ap (λ k. Steps k a) is)))
  | inr le ↦ (let m : max (suc g) (ages ts) ≡ ages ts = max-eq_right le in let t = last_step ts n (sym m ∙ e) in (t.0, inr t.1))
]

module _ (start : Contents) (f : ℕ → ℕ) (sizes : (g : ℕ) → (0 < f g) × (size (f g) ≤ 256)) (early late : List Turn) (life : IsLife f (birth start) (early ++ late)) where
  abbrev whole : List Turn
  whole = early ++ late

  abbrev base : ℕ → Contents
  base g = opening_map start f whole g

  abbrev so_far : ℕ → List Operation
  so_far g = history_of (opened (base g)) (f g) (acts_in g early)

  grown : (g : ℕ) → (more : List Operation) × (history_in start f whole g ≡ so_far g ++ more)
  grown g =
      let t = history_grows_lem (opened (base g)) (f g) (acts_in g early) (acts_in g late) in
      (t.0, ap (λ acts. history_of (opened (base g)) (f g) acts) (acts_both g early late) ∙ t.1)

  module _ (n : ℕ) (last : ages early ≡ suc n) where
    sealed : (g : ℕ) → g < n → has_seal (so_far g) ≡ true
    sealed g lt =
        let a = last_step early n last in
        let is : n ≡ suc ((n - suc g) + g) = omega arith in
        sealed_before start f sizes whole life early late refl g (n - suc g) n is a.0 (in_acts n a.0 early a.1)

    -- a generation that is over
    cut_same : (g : ℕ) → g < n → up_to_seal (history_in start f whole g) ≡ up_to_seal (so_far g)
    cut_same g lt = let t = grown g in ap up_to_seal t.1 ∙ cut_more (so_far g) t.0 (sealed g lt)

    base_same : (g : ℕ) → g ≤ n → opening_map start f early g ≡ base g
    base_same zero le = refl
    base_same (suc g) le =
        ap (λ m. written_by m (up_to_seal (history_of (opened m) (f g) (acts_in g early)))) (base_same g (omega arith))
        ∙ ap (written_by (base g)) (sym (cut_same g (omega arith)))

    own_same : (g : ℕ) → g ≤ n → history_in start f early g ≡ so_far g
    own_same g le = ap (λ m. history_of (opened m) (f g) (acts_in g early)) (base_same g le)

    joined_same : (m : ℕ) → m ≤ n → joined (history_in start f early) m ≡ joined (history_in start f whole) m
    joined_same zero le = refl
    joined_same (suc m) le =
        ap (λ os. joined (history_in start f early) m ++ named m (up_to_seal os)) (own_same m (omega arith))
        ∙ ap (λ os. joined (history_in start f early) m ++ named m os) (sym (cut_same m (omega arith)))
        ∙ ap (λ z. z ++ named m (up_to_seal (history_in start f whole m))) (joined_same m (omega arith))

    grows : (more : List Named) × (one_history start f whole ≡ one_history start f early ++ more)
    grows =
        let t = grown n in
        let c = cut_grows (so_far n) t.0 in
        let up : suc n ≤ ages whole = (let l = ages_grow early late in omega arith) in
        let r = joined_grows (history_in start f whole) (suc n) (ages whole) up in
        let own : one_history start f early ≡ joined (history_in start f whole) n ++ named n (up_to_seal (so_far n)) =
        ap (joined (history_in start f early)) last ∙ ap (λ z. z ++ named n (up_to_seal (history_in start f early n))) (joined_same n (omega arith)) ∙ ap (λ os. joined (history_in start f whole) n ++ named n (up_to_seal os)) (own_same n (omega arith)) in
        let next : joined (history_in start f whole) (suc n) ≡ one_history start f early ++ named n c.0 =
        ap (λ os. joined (history_in start f whole) n ++ named n os) (ap up_to_seal t.1 ∙ c.1)
        ∙ ap (λ z. joined (history_in start f whole) n ++ z) (named_both n (up_to_seal (so_far n)) c.0)
        ∙ sym (append_assoc (joined (history_in start f whole) n) (named n (up_to_seal (so_far n))) (named n c.0))
        ∙ ap (λ z. z ++ named n c.0) (sym own) in
        (named n c.0 ++ r.0, r.1 ∙ ap (λ z. z ++ r.0) next ∙ append_assoc (one_history start f early) (named n c.0) r.0)

pub lives_grow_lem : LivesGrow
lives_grow_lem start f sizes early late life = go (ages early) refl
  where
    go : (n : ℕ) → ages early ≡ n → (more : List Named) × (one_history start f (early ++ late) ≡ one_history start f early ++ more)
    go zero e = (one_history start f (early ++ late), ap (λ n. joined (history_in start f early) n ++ one_history start f (early ++ late)) (sym e))
    go (suc n) e = grows start f sizes early late life n e
