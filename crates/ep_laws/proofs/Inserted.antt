-- A read, as one more instance behind what its reader has executed, and at its place in the history: both lists have interfering commands in one order.
use Rattle.std.proofs.Common.{◌≡◌, ◌≢◌, ℕ, ◌<◌, ◌↔◌, inl, inr, true, cond, eqb, List, [], ◌∷◌, ◌++◌, length, take, refl, sym, ap, subst, ◌∙◌, arith, length-take}
use Rattle.std.proofs.Math.Seq.{take-append_seam}
use Rattle.std.proofs.lemmas.Bool.{cases_eq, cases_order, ne_eqb}
use Rattle.ep_base.specs.Commands.{Command}
use Rattle.ep_base.specs.Interference.{interfere}
use Rattle.ep_base.specs.Places.{place, Has}
use Rattle.ep_base.proofs.Places.{Has-first}
use Rattle.ep_rules.proofs.Places.{place_head, place_le, has_or, place_inj, place-append_in, place-append_out, has_right, has_split, has_single, place_take, Once, once-append, same_refl}
use Rattle.ep_rules.proofs.Turns.{IsOrdered}
use Rattle.ep_laws.proofs.OneKey.{interferes_back}

-- own: the operations that the reader has executed; h: the history, which has all of them
pub record Known (c : ℕ → Command) (own h : List ℕ) : Type 0 where
  pub once_own : Once own
  pub once_h : Once h
  pub within : (u : ℕ) → Has own u → Has h u
  -- the reader has executed before an operation each one that interferes with it and stands before it
  pub everywhere : (u w : ℕ) → Has h u → Has h w → interfere (c u) (c w) ≡ true → place h u < place h w → Has own w → place own u < place own w

-- the reader has executed of what interferes with the read just what stands before the place n
pub record Fits (c : ℕ → Command) (q : Command) (own h : List ℕ) (n : ℕ) : Type 0 where
  pub own_front : (u : ℕ) → interfere (c u) q ≡ true → Has own u → Has (take n h) u
  pub front_own : (u : ℕ) → interfere (c u) q ≡ true → Has (take n h) u → Has own u

pub in_front : (h : List ℕ) (n u : ℕ) → Has (take n h) u → (place h u < n) × (place (take n h) u ≡ place h u) × Has h u
in_front h n u k =
    let p = place_take n h u in
    let m = length-take n h in
    let l = place_le h u in
    (omega arith, omega arith, omega arith)

pub front_has : (h : List ℕ) (n u : ℕ) → Has h u → place h u < n → Has (take n h) u
front_has h n u k lt =
    let p = place_take n h u in
    let m = length-take n h in
    omega arith

-- q: the command that is read, with its place n in the history
module _ (c : ℕ → Command) (q : Command) (own h : List ℕ) (n : ℕ) where
  abbrev front : List ℕ
  front = take n h

  -- both lists with the read, as the instance new
  module _ (new : ℕ) where
    abbrev pub with_read : ℕ → Command
    with_read u = cond (eqb u new) q (c u)

    abbrev pub longer : List ℕ → List ℕ
    longer xs = xs ++ (new ∷ [])

    pub old_is : (u : ℕ) → u ≢ new → with_read u ≡ c u
    old_is u ne = ap (λ b. cond b q (c u)) (ne_eqb u new ne)

    pub new_is : with_read new ≡ q
    new_is = ap (λ b. cond b q (c new)) (same_refl new)

    place_new : (xs : List ℕ) → (Has xs new → ⊥) → place (longer xs) new ≡ length xs
    place_new xs none = let p = place-append_out xs (new ∷ []) new none in let z = place_head new [] in omega arith

    -- what stands before another number of the list, which isn't at its end
    place_old : (xs : List ℕ) (u : ℕ) → place (longer xs) u < length xs → Has xs u
    place_old xs u lt = elim (has_or xs u) [ inl k ↦ k | inr none ↦ absurd (let p = place-append_out xs (new ∷ []) u none in omega arith) ]

    old_of : (xs : List ℕ) (u : ℕ) → Has (longer xs) u → u ≢ new → Has xs u
    old_of xs u k ne = elim (has_split xs (new ∷ []) u k) [ inl a ↦ a | inr a ↦ absurd (ne (sym (has_single new u a))) ]

    pub once_new : (xs : List ℕ) → Once xs → (Has xs new → ⊥) → Once (longer xs)
    once_new xs o none = once-append xs (new ∷ []) o ((λ k. omega arith), tt) (λ i k s. none (subst (λ z. Has xs z) (sym (has_single new i s)) k))

    pub has_new : (xs : List ℕ) → Has (longer xs) new
    has_new xs = has_right xs (new ∷ []) new (Has-first new [])

    pub before_new : (xs : List ℕ) → (Has xs new → ⊥) → take (place (longer xs) new) (longer xs) ≡ xs
    before_new xs none = ap (λ k. take k (longer xs)) (place_new xs none) ∙ take-append_seam xs (new ∷ [])

    with_old : (u : ℕ) → u ≢ new → interfere (with_read u) (with_read new) ≡ true → interfere (c u) q ≡ true
    with_old u ne e = ap (λ a. interfere a q) (sym (old_is u ne)) ∙ ap (interfere (with_read u)) (sym new_is) ∙ e

    both_old : (u w : ℕ) → u ≢ new → w ≢ new → interfere (with_read u) (with_read w) ≡ true → interfere (c u) (c w) ≡ true
    both_old u w nu nw e = ap (λ a. interfere a (c w)) (sym (old_is u nu)) ∙ ap (interfere (with_read u)) (sym (old_is w nw)) ∙ e

    module _ (known : Known c own h) (fits : Fits c q own h n) (out : Has h new → ⊥) where
      h_old : (u : ℕ) → Has h u → u ≢ new
      h_old u k e = out (subst (λ z. Has h z) e k)

      pub own_old : (u : ℕ) → Has own u → u ≢ new
      own_old u k = h_old u (known.within u k)

      pub front_old : (u : ℕ) → Has front u → u ≢ new
      front_old u k = h_old u (in_front h n u k).2

      pub not_in_own : Has own new → ⊥
      not_in_own k = own_old new k refl

      pub not_in_front : Has front new → ⊥
      not_in_front k = front_old new k refl

      -- another one and the read
      ordered_new : (u : ℕ) → interfere (with_read u) (with_read new) ≡ true → (place (longer own) u < place (longer own) new) ↔ (place (longer front) u < place (longer front) new)
      ordered_new u e =
          let pl = place_new own not_in_own in
          let pm = place_new front not_in_front in (
            λ lt.
                let k : Has own u = place_old own u (omega (arith, lt, pl)) in
                let f : Has front u = fits.own_front u (with_old u (own_old u k) e) k in
                let p = place-append_in front (new ∷ []) u f in
                omega (arith, f, p, pm),
            λ lt.
                let f : Has front u = place_old front u (omega (arith, lt, pm)) in
                let k : Has own u = fits.front_own u (with_old u (front_old u f) e) f in
                let p = place-append_in own (new ∷ []) u k in
                omega (arith, k, p, pl),
          )

      -- two others
      ordered_old : (u w : ℕ) → w ≢ new → Has own w → Has front w → interfere (with_read u) (with_read w) ≡ true →
          (place (longer own) u < place (longer own) w) ↔ (place (longer front) u < place (longer front) w)
      ordered_old u w nw kw fw e =
          let pl = place-append_in own (new ∷ []) w kw in
          let pm = place-append_in front (new ∷ []) w fw in
          let iw = in_front h n w fw in
          let le = place_le own w in (
            λ lt.
                let k : Has own u = place_old own u (omega (arith, lt, pl, kw)) in
                let at = place-append_in own (new ∷ []) u k in
                let both = both_old u w (own_old u k) nw e in
                let hu : Has h u = known.within u k in
                elim (cases_order (place h u) (place h w)) [
                  | inl same ↦ absurd (let i = ap (place own) (place_inj h u w hu same) in omega (arith, lt, at, pl, i))
                  | inr (inl less) ↦ (
                      let f : Has front u = front_has h n u hu (omega (arith, less, iw.0)) in
                      let p = place-append_in front (new ∷ []) u f in
                      let q = (in_front h n u f).1 in
                      omega (arith, less, iw.1, pm, p, q))
                  | inr (inr more) ↦ absurd (let b = known.everywhere w u iw.2 hu (interferes_back (c u) (c w) both) more k in omega (arith, b, lt, at, pl))
                ],
            λ lt.
                let f : Has front u = place_old front u (omega (arith, lt, pm, fw)) in
                let iu = in_front h n u f in
                let p = place-append_in front (new ∷ []) u f in
                let both = both_old u w (h_old u iu.2) nw e in
                let b = known.everywhere u w iu.2 iw.2 both (omega (arith, lt, pm, p, iu.1, iw.1)) kw in
                let k : Has own u = omega (arith, b, le) in
                let at = place-append_in own (new ∷ []) u k in
                omega (arith, b, at, pl),
          )

      pub ordered : IsOrdered (λ u w. interfere (with_read u) (with_read w)) (longer own) (longer front)
      ordered u w hl hm e = elim (cases_eq w new) [
        | inl i ↦ subst (λ z. (place (longer own) u < place (longer own) z) ↔ (place (longer front) u < place (longer front) z)) (sym i)
            (ordered_new u (ap (λ z. interfere (with_read u) (with_read z)) (sym i) ∙ e))
        | inr ne ↦ ordered_old u w ne (old_of own w hl ne) (old_of front w hm ne) e
      ]
