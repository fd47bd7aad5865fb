-- Where a read has its place: what its reader has executed of what interferes with it stands before that, and nothing else of it does.
use Rattle.std.proofs.Common.{◌≡◌, ◌≢◌, ℕ, ◌<◌, ◌≤◌, inl, inr, Bool, true, false, ◌&&◌, List, length, take, refl, sym, subst, ◌∙◌, arith}
use Rattle.std.proofs.lemmas.Bool.{cases_lt, cases_order, and_from, and_parts, false≢true, leb-true, le-leb}
use Rattle.ep_base.specs.Commands.{Command}
use Rattle.ep_base.specs.Interference.{interfere}
use Rattle.ep_base.specs.Places.{place, Has}
use Rattle.ep_rules.specs.History.{is_new}
use Rattle.ep_rules.proofs.Places.{place_le, has_or, not_has, place_inj}
use Rattle.ep_laws.proofs.Fronts.{before, before_none, First, first_at}
use Rattle.ep_laws.proofs.Inserted.{Known, Fits, in_front, front_has}

module _ (c : ℕ → Command) (q : Command) (own h : List ℕ) where
  -- what interferes with the read, and isn't executed at the reader
  abbrev pub missing : ℕ → Bool
  missing u = interfere (c u) q && is_new own u

  -- before the first of these
  abbrev pub spot : ℕ
  spot = before missing h

  not_own : (u : ℕ) → is_new own u ≡ true → Has own u → ⊥
  not_own u e k = let l = leb-true (length own) (place own u) e in omega arith

  is_own : (u : ℕ) → is_new own u ≡ false → Has own u
  is_own u e = elim (has_or own u) [ inl k ↦ k | inr n ↦ absurd (let p = not_has own u n in false≢true (sym e ∙ le-leb (length own) (place own u) (omega arith))) ]

  -- that is behind any part of the history of which the reader has executed all that interferes
  pub spot_behind : (n : ℕ) → n ≤ length h → ((u : ℕ) → Has h u → place h u < n → interfere (c u) q ≡ true → Has own u) → n ≤ spot
  spot_behind n le known = elim (cases_lt spot n) [
    | inr ge ↦ omega arith
    | inl lt ↦ absurd (
        let f : First missing h = first_at missing h (omega arith) in
        let t = and_parts (interfere (c f.at) q) (is_new own f.at) f.passes in
        let s = f.stands in
        not_own f.at t.1 (known f.at f.has (omega arith) t.0))
  ]

  front_own : (u : ℕ) → interfere (c u) q ≡ true → Has (take spot h) u → Has own u
  front_own u e k = is_own u (go (is_new own u) refl)
    where
      go : (b : Bool) → is_new own u ≡ b → b ≡ false
      go false s = refl
      go true s = absurd (false≢true (sym (before_none missing h u (in_front h spot u k).0) ∙ and_from (interfere (c u) q) (is_new own u) e s))

  module _ (known : Known c own h) where
    -- where all that interferes with the read interferes with one another, it has its place there
    module _ (each_other : (u w : ℕ) → interfere (c u) q ≡ true → interfere (c w) q ≡ true → interfere (c u) (c w) ≡ true) where
      own_front : (u : ℕ) → interfere (c u) q ≡ true → Has own u → Has (take spot h) u
      own_front u e k = elim (cases_lt (place h u) spot) [
        | inl lt ↦ front_has h spot u (known.within u k) lt
        | inr ge ↦ absurd (
            let hu : Has h u = known.within u k in
            let f : First missing h = first_at missing h (omega arith) in
            let t = and_parts (interfere (c f.at) q) (is_new own f.at) f.passes in
            let s = f.stands in
            let ne : f.at ≢ u = (λ i. not_own f.at t.1 (subst (λ z. Has own z) (sym i) k)) in
            elim (cases_order (place h f.at) (place h u)) [
              | inl same ↦ ne (place_inj h f.at u f.has same)
              | inr (inl lt) ↦ (let l = known.everywhere f.at u f.has hu (each_other f.at u t.0 e) lt k in let n = place_le own u in not_own f.at t.1 (omega arith))
              | inr (inr gt) ↦ omega arith
            ])
      ]

      pub fits_one : Fits c q own h spot
      fits_one = record { own_front = own_front; front_own = front_own }

    -- where the reader has executed all of the history that interferes with the read, it has its place behind all of it
    pub fits_all : ((u : ℕ) → Has h u → interfere (c u) q ≡ true → Has own u) → Fits c q own h (length h)
    fits_all all = record {
      own_front = λ u e k. front_has h (length h) u (known.within u k) (known.within u k);
      front_own = λ u e k. all u (in_front h (length h) u k).2 e;
    }
