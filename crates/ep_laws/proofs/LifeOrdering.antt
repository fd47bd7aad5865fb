-- Reads in a life keep real time through all its generations.
use Rattle.std.proofs.Common.{◌≡◌, ℕ, zero, suc, ◌+◌, ◌-◌, ◌<◌, ◌≤◌, Bool, true, false, ◌||◌, inl, inr, List, [], ◌∷◌, ◌++◌, length, take, drop, refl, sym, ap, subst, ◌∙◌, arith, length-append}
use Rattle.std.proofs.lemmas.Bool.{cases_lt, cases_order, false≢true}
use Rattle.std.proofs.lemmas.List.{take-append-drop}
use Rattle.ep_base.specs.Interference.{is_seal}
use Rattle.ep_base.specs.Places.{place, Has}
use Rattle.ep_base.specs.Quorums.{size}
use Rattle.ep_rules.specs.Closing.{has_seal, up_to_seal}
use Rattle.ep_rules.specs.Generations.{Turn, Steps, birth, IsLife, acts_in, history_in, joined, ages, one_history, place_in, HasIn}
use Rattle.ep_rules.specs.OneMap.{Contents}
use Rattle.ep_rules.specs.Operations.{Operation, instances_of, history_of}
use Rattle.ep_rules.specs.Steps.{order_of}
use Rattle.ep_rules.specs.Worlds.{Act, In}
use Rattle.ep_rules.proofs.CutHistories.{cut_in}
use Rattle.ep_rules.proofs.JoinedHistories.{J_back, length_next, length_up}
use Rattle.ep_rules.proofs.Lives.{acts_both, seal_more}
use Rattle.ep_rules.proofs.LivesLinear.{in_acts, sealed_before}
use Rattle.ep_rules.proofs.RunHistories.{history_grows_lem}
use Rattle.ep_laws.specs.Reads.{Read, IsBetween}
use Rattle.ep_laws.specs.LifeReads.{life_at, history_to}
use Rattle.ep_laws.specs.LifeOrder.{IsRight, life_place, KeepsLifeTime, LifeReadsKeepRealTime}
use Rattle.ep_laws.proofs.Fronts.{as_many, between}
use Rattle.ep_laws.proofs.InTurn.{reads_keep_real_time_lem}
use Rattle.ep_laws.proofs.LifeReading.{base, acts, part, kept, run, same_history, in_run, sealed_then}

-- operations without a seal stand before the first seal
within_cut : (p : ℕ) (h : List Operation) → p ≤ length h → has_seal (take p h) ≡ false → p ≤ length (up_to_seal h)
within_cut zero h le e = omega arith
within_cut (suc p) [] le e = le
within_cut (suc p) (o ∷ os) le e = go (is_seal o.command) e (within_cut p os (omega arith))
  where
    go : (b : Bool) → (b || has_seal (take p os)) ≡ false → (has_seal (take p os) ≡ false → p ≤ length (up_to_seal os)) → suc p ≤ length (o ∷ Rattle.std.specs.Prelude.cond b [] (up_to_seal os))
    go true n rec = absurd (false≢true (sym n))
    go false n rec = let l = rec n in omega arith

some_act : (start : Contents) (f : ℕ → ℕ) (turns : List Turn) (g n : ℕ) → has_seal (history_to start f turns g n) ≡ true → (a : Act) × In a (acts_in g (take n turns))
some_act start f turns g n e = go (acts_in g (take n turns)) e
  where
    go : (these : List Act) → has_seal (history_of (Rattle.ep_rules.specs.OneMap.opened (Rattle.ep_rules.specs.Generations.opening_map start f turns g)) (f g) these) ≡ true → (a : Act) × In a these
    go [] s = absurd (false≢true s)
    go (a ∷ these) s = (a, inl refl)

module _ (start : Contents) (f : ℕ → ℕ) (sizes : (g : ℕ) → (0 < f g) × (size (f g) ≤ 256)) (turns : List Turn) (life : IsLife f (birth start) turns) where
  abbrev H : ℕ → List Operation
  H g = history_in start f turns g

  -- a generation's history up to a later point begins with that up to an earlier one
  grows : (g a n : ℕ) → a ≤ n → (more : List Operation) × (history_to start f turns g n ≡ history_to start f turns g a ++ more)
  grows g a n le =
      let m = between a n turns le in
      let t = history_grows_lem (base start f sizes turns life g) (f g) (acts_in g (take a turns)) (acts_in g m.0) in
      (t.0, ap (λ ts. history_of (base start f sizes turns life g) (f g) (acts_in g ts)) (sym m.1) ∙ ap (history_of (base start f sizes turns life g) (f g)) (acts_both g (take a turns) m.0) ∙ t.1)

  longer : (g a n : ℕ) → a ≤ n → length (history_to start f turns g a) ≤ length (history_to start f turns g n)
  longer g a n le =
      let t = grows g a n le in
      let e : length (history_to start f turns g n) ≡ length (history_to start f turns g a) + length t.0 = ap length t.1 ∙ length-append (history_to start f turns g a) t.0 in
      omega arith

  part_of_all : (g n : ℕ) → length (history_to start f turns g n) ≤ length (H g)
  part_of_all g n =
      let t = history_grows_lem (base start f sizes turns life g) (f g) (acts_in g (take n turns)) (acts_in g (drop n turns)) in
      let whole : H g ≡ history_to start f turns g n ++ t.0 =
      ap (history_of (base start f sizes turns life g) (f g)) (sym (sym (acts_both g (take n turns) (drop n turns)) ∙ ap (acts_in g) (take-append-drop n turns))) ∙ t.1 in
      let e : length (H g) ≡ length (history_to start f turns g n) + length t.0 = ap length whole ∙ length-append (history_to start f turns g n) t.0 in
      omega arith

  -- where a later generation has an act, this one has a seal
  sealed_by : (k g n : ℕ) (a : Act) → k < g → In a (acts_in g (take n turns)) → has_seal (history_to start f turns k n) ≡ true
  sealed_by k g n a lt m = sealed_before start f sizes turns life (take n turns) (drop n turns) (take-append-drop n turns) k (g - suc k) g (omega arith) a m

  -- where somebody has opened a generation, each one before it has a seal
  sealed_below : (k g n q : ℕ) → k < g → (life_at start f turns n).has_opened g q ≡ true → has_seal (history_to start f turns k n) ≡ true
  sealed_below k zero n q lt o = absurd (omega arith)
  sealed_below k (suc g) n q lt o =
      let s : has_seal (history_to start f turns g n) ≡ true = (kept start f sizes turns life g n).sealed g q o in
      elim (cases_lt k g) [
        | inl less ↦ (let a = some_act start f turns g n s in sealed_by k g n a.0 less a.1)
        | inr ge ↦ (let is : g ≡ k = omega arith in subst (λ z. has_seal (history_to start f turns z n) ≡ true) is s)
      ]

  -- a read whose reader has opened its generation when it answers
  module _ (g : ℕ) (r : Read) (reader : (life_at start f turns r.answered).has_opened g r.reader ≡ true) (p : ℕ) (right : IsRight start f turns g r p) where
    fits : p ≤ length (up_to_seal (H g))
    fits =
        let a = right.answered in
        let l = part_of_all g r.answered in
        within_cut p (H g) (omega arith) right.unsealed

    in_between : IsBetween (base start f sizes turns life g) (f g) (acts start f sizes turns life g) (in_run start f sizes turns life g r) p
    in_between = record {
      asked = subst (λ os. length os ≤ p) (sym (same_history start f sizes turns life g r.asked)) right.asked;
      answered = subst (λ os. p ≤ length os) (sym (same_history start f sizes turns life g r.answered)) right.answered;
    }

    next_is : length (joined H (suc g)) ≡ length (joined H g) + length (up_to_seal (H g))
    next_is = let n = length_next H g in let m = as_many (up_to_seal (H g)) in omega arith

    behind : (k i : ℕ) (a : Act) → HasIn (one_history start f turns) k i → In (Steps k a) (take r.asked turns) → Has (order_of a.done) i →
        place_in (one_history start f turns) k i < life_place start f turns g p
    behind k i a h m e =
        let b = J_back H (ages turns) k i h in
        let at = b.2 in
        let there = in_acts k a (take r.asked turns) m in
        elim (cases_order k g) [
          | inl same ↦ here same at b.1 there
          | inr (inl less) ↦ (
              let n = length_next H k in
              let u = length_up H g (suc k) (omega arith) in
              let c = b.1 in
              omega (arith, at, n, u, c))
          | inr (inr more) ↦ absurd (false≢true (sym right.unsealed ∙ sealed_then start f sizes turns life g r.asked p right.asked (sealed_by g k r.asked a more there)))
        ]
      where
        here : k ≡ g → place_in (one_history start f turns) k i ≡ length (joined H k) + place (instances_of (up_to_seal (H k))) i → Has (instances_of (up_to_seal (H k))) i → In a (acts_in k (take r.asked turns)) →
            place_in (one_history start f turns) k i < life_place start f turns g p
        here same at has there =
            let has_g : Has (instances_of (up_to_seal (H g))) i = subst (λ z. Has (instances_of (up_to_seal (H z))) i) same has in
            let at_g : place_in (one_history start f turns) k i ≡ length (joined H g) + place (instances_of (up_to_seal (H g))) i =
            subst (λ z. place_in (one_history start f turns) k i ≡ length (joined H z) + place (instances_of (up_to_seal (H z))) i) same at in
            let c = cut_in (H g) i has_g in
            let same_place = c.1 in
            let acted : In a (take (length (acts_in g (take r.asked turns))) (acts start f sizes turns life g)) =
            subst (λ these. In a these) (sym (part start f sizes turns life g r.asked)) (subst (λ z. In a (acts_in z (take r.asked turns))) same there) in
            let lt = (reads_keep_real_time_lem (base start f sizes turns life g) (f g) (sizes g).0 (sizes g).1 (acts start f sizes turns life g) (run start f sizes turns life g)
            (in_run start f sizes turns life g r) p in_between).behind i a c.0 acted e in
            omega (arith, at_g, same_place, lt)

    in_turn : (k : ℕ) (s : Read) (q : ℕ) → IsRight start f turns k s q → r.answered ≤ s.asked → life_place start f turns g p ≤ life_place start f turns k q
    in_turn k s q there le = elim (cases_order k g) [
      | inl same ↦ (
          let a = right.answered in
          let l = longer g r.answered s.asked le in
          let b : length (history_to start f turns g s.asked) ≤ q = subst (λ z. length (history_to start f turns z s.asked) ≤ q) same there.asked in
          let j : length (joined H k) ≡ length (joined H g) = ap (λ z. length (joined H z)) same in
          omega (arith, a, l, b, j))
      | inr (inl less) ↦ absurd (
          let then = sealed_below k g r.answered r.reader less reader in
          let t = grows k r.answered s.asked le in
          let now : has_seal (history_to start f turns k s.asked) ≡ true = subst (λ os. has_seal os ≡ true) (sym t.1) (seal_more (history_to start f turns k r.answered) t.0 then) in
          false≢true (sym there.unsealed ∙ sealed_then start f sizes turns life k s.asked q there.asked now))
      | inr (inr more) ↦ (
          let n = next_is in
          let u = length_up H k (suc g) (omega arith) in
          let c = fits in
          omega (arith, n, u, c))
    ]

    pub keeps : KeepsLifeTime start f turns g r p
    keeps = record { behind = behind; in_turn = in_turn }

pub life_reads_keep_real_time_lem : LifeReadsKeepRealTime
life_reads_keep_real_time_lem start f sizes turns life g r is p right = keeps start f sizes turns life g r is.reader p right
