-- What is between a read's question and its answer keeps real time.
use Rattle.std.proofs.Common.{◌≡◌, ℕ, zero, suc, ◌+◌, ◌<◌, ◌≤◌, inl, inr, List, [], ◌∷◌, ◌++◌, length, take, drop, refl, sym, ap, subst, ◌∙◌, arith, length-append}
use Rattle.std.proofs.lemmas.List.{take-append-drop, take-append-le}
use Rattle.ep_base.specs.Commands.{Command}
use Rattle.ep_base.specs.Places.{place, Has}
use Rattle.ep_base.specs.Quorums.{size}
use Rattle.ep_base.specs.declared.reply.Answer.{Answer}
use Rattle.ep_base.specs.declared.reply.Answer.TheVariants.{Replied}
use Rattle.ep_rules.specs.Linearizable.{IsLegal, IsLinearizable}
use Rattle.ep_rules.specs.OneMap.{Store}
use Rattle.ep_rules.specs.Operations.{instances_of, history_of}
use Rattle.ep_rules.specs.Safety.{WasProposed}
use Rattle.ep_rules.specs.Steps.{order_of}
use Rattle.ep_rules.specs.Worlds.{opening, Act, In, IsRun}
use Rattle.ep_rules.proofs.JournalsCallers.{in_has}
use Rattle.ep_rules.proofs.OnceDone.{from_once}
use Rattle.ep_rules.proofs.Places.{place-append_in, has_left}
use Rattle.ep_rules.proofs.RunHistories.{instances_append, history_grows_lem}
use Rattle.ep_rules.proofs.RunsLinear.{has_in, linearizability_holds}
use Rattle.ep_laws.specs.Reads.{history_at, Read, IsBetween}
use Rattle.ep_laws.specs.RealTime.{KeepsRealTime, ReadsKeepRealTime}
use Rattle.ep_laws.proofs.Fronts.{between, as_many, at_place}
use Rattle.ep_laws.proofs.Looking.{run_to}

in_take : {X : Type 0} (n : ℕ) (xs : List X) (x : X) → In x (take n xs) → In x xs
in_take zero xs x m = absurd m
in_take (suc n) [] x m = absurd m
in_take (suc n) (y ∷ xs) x (inl e) = inl e
in_take (suc n) (y ∷ xs) x (inr m) = inr (in_take n xs x m)

module _ (base : Store) (f : ℕ) (some : 0 < f) (few : size f ≤ 256) (acts : List Act) (run : IsRun f (opening base) acts) where
  abbrev all : List ℕ
  all = instances_of (history_of base f acts)

  abbrev upto : ℕ → List ℕ
  upto n = instances_of (history_at base f acts n)

  linear_at : (n : ℕ) → IsLinearizable base f (take n acts)
  linear_at n = linearizability_holds base f some few (take n acts) (run_to base f some few acts run n)

  linear : IsLinearizable base f acts
  linear = linearizability_holds base f some few acts run

  -- the history up to a point is a beginning of the whole
  begins : (n : ℕ) → (more : List ℕ) × (all ≡ upto n ++ more)
  begins n =
      let t = history_grows_lem base f (take n acts) (drop n acts) in (
        instances_of t.0,
        ap instances_of (ap (history_of base f) (sym (take-append-drop n acts)) ∙ t.1) ∙ instances_append (history_at base f acts n) t.0,
      )

  same_place : (n i : ℕ) → Has (upto n) i → (place all i ≡ place (upto n) i) × Has all i
  same_place n i k =
      let b = begins n in (
        ap (λ is. place is i) b.1 ∙ place-append_in (upto n) b.0 i k,
        subst (λ is. Has is i) (sym b.1) (has_left (upto n) b.0 i k),
      )

  longer : (a b : ℕ) → a ≤ b → length (history_at base f acts a) ≤ length (history_at base f acts b)
  longer a b le =
      let m = between a b acts le in
      let t = history_grows_lem base f (take a acts) m.0 in
      let e : length (history_at base f acts b) ≡ length (history_at base f acts a) + length t.0 = ap length (ap (history_of base f) (sym m.1) ∙ t.1) ∙ length-append (history_at base f acts a) t.0 in
      omega arith

  -- what the history has was answered a reply
  was_reported : (i : ℕ) (x : Answer) → Has all i → IsLegal base (history_of base f acts) i x → (y : _) × (x ≡ Replied y)
  was_reported i x k (inl n) = absurd (n.0 k)
  was_reported i x k (inr t) = (_, t.1)

  -- what was executed up to a point, and is in the history, is in the history up to there
  by_then : (n i : ℕ) (a : Act) → Has all i → In a (take n acts) → Has (order_of a.done) i → Has (upto n) i
  by_then n i a k m e =
      let x = has_in a.done i e in
      let t = was_reported i x.0 k (linear.legal a i x.0 (in_take n acts a m) x.1) in
      ((linear_at n).complete i).1 (a, t.0, m, subst (λ y. In (i, y) a.done) t.1 x.1)

  -- the history up to a point is no longer than the whole
  pub short_of_all : (n p : ℕ) → p ≤ length (history_at base f acts n) → p ≤ length (history_of base f acts)
  short_of_all n p le =
      let b = begins n in
      let e : length all ≡ length (upto n) + length b.0 = ap length b.1 ∙ length-append (upto n) b.0 in
      let x = as_many (history_of base f acts) in
      let y = as_many (history_at base f acts n) in
      omega arith

  module _ (r : Read) (p : ℕ) (is : IsBetween base f acts r p) where
    behind : (i : ℕ) (a : Act) → Has all i → In a (take r.asked acts) → Has (order_of a.done) i → place all i < p
    behind i a k m e =
        let b = by_then r.asked i a k m e in
        let s = (same_place r.asked i b).0 in
        let n = as_many (history_at base f acts r.asked) in
        let le = is.asked in
        omega (arith, b, s, n, le)

    -- an act that stands before the answer stands before what is proposed after it
    stands_before : (i : ℕ) (d : Command) (t : WasProposed base f acts i d) → r.answered ≤ length t.before → (a : Act) → In a (take r.answered acts) → In a t.before
    stands_before i d t le a m =
        in_take r.answered t.before a (subst (λ these. In a these) (ap (take r.answered) (sym t.stands) ∙ take-append-le r.answered t.before (t.proposal ∷ t.after) le) m)

    before : (i : ℕ) (d : Command) (t : WasProposed base f acts i d) → Has all i → r.answered ≤ length t.before → p ≤ place all i
    before i d t k le = go p refl
      where
        go : (n : ℕ) → n ≡ p → n ≤ place all i
        go zero e = omega arith
        go (suc n) e =
            let most = is.answered in
            let many = as_many (history_at base f acts r.answered) in
            let last = at_place (upto r.answered) n (from_once (upto r.answered) (linear_at r.answered).once) (omega (arith, e, most, many)) in
            let x = ((linear_at r.answered).complete last.0).0 last.1 in
            let at = same_place r.answered last.0 last.1 in
            let lt = linear.real_time last.0 i at.1 k (record { command = d; proposed = t; act = x.0; earlier = stands_before i d t le x.0 x.2; executed = in_has x.0.done last.0 (Replied x.1) x.3 }) in
            omega (arith, lt, at.0, last.2)

    keeps_real_time : KeepsRealTime base f acts r p
    keeps_real_time = record {
      behind = behind;
      before = before;
      in_turn = λ s q le there. (let a = is.answered in let m = longer r.answered s.asked le in let b = there.asked in omega (arith, a, m, b));
    }

pub reads_keep_real_time_lem : ReadsKeepRealTime
reads_keep_real_time_lem base f some few acts run r p is = keeps_real_time base f some few acts run r p is
