-- Histories of generations, joined.
use Rattle.std.proofs.Common.{◌≡◌, ℕ, zero, suc, ◌+◌, ◌<◌, ◌≤◌, ◌⊎◌, true, false, eqb, inl, inr, List, ◌++◌, length, get_or, sym, ap, subst, ◌∙◌, arith, length-append}
use Rattle.std.proofs.lemmas.Bool.{cases_Bool, cases_lt, eqb-true}
use Rattle.std.proofs.lemmas.List.{get_or_append_left, get_or-append-add}
use Rattle.ep_base.specs.Places.{place, Has}
use Rattle.ep_base.specs.declared.reply.Answer.{Answer}
use Rattle.ep_base.specs.declared.reply.Answer.TheVariants.{Replied}
use Rattle.ep_base.specs.declared.reply.Reply.TheVariants.{Absent}
use Rattle.ep_rules.specs.Closing.{up_to_seal, written_by, read_by}
use Rattle.ep_rules.specs.Generations.{Named, named, operations, joined, place_in, HasIn, NamedOnce, IsLegalIn}
use Rattle.ep_rules.specs.Linearizable.{IsLegal}
use Rattle.ep_rules.specs.OneMap.{Contents, opened, replies}
use Rattle.ep_rules.specs.Operations.{Operation, instances_of, commands_of}
use Rattle.ep_rules.specs.Worlds.{In}
use Rattle.ep_rules.proofs.CutHistories.{AreReal, cut_in, cut_out, once_cut, length_reads, cut_reply, late_reply, written_both, read_both}
use Rattle.ep_rules.proofs.Lives.{in_both}
use Rattle.ep_rules.proofs.NamedPlaces.{length_named, named_here, named_elsewhere, operations_named, operations_both, length_operations, has_in_or, place_in_both, place_in_second, in_named, named_once, once_both}
use Rattle.ep_rules.proofs.Places.{Once, has_or}

-- Histories of generations, each up to its first seal, joined: places, and what one map reports.
module _ (h_of : ℕ → List Operation) where
  abbrev cut : ℕ → List Operation
  cut g = up_to_seal (h_of g)

  abbrev J : ℕ → List Named
  J n = joined h_of n

  pub J_back : (n g i : ℕ) → HasIn (J n) g i → (g < n) × Has (instances_of (cut g)) i × (place_in (J n) g i ≡ length (J g) + place (instances_of (cut g)) i)
  J_back zero g i h = absurd (omega arith)
  J_back (suc m) g i h = elim (has_in_or (J m) g i) [
    | inl k ↦ (let r = J_back m g i k in ((let l = r.0 in omega arith), r.1, place_in_both (J m) (named m (cut m)) g i k ∙ r.2))
    | inr n ↦ last (cases_Bool (eqb m g)) (place_in_second (J m) (named m (cut m)) g i n)
  ]
    where
      last : (eqb m g ≡ true) ⊎ (eqb m g ≡ false) → place_in (J (suc m)) g i ≡ length (J m) + place_in (named m (cut m)) g i → (g < suc m) × Has (instances_of (cut g)) i × (place_in (J (suc m)) g i ≡ length (J g) + place (instances_of (cut g)) i)
      last (inl e) p =
          let is : m ≡ g = eqb-true m g e in
          let q : place_in (named m (cut m)) g i ≡ place (instances_of (cut m)) i = subst (λ z. place_in (named m (cut m)) z i ≡ place (instances_of (cut m)) i) is (named_here m (cut m) i) in
          let l = length-append (J m) (named m (cut m)) in
          let n = length_named m (cut m) in
          let has : Has (instances_of (cut m)) i = omega arith in
          let at : place_in (J (suc m)) g i ≡ length (J m) + place (instances_of (cut m)) i = omega arith in
          (omega arith, subst (λ z. Has (instances_of (cut z)) i) is has, subst (λ z. place_in (J (suc m)) g i ≡ length (J z) + place (instances_of (cut z)) i) is at)
      last (inr e) p =
          let q = named_elsewhere m g (cut m) i e in
          let l = length-append (J m) (named m (cut m)) in
          absurd (omega arith)

  pub J_forth : (n g i : ℕ) → g < n → Has (instances_of (cut g)) i → HasIn (J n) g i
  J_forth zero g i lt h = absurd (omega arith)
  J_forth (suc m) g i lt h = elim (has_in_or (J m) g i) [
    | inl k ↦ (let p = place_in_both (J m) (named m (cut m)) g i k in let l = length-append (J m) (named m (cut m)) in omega arith)
    | inr n ↦ elim (cases_lt g m) [
      | inl less ↦ absurd (n (J_forth m g i less h))
      | inr ge ↦ (
          let is : m ≡ g = omega arith in
          let p = place_in_second (J m) (named m (cut m)) g i n in
          let q : place_in (named m (cut m)) g i ≡ place (instances_of (cut g)) i = subst (λ z. place_in (named z (cut z)) g i ≡ place (instances_of (cut g)) i) (sym is) (named_here g (cut g) i) in
          let l = length-append (J m) (named m (cut m)) in
          let k = length_named m (cut m) in
          let same : length (instances_of (cut m)) ≡ length (instances_of (cut g)) = ap (λ z. length (instances_of (cut z))) is in
          omega arith)
    ]
  ]

  pub length_next : (g : ℕ) → length (J (suc g)) ≡ length (J g) + length (instances_of (cut g))
  length_next g = length-append (J g) (named g (cut g)) ∙ ap (λ n. length (J g) + n) (length_named g (cut g))

  pub length_up : (n g : ℕ) → g ≤ n → length (J g) ≤ length (J n)
  length_up zero g le = let is : g ≡ 0 = omega arith in subst (λ z. length (J z) ≤ length (J zero)) (sym is) (omega arith)
  length_up (suc m) g le = elim (cases_lt m g) [
    | inl more ↦ (let is : g ≡ suc m = omega arith in subst (λ z. length (J z) ≤ length (J (suc m))) (sym is) (omega arith))
    | inr less ↦ (let r = length_up m g (omega arith) in let l = length_next m in omega arith)
  ]

  pub ages_apart : (n g i k j : ℕ) → HasIn (J n) g i → HasIn (J n) k j → g < k → place_in (J n) g i < place_in (J n) k j
  ages_apart n g i k j hi hj lt =
      let a = J_back n g i hi in
      let b = J_back n k j hj in
      let p = a.2 in
      let q = b.2 in
      let h : Has (instances_of (cut g)) i = a.1 in
      let l = length_next g in
      let m = length_up k (suc g) (omega arith) in
      omega arith

  pub member : (n : ℕ) (o : Named) → In o (J n) → (o.generation < n) × In o.operation (cut o.generation)
  member zero o k = absurd k
  member (suc m) o k = elim (in_both (J m) (named m (cut m)) o k) [
    | inl a ↦ (let r = member m o a in ((let l = r.0 in omega arith), r.1))
    | inr b ↦ (let r = in_named m (cut m) o b in ((let e = r.0 in omega arith), subst (λ z. In o.operation (cut z)) (sym r.0) r.1))
  ]

  pub once_J : (n : ℕ) → ((g : ℕ) → g < n → Once (instances_of (h_of g))) → NamedOnce (J n)
  once_J zero once = tt
  once_J (suc m) once = once_both (J m) (named m (cut m)) (once_J m (λ g lt. once g (omega arith))) (named_once m (cut m) (once_cut (h_of m) (once m (omega arith)))) (λ o k has.
      let lt = (member m o k).0 in
      elim (cases_Bool (eqb m o.generation)) [
        | inl e ↦ (let is = eqb-true m o.generation e in omega arith)
        | inr e ↦ (let p = named_elsewhere m o.generation (cut m) o.operation.instance e in omega arith)
      ])

  -- where each generation opens with the map that the one before has left at its seal
  module _ (base : ℕ → Contents) (start : Contents) (first : base 0 ≡ start) where
    written_J : (n : ℕ) → ((g : ℕ) → g < n → base (suc g) ≡ written_by (base g) (cut g)) → written_by start (operations (J n)) ≡ base n
    written_J zero next = sym first
    written_J (suc m) next =
        ap (written_by start) (operations_both (J m) (named m (cut m)) ∙ ap (λ os. operations (J m) ++ os) (operations_named m (cut m)))
        ∙ written_both start (operations (J m)) (cut m)
        ∙ ap (λ n. written_by n (cut m)) (written_J m (λ g lt. next g (omega arith)))
        ∙ sym (next m (omega arith))

    read_next : (m : ℕ) → ((g : ℕ) → g < m → base (suc g) ≡ written_by (base g) (cut g)) → read_by start (operations (J (suc m))) ≡ read_by start (operations (J m)) ++ read_by (base m) (cut m)
    read_next m next =
        ap (read_by start) (operations_both (J m) (named m (cut m)) ∙ ap (λ os. operations (J m) ++ os) (operations_named m (cut m)))
        ∙ read_both start (operations (J m)) (cut m)
        ∙ ap (λ n. read_by start (operations (J m)) ++ read_by n (cut m)) (written_J m next)

    length_read : (m : ℕ) → length (read_by start (operations (J m))) ≡ length (J m)
    length_read m = length_reads start (operations (J m)) ∙ length_operations (J m)

    pub read_J : (n g p : ℕ) → ((g : ℕ) → suc g < n → base (suc g) ≡ written_by (base g) (cut g)) → g < n → p < length (instances_of (cut g)) → get_or (read_by start (operations (J n))) (length (J g) + p) Absent ≡ get_or (read_by (base g) (cut g)) p Absent
    read_J zero g p next lt less = absurd (omega arith)
    read_J (suc m) g p next lt less = ap (λ rs. get_or rs (length (J g) + p) Absent) (read_next m (λ k l. next k (omega arith))) ∙ elim (cases_lt g m) [
      | inl l ↦ (
          let k = length_read m in
          let u = length_up m (suc g) (omega arith) in
          let v = length_next g in
          get_or_append_left (read_by start (operations (J m))) (read_by (base m) (cut m)) Absent (length (J g) + p) (omega arith) ∙ read_J m g p (λ k u. next k (omega arith)) l less)
      | inr ge ↦ (
          let is : m ≡ g = omega arith in
          let at : length (J g) + p ≡ length (read_by start (operations (J m))) + p = (let k = length_read m in let e : length (J m) ≡ length (J g) = ap (λ z. length (J z)) is in omega arith) in
          ap (λ n. get_or (read_by start (operations (J m)) ++ read_by (base m) (cut m)) n Absent) at
          ∙ get_or-append-add (read_by start (operations (J m))) (read_by (base m) (cut m)) p Absent
          ∙ ap (λ z. get_or (read_by (base z) (cut z)) p Absent) is)
    ]

    -- a legal answer of a generation is one of the joined history
    pub legal_in : (n g i : ℕ) (x : Answer) → ((g : ℕ) → suc g < n → base (suc g) ≡ written_by (base g) (cut g)) → g < n → AreReal (h_of g) → IsLegal (opened (base g)) (h_of g) i x → IsLegalIn start (J n) g i x
    legal_in n g i x next lt real (inl lost) = inl ((λ hj. lost.0 (cut_in (h_of g) i (J_back n g i hj).1).0), inl lost.1)
    legal_in n g i x next lt real (inr reported) = elim (has_or (instances_of (cut g)) i) [
      | inl c ↦ (
          let hj = J_forth n g i lt c in
          let at = J_back n g i hj in
          let p = cut_in (h_of g) i c in
          inr (
            hj,
            reported.1 ∙ ap Replied (
                ap (λ n. get_or (replies (opened (base g)) (commands_of (h_of g))) n Absent) (sym p.1)
                ∙ cut_reply (base g) (h_of g) (place (instances_of (cut g)) i) c
                ∙ sym (read_J n g (place (instances_of (cut g)) i) next lt c)
                ∙ ap (λ q. get_or (read_by start (operations (J n))) q Absent) (sym at.2)),
          ))
      | inr none ↦ inl (
        (λ hj. none (J_back n g i hj).1),
        inr (reported.1 ∙ ap Replied (late_reply (base g) (h_of g) (place (instances_of (h_of g)) i) real (cut_out (h_of g) i none) reported.0)),
      )
    ]
