-- A set that gains instances, one execution after the other.
use Rattle.std.proofs.Common.{◌≡◌, ℕ, ◌+◌, ◌<◌, ◌⊎◌, ◌↔◌, inl, inr, List, [], ◌∷◌, ◌++◌, length, take, get_or, refl, sym, ap, ap₂, subst, ◌∙◌, arith}
use Rattle.std.proofs.lemmas.List.{take_more}
use Rattle.ep_base.specs.Instances.{IsInstance}
use Rattle.ep_base.specs.Places.{Has}
use Rattle.ep_base.specs.declared.reply.Answer.{Answer}
use Rattle.ep_base.specs.declared.reply.Answer.TheVariants.{Replied}
use Rattle.ep_exec.proofs.Counts.{single_has}
use Rattle.ep_journal.specs.Entries.{entries_of, entry_of}
use Rattle.ep_journal.specs.declared.entry.Entry.{Entry}
use Rattle.ep_journal.proofs.Growing.{entries_grow}
use Rattle.ep_rules.specs.Journals as rules
use Rattle.ep_rules.specs.Worlds.{In}
use Rattle.ep_rules.proofs.Merged.{in_left, in_right, in_split}
use Rattle.ep_rules.proofs.Places.{has_left, has_or, has_right, has_split, has_single}
use Rattle.ep_opening.specs.Closing.{WasAnswered}
use Rattle.ep_opening.specs.Gathering.{Gains, WasAnsweredIn, WasDone}

-- answers

-- sets

pub gains_more : (P Q R : ℕ → Type 0) (a b c : List ℕ) → ((i : ℕ) → R i ↔ (P i ⊎ Q i)) → Gains P a b → Gains Q b c → Gains R a c
gains_more P Q R a b c parts p q = record {
  has = λ i. (
    λ h. elim ((q.has i).0 h) [
      | inl hb ↦ elim ((p.has i).0 hb) [ inl ha ↦ inl ha | inr x ↦ inr ((parts i).1 (inl x)) ]
      | inr y ↦ inr ((parts i).1 (inr y))
    ],
    λ h. elim h [
      | inl ha ↦ (q.has i).1 (inl ((p.has i).1 (inl ha)))
      | inr r ↦ elim ((parts i).0 r) [ inl x ↦ (q.has i).1 (inl ((p.has i).1 (inr x))) | inr y ↦ (q.has i).1 (inr y) ]
    ],
  );
  instances = λ i r. elim ((parts i).0 r) [ inl x ↦ p.instances i x | inr y ↦ q.instances i y ];
}

-- an instance was added, or was there
pub gains_one : (old mid new : List ℕ) (j : ℕ) → IsInstance j → mid ≡ old → ((Has mid j → ⊥) → new ≡ mid ++ j ∷ []) → (Has mid j → new ≡ mid) → Gains (λ i. i ≡ j) old new
gains_one old mid new j known same fresh there = record {
  has = elim (has_or mid j) [
    | inl h ↦ has_there h
    | inr n ↦ has_fresh n
  ];
  instances = λ i is. subst IsInstance (sym is) known;
}
  where
    has_there : Has mid j → (i : ℕ) → Has new i ↔ (Has old i ⊎ (i ≡ j))
    has_there h i =
        let e : new ≡ old = there h ∙ same in
        let here : Has old j = subst (λ zs. Has zs j) same h in (
          λ k. inl (subst (λ zs. Has zs i) e k),
          λ k. subst (λ zs. Has zs i) (sym e) (elim k [ inl a ↦ a | inr is ↦ subst (λ m. Has old m) (sym is) here ]),
        )

    has_fresh : (Has mid j → ⊥) → (i : ℕ) → Has new i ↔ (Has old i ⊎ (i ≡ j))
    has_fresh n i =
        let e : new ≡ old ++ j ∷ [] = fresh n ∙ ap (λ zs. zs ++ j ∷ []) same in
        let here : Has (old ++ j ∷ []) j = has_right old (j ∷ []) j (single_has j) in (
          λ k. elim (has_split old (j ∷ []) i (subst (λ zs. Has zs i) e k)) [ inl a ↦ inl a | inr b ↦ inr (sym (has_single j i b)) ],
          λ k. subst (λ zs. Has zs i) (sym e) (elim k [ inl a ↦ has_left old (j ∷ []) i a | inr is ↦ subst (λ m. Has (old ++ j ∷ []) m) (sym is) here ]),
        )

-- executions

answered_there : (done : List (ℕ × Answer)) (j : ℕ) (x : Answer) (i : ℕ) → WasAnsweredIn (done ++ (j, x) ∷ []) i → WasAnsweredIn done i ⊎ ((i ≡ j) × WasDone x)
answered_there done j x i a = elim (in_split (i, Replied a.0) done ((j, x) ∷ []) a.1) [
  | inl h ↦ inl (a.0, h, a.2)
  | inr h ↦ elim h [
    | inl e ↦ inr (sym (ap (λ (p : ℕ × Answer). p.0) e), (a.0, ap (λ (p : ℕ × Answer). p.1) e, a.2))
    | inr none ↦ absurd none
  ]
]

answered_before : (done : List (ℕ × Answer)) (j : ℕ) (x : Answer) (i : ℕ) → WasAnsweredIn done i → WasAnsweredIn (done ++ (j, x) ∷ []) i
answered_before done j x i a = (a.0, in_left (i, Replied a.0) done ((j, x) ∷ []) a.1, a.2)

answered_last : (done : List (ℕ × Answer)) (j : ℕ) (x : Answer) (i : ℕ) → i ≡ j → WasDone x → WasAnsweredIn (done ++ (j, x) ∷ []) i
answered_last done j x i is d =
    let e : (j, x) ≡ (i, Replied d.0) = ap₂ (λ (m : ℕ) (y : Answer). (m, y)) (sym is) d.1 in
    (d.0, in_right (i, Replied d.0) done ((j, x) ∷ []) (inl e), d.2)

answered_push : (done : List (ℕ × Answer)) (j : ℕ) (x : Answer) (i : ℕ) → WasAnsweredIn (done ++ (j, x) ∷ []) i ↔ (WasAnsweredIn done i ⊎ ((i ≡ j) × WasDone x))
answered_push done j x i = (answered_there done j x i, λ h. elim h [ inl a ↦ answered_before done j x i a | inr p ↦ answered_last done j x i p.0 p.1 ])

pub noted_more : (done : List (ℕ × Answer)) (k j : ℕ) (x : Answer) (a b c : List ℕ) → k < length done → (j, x) ≡ get_or done k (j, x) → Gains (WasAnsweredIn (take k done)) a b → Gains (λ i. (i ≡ j) × WasDone x) b c
    → Gains (WasAnsweredIn (take (k + 1) done)) a c
noted_more done k j x a b c lt is p q =
    let next : take (k + 1) done ≡ take k done ++ (j, x) ∷ [] = take_more done k (j, x) lt ∙ ap (λ (y : ℕ × Answer). take k done ++ y ∷ []) (sym is) in
    subst (λ (ds : List (ℕ × Answer)). Gains (WasAnsweredIn ds) a c) (sym next)
    (gains_more (WasAnsweredIn (take k done)) (λ i. (i ≡ j) × WasDone x) (WasAnsweredIn (take k done ++ (j, x) ∷ [])) a b c (answered_push (take k done) j x) p q)

-- entries

entry_there : (es : List rules.Entry) (e : rules.Entry) (i : ℕ) → WasAnswered (es ++ e ∷ []) i → WasAnswered es i ⊎ WasAnsweredIn e.done i
entry_there es e i a = elim (in_split a.0 es (e ∷ []) a.2) [
  | inl h ↦ inl (a.0, a.1, h, a.3, a.4)
  | inr h ↦ elim h [
    | inl same ↦ inr (a.1, subst (λ (z : rules.Entry). In (i, Replied a.1) z.done) (sym same) a.3, a.4)
    | inr none ↦ absurd none
  ]
]

entry_before : (es : List rules.Entry) (e : rules.Entry) (i : ℕ) → WasAnswered es i → WasAnswered (es ++ e ∷ []) i
entry_before es e i a = (a.0, a.1, in_left a.0 es (e ∷ []) a.2, a.3, a.4)

entry_last : (es : List rules.Entry) (e : rules.Entry) (i : ℕ) → WasAnsweredIn e.done i → WasAnswered (es ++ e ∷ []) i
entry_last es e i a = (e, a.0, in_right e es (e ∷ []) (inl refl), a.1, a.2)

entry_push : (es : List rules.Entry) (e : rules.Entry) (i : ℕ) → WasAnswered (es ++ e ∷ []) i ↔ (WasAnswered es i ⊎ WasAnsweredIn e.done i)
entry_push es e i = (entry_there es e i, λ h. elim h [ inl a ↦ entry_before es e i a | inr b ↦ entry_last es e i b ])

pub gathered_more : (es : List Entry) (k : ℕ) (e : Entry) (a b c : List ℕ) → k < length es → e ≡ get_or es k e → Gains (WasAnswered (entries_of (take k es))) a b → Gains (WasAnsweredIn e.done) b c
    → Gains (WasAnswered (entries_of (take (k + 1) es))) a c
gathered_more es k e a b c lt is p q =
    let next : entries_of (take (k + 1) es) ≡ entries_of (take k es) ++ entry_of e ∷ [] =
    ap entries_of (take_more es k e lt ∙ ap (λ (y : Entry). take k es ++ y ∷ []) (sym is)) ∙ entries_grow (take k es) e
    in
    subst (λ (these : List rules.Entry). Gains (WasAnswered these) a c) (sym next)
    (gains_more (WasAnswered (entries_of (take k es))) (WasAnsweredIn e.done) (WasAnswered (entries_of (take k es) ++ entry_of e ∷ [])) a b c (entry_push (entries_of (take k es)) (entry_of e)) p q)

-- and in any list that has them too
pub all_of : (P : ℕ → Type 0) (set list : List ℕ) → Gains P [] set → ((i : ℕ) → Has list i ↔ Has set i) → (i : ℕ) → Has list i ↔ P i
all_of P set list g same i = (
  λ h. elim ((g.has i).0 ((same i).0 h)) [ inl none ↦ absurd (omega (arith, none)) | inr p ↦ p ],
  λ p. (same i).1 ((g.has i).1 (inr p)),
)
