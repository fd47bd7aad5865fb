-- What is found by one pass over the entries of a table is the least instance that is open.
use Rattle.std.proofs.Common.{◌≡◌, ℕ, ◌<◌, ◌≤◌, ◌⊎◌, Bool, true, false, cond, ltb, Option, Some, None, is_none, List, [], ◌∷◌, ◌++◌, length, take, inl, inr, refl, sym, ap, subst, ◌∙◌, arith, true≢false}
use Rattle.std.specs.Prelude.{◌&&◌}
use Rattle.std.specs.Map.{keys_of, lookup}
use Rattle.std.proofs.lemmas.Bool.{ltb-true, ltb-false, lt-ltb, eqb-true, and_parts}
use Rattle.std.proofs.lemmas.List.{take_all}
use Rattle.std.proofs.lemmas.Map.{lookup-none}
use Rattle.std.proofs.lemmas.Map.Entries.{none_past_head}
use Rattle.std.proofs.lemmas.Map.Keys.{IsDistinct-tail}
use Rattle.ep_base.specs.Deps.{IsRising}
use Rattle.ep_base.specs.Places.{Has}
use Rattle.ep_base.proofs.Members.{first_below}
use Rattle.ep_base.proofs.Places.{Has-empty, Has-cons_cases, Has-head, Has-tail}
use Rattle.ep_base.specs.declared.decree.Decree.{Decree}
use Rattle.ep_rules.specs.Maps.{Map, get}
use Rattle.ep_rules.specs.States.{committed_in}
use Rattle.ep_rules.specs.Worlds.{In}
use Rattle.ep_rules.specs.declared.record.Record.{Record}
use Rattle.ep_space.specs.Entries.{held, flat, same, IsTable}
use Rattle.ep_space.specs.Open.{deps_of, ReportsOf, IsOpen, IsAbove, IsNextOpen, is_above, is_left, first_left, lesser, IsLeast, EntryReports, AreReporting, IsLeastOf, IsLeastIn, AreRecords}
use Rattle.ep_space.proofs.Lookup.{get-held}
use Rattle.ep_space.proofs.Order.{same_equiv, same_number}

-- The least.

pub least_lesser : (P Q : ℕ → Type 0) (a b : Option ℕ) → IsLeast P a → IsLeast Q b → IsLeast (λ i. P i ⊎ Q i) (lesser a b)
least_lesser P Q None None p q = λ j h. elim h [ inl x ↦ p j x | inr x ↦ q j x ]
least_lesser P Q None (Some b) p q = (inr q.0, λ j h. elim h [ inl x ↦ absurd (p j x) | inr x ↦ q.1 j x ])
least_lesser P Q (Some a) None p q = (inl p.0, λ j h. elim h [ inl x ↦ p.1 j x | inr x ↦ absurd (q j x) ])
least_lesser P Q (Some a) (Some b) p q = go (ltb b a) refl
  where
    go : (t : Bool) → ltb b a ≡ t → IsLeast (λ i. P i ⊎ Q i) (cond t (Some b) (Some a))
    go true e = let low : b < a = ltb-true b a e in (inr q.0, λ j h less. elim h [ inl x ↦ p.1 j x (omega (arith, less, low)) | inr x ↦ q.1 j x less ])
    go false e = let high : a ≤ b = ltb-false b a e in (inl p.0, λ j h less. elim h [ inl x ↦ p.1 j x less | inr x ↦ q.1 j x (omega (arith, less, high)) ])

pub least_same : (P Q : ℕ → Type 0) (o : Option ℕ) → ((j : ℕ) → P j → Q j) → ((j : ℕ) → Q j → P j) → IsLeast P o → IsLeast Q o
least_same P Q None to from h = λ j q. h j (from j q)
least_same P Q (Some i) to from h = (to i h.0, λ j q. h.1 j (from j q))

-- One entry.

-- dependencies rise, so the first that is left is the least
pub least_first : (m : Map Record) (after : Option ℕ) (is : List ℕ) → IsRising is → IsLeast (λ i. Has is i × (is_left m after i ≡ true)) (first_left m after is)
least_first m after [] rising = λ j h. Has-empty j h.0
least_first m after (i ∷ is) rising = go (is_left m after i) refl (least_first m after is rising.1)
  where
    go : (t : Bool) → is_left m after i ≡ t → IsLeast (λ j. Has is j × (is_left m after j ≡ true)) (first_left m after is)
        → IsLeast (λ j. Has (i ∷ is) j × (is_left m after j ≡ true)) (cond t (Some i) (first_left m after is))
    go true e rest = ((Has-head i is i refl, e), λ j h less. elim (Has-cons_cases i is j h.0) [ inl there ↦ omega (arith, there, less) | inr there ↦ (let up = first_below i is rising j there in omega (arith, up, less)) ])
    go false e rest =
        least_same (λ j. Has is j × (is_left m after j ≡ true)) (λ j. Has (i ∷ is) j × (is_left m after j ≡ true)) (first_left m after is) (λ j h. (Has-tail i is j h.0, h.1))
        (λ j h.
        elim (Has-cons_cases i is j h.0) [
          | inl there ↦ absurd (true≢false (sym h.1 ∙ ap (is_left m after) (sym there) ∙ e))
          | inr there ↦ (there, h.1)
        ])
        rest

pub least_itself : (m : Map Record) (after : Option ℕ) (i : ℕ) (t : Bool) → t ≡ is_left m after i → IsLeast (λ j. (i ≡ j) × (is_left m after j ≡ true)) (cond t (Some i) None)
least_itself m after i true e = ((refl, sym e), λ j h less. let there : i ≡ j = h.0 in omega (arith, there, less))
least_itself m after i false e = λ j h. true≢false (sym h.1 ∙ ap (is_left m after) (sym h.0) ∙ sym e)

pub least_entry : (m : Map Record) (after : Option ℕ) (i : ℕ) (r : Record) (a b : Option ℕ) → IsLeast (λ j. (i ≡ j) × (is_left m after j ≡ true)) a
    → IsLeast (λ j. Has (deps_of r.vote) j × (is_left m after j ≡ true)) b → IsLeastOf m after i (Some r) (lesser a b)
least_entry m after i r a b own named =
    least_same (λ j. ((i ≡ j) × (is_left m after j ≡ true)) ⊎ (Has (deps_of r.vote) j × (is_left m after j ≡ true))) (λ j. EntryReports i (Some r) j × (is_left m after j ≡ true)) (lesser a b)
    (λ j h. elim h [ inl x ↦ (inl x.0, x.1) | inr x ↦ (inr x.0, x.1) ])
    (λ j h. elim h.0 [ inl x ↦ inl (x, h.1) | inr x ↦ inr (x, h.1) ])
    (least_lesser _ _ a b own named)

-- One entry more.

reporting_more : (es : List (ℕ × Option Record)) (e : ℕ × Option Record) (j : ℕ) → AreReporting es j ⊎ EntryReports e.0 e.1 j → AreReporting (es ++ e ∷ []) j
reporting_more [] e j (inl h) = absurd h
reporting_more [] e j (inr h) = inl h
reporting_more (x ∷ es) e j (inl (inl h)) = inl h
reporting_more (x ∷ es) e j (inl (inr h)) = inr (reporting_more es e j (inl h))
reporting_more (x ∷ es) e j (inr h) = inr (reporting_more es e j (inr h))

reporting_split : (es : List (ℕ × Option Record)) (e : ℕ × Option Record) (j : ℕ) → AreReporting (es ++ e ∷ []) j → AreReporting es j ⊎ EntryReports e.0 e.1 j
reporting_split [] e j (inl h) = inr h
reporting_split [] e j (inr h) = absurd h
reporting_split (x ∷ es) e j (inl h) = inl (inl h)
reporting_split (x ∷ es) e j (inr h) = elim (reporting_split es e j h) [ inl there ↦ inl (inr there) | inr there ↦ inr there ]

pub least_more : (m : Map Record) (after : Option ℕ) (i : ℕ) (o : Option Record) (a b : Option ℕ) → IsLeastOf m after i o b → (es : List (ℕ × Option Record)) → IsLeastIn m after es a
    → IsLeastIn m after (es ++ (i, o) ∷ []) (lesser a b)
least_more m after i o a b this es before =
    least_same (λ j. (AreReporting es j × (is_left m after j ≡ true)) ⊎ (EntryReports i o j × (is_left m after j ≡ true))) (λ j. AreReporting (es ++ (i, o) ∷ []) j × (is_left m after j ≡ true)) (lesser a b)
    (λ j h. elim h [ inl x ↦ (reporting_more es (i, o) j (inl x.0), x.1) | inr x ↦ (reporting_more es (i, o) j (inr x.0), x.1) ])
    (λ j h. elim (reporting_split es (i, o) j h.0) [ inl x ↦ inl (x, h.1) | inr x ↦ inr (x, h.1) ])
    (least_lesser _ _ a b before this)

-- after all entries
pub least_whole : (m : Map Record) (after : Option ℕ) (es : List (ℕ × Option Record)) (n : ℕ) (o : Option ℕ) → length es ≤ n → IsLeastIn m after (take n es) o → IsLeastIn m after es o
least_whole m after es n o all least = subst (λ (xs : List (ℕ × Option Record)). IsLeastIn m after xs o) (take_all n es all) least

-- The entries of a table.

module _ {X : Type 0} where
  found_in : (i : ℕ) (x : X) (es : List (ℕ × Option X)) → flat (lookup (same i) es) ≡ Some x → In (i, Some x) es
  found_in i x [] e = absurd (cc)
  found_in i x (y ∷ es) e = go (same i y.0) refl e (found_in i x es)
    where
      go : (t : Bool) → same i y.0 ≡ t → flat (cond t (Some y.1) (lookup (same i) es)) ≡ Some x → (flat (lookup (same i) es) ≡ Some x → In (i, Some x) es) → In (i, Some x) (y ∷ es)
      go true is at rest = let here : i ≡ y.0 = eqb-true i y.0 (sym (same_number i y.0) ∙ is) in inl (λ t. (sym here t, at t))
      go false is at rest = inr (rest at)

  looked_up : (i : ℕ) (x : X) (es : List (ℕ × Option X)) → IsTable es → In (i, Some x) es → flat (lookup (same i) es) ≡ Some x
  looked_up i x [] table h = absurd h
  looked_up i x (y ∷ es) table (inl is) =
      ap (λ b. flat (cond b (Some y.1) (lookup (same i) es))) (ap (λ z. same i z.0) is ∙ same_equiv.refl i) ∙ ap (λ z. z.1) is
  looked_up i x (y ∷ es) table (inr h) = go (same i y.0) refl (looked_up i x es (IsDistinct-tail same y.0 (keys_of es) table) h)
    where
      go : (t : Bool) → same i y.0 ≡ t → flat (lookup (same i) es) ≡ Some x → flat (cond t (Some y.1) (lookup (same i) es)) ≡ Some x
      go true is at = absurd (let gone : flat (lookup (same i) es) ≡ None = ap flat (lookup-none (same i) es (none_past_head same_equiv i y es table is)) in let odd : Some x ≡ None = sym at ∙ gone in cc)
      go false is at = at

  pub entries_are : (es : List (ℕ × Option X)) → IsTable es → (i : ℕ) (x : X) → (get (held es).held i ≡ Some x → In (i, Some x) es) × (In (i, Some x) es → get (held es).held i ≡ Some x)
  entries_are es table i x = (λ e. found_in i x es (sym (get-held i es table) ∙ e), λ h. get-held i es table ∙ looked_up i x es table h)

-- What entries name is what is known.

reported_by : (es : List (ℕ × Option Record)) (i : ℕ) → AreReporting es i → (j : ℕ) × (r : Record) × In (j, Some r) es × ReportsOf j r i
reported_by [] i h = absurd h
reported_by ((j, None) ∷ es) i (inl h) = absurd h
reported_by ((j, Some r) ∷ es) i (inl h) = (j, r, inl refl, h)
reported_by (e ∷ es) i (inr h) = let rest = reported_by es i h in (rest.0, rest.1, inr rest.2, rest.3)

reporting : (es : List (ℕ × Option Record)) (i j : ℕ) (r : Record) → In (j, Some r) es → ReportsOf j r i → AreReporting es i
reporting [] i j r h t = absurd h
reporting (e ∷ es) i j r (inl is) t = inl (subst (λ (z : ℕ × Option Record). EntryReports z.0 z.1 i) (sym is) t)
reporting (e ∷ es) i j r (inr h) t = inr (reporting es i j r h t)

above_is : (after : Option ℕ) (i : ℕ) → is_above after i ≡ true → IsAbove after i
above_is None i e = tt
above_is (Some j) i e = ltb-true j i e

is_so : (after : Option ℕ) (i : ℕ) → IsAbove after i → is_above after i ≡ true
is_so None i h = refl
is_so (Some j) i h = lt-ltb j i h

none_is : (o : Option Decree) → is_none o ≡ true → o ≡ None
none_is None e = refl
none_is (Some x) e = absurd (true≢false (sym e))

left_is : (m : Map Record) (after : Option ℕ) (i : ℕ) → is_left m after i ≡ true → IsAbove after i × (committed_in m i ≡ None)
left_is m after i e = let parts = and_parts (is_above after i) (is_none (committed_in m i)) e in (above_is after i parts.0, none_is (committed_in m i) parts.1)

is_left_so : (m : Map Record) (after : Option ℕ) (i : ℕ) → IsAbove after i → committed_in m i ≡ None → is_left m after i ≡ true
is_left_so m after i above free = ap (λ b. b && is_none (committed_in m i)) (is_so after i above) ∙ ap (λ (o : Option Decree). is_none o) free

next_by : (m : Map Record) (after o : Option ℕ) → IsLeast (λ j. IsOpen m j × IsAbove after j) o → IsNextOpen m after o
next_by m after None h = λ j free above. h j (free, above)
next_by m after (Some i) h = (h.0.0, h.0.1, λ j free above. h.1 j (free, above))

pub next_found : (m : Map Record) (after : Option ℕ) (es : List (ℕ × Option Record)) (o : Option ℕ) → AreRecords m es → IsLeastIn m after es o → IsNextOpen m after o
next_found m after es o all least =
    next_by m after o
    (least_same (λ j. AreReporting es j × (is_left m after j ≡ true)) (λ j. IsOpen m j × IsAbove after j) o
    (λ j h.
    let reported = reported_by es j h.0 in
    let left = left_is m after j h.1 in
    (((reported.0, reported.1, (all reported.0 reported.1).1 reported.2, reported.3), left.1), left.0))
    (λ j h.
    let known = h.0.0 in (reporting es j known.0 known.1 ((all known.0 known.1).0 known.2) known.3, is_left_so m after j h.1 h.0.1))
    least)
