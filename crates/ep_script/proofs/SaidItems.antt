-- Items are what is said of their keys.
use Rattle.std.proofs.Common.{◌≡◌, ◌≢◌, ℕ, ◌+◌, ◌≤◌, Bool, true, false, cond, List, [], ◌∷◌, ◌++◌, length, length-append, append_assoc, Option, Some, None, refl, sym, ap, subst, ◌∙◌, true≢false, arith, ◌⊎◌, inl, inr}
use Rattle.std.specs.Prelude.{option_map, option_and_then, is_some, ◌&&◌, ◌||◌, MatchOption}
use Rattle.std.specs.Cmp.Derive.{both_true}
use Rattle.std.specs.Cmp.Lexicographic.{slice_cmp}
use Rattle.std.specs.Ordering.{nat_cmp, is_eq, is_lt, ordering_reverse}
use Rattle.std.specs.declared.cmp.Ordering.{Ordering}
use Rattle.std.specs.declared.cmp.Ordering.TheVariants.{Less, Equal, Greater}
use Rattle.std.proofs.lemmas.Bool.{and_parts}
use Rattle.std.proofs.lemmas.Cmp.{nat_list_cmp_total}
use Rattle.std.proofs.lemmas.List.{append-nil}
use Rattle.ep_base.specs.Attributes.{same_list}
use Rattle.ep_base.specs.Interference.{has_key}
use Rattle.ep_base.specs.Items.{Item, item_keys, rise_above}
use Rattle.ep_base.specs.CommandParts.{flag}
use Rattle.ep_base.proofs.Ascending.{below_none}
use Rattle.ep_base.proofs.Same.{Decides-same_list}
use Rattle.ep_script.specs.Clauses.{Said, alone, with_clause, placed, with_said, merged, said_of, guards, number_reported, writes, IsTwice, listed, SaysThese, item_of, rise, AreSaid, MergingLaw}
use Rattle.ep_script.specs.declared.clause.Clause.{Clause}
use Rattle.ep_script.specs.declared.clause.Clause.TheVariants.{Guard, Reported, Write}
use Rattle.ep_script.proofs.KeySets.{same_by_cmp}

-- Options.

none_then : {X : Type 0} (b : Bool) (x : X) → cond b None (Some x) ≡ None → b ≡ true
none_then true x e = refl
none_then false x e = absurd (cc)

some_then : {X : Type 0} (b : Bool) (x y : X) → cond b None (Some x) ≡ Some y → (b ≡ false) × (x ≡ y)
some_then true x y e = absurd (cc)
some_then false x y e = (refl, (cc))

mapped_some : {X Y : Type 0} (f : X → Y) (o : Option X) (y : Y) → option_map f o ≡ Some y → (x : X) × (o ≡ Some x) × (f x ≡ y)
mapped_some f None y e = absurd (cc)
mapped_some f (Some x) y e = (x, refl, (cc))

mapped_none : {X Y : Type 0} (f : X → Y) (o : Option X) → option_map f o ≡ None → o ≡ None
mapped_none f None e = refl
mapped_none f (Some x) e = absurd (cc)

-- Of one key: what is said, and one thing more.

guards_more : (cs ds : List Clause) → guards (cs ++ ds) ≡ guards cs ++ guards ds
guards_more [] ds = refl
guards_more (Guard w ∷ cs) ds = ap (λ (xs : List (Option (List ℕ))). w ∷ xs) (guards_more cs ds)
guards_more (Reported ∷ cs) ds = guards_more cs ds
guards_more (Write w ∷ cs) ds = guards_more cs ds

number_reported_more : (cs ds : List Clause) → number_reported (cs ++ ds) ≡ number_reported cs + number_reported ds
number_reported_more [] ds = let e : number_reported ds ≡ 0 + number_reported ds = omega arith in e
number_reported_more (Guard w ∷ cs) ds = number_reported_more cs ds
number_reported_more (Reported ∷ cs) ds = let e : number_reported (cs ++ ds) ≡ number_reported cs + number_reported ds = number_reported_more cs ds in omega arith
number_reported_more (Write w ∷ cs) ds = number_reported_more cs ds

writes_more : (cs ds : List Clause) → writes (cs ++ ds) ≡ writes cs ++ writes ds
writes_more [] ds = refl
writes_more (Guard w ∷ cs) ds = writes_more cs ds
writes_more (Reported ∷ cs) ds = writes_more cs ds
writes_more (Write w ∷ cs) ds = ap (λ (xs : List (Option (List ℕ))). w ∷ xs) (writes_more cs ds)

-- what is said twice stays so
twice_more : (cs ds : List Clause) → IsTwice cs → IsTwice (cs ++ ds)
twice_more cs ds (inl h) =
    let e : length (guards (cs ++ ds)) ≡ length (guards cs) + length (guards ds) = ap length (guards_more cs ds) ∙ length-append (guards cs) (guards ds) in
    inl (omega arith)
twice_more cs ds (inr (inl h)) = let e : number_reported (cs ++ ds) ≡ number_reported cs + number_reported ds = number_reported_more cs ds in inr (inl (omega arith))
twice_more cs ds (inr (inr h)) =
    let e : length (writes (cs ++ ds)) ≡ length (writes cs) + length (writes ds) = ap length (writes_more cs ds) ∙ length-append (writes cs) (writes ds) in
    inr (inr (omega arith))

listed_none : (o : Option (Option (List ℕ))) → is_some o ≡ false → listed o ≡ []
listed_none None e = refl
listed_none (Some x) e = absurd (true≢false e)

listed_some : (o : Option (Option (List ℕ))) → is_some o ≡ true → length (listed o) ≡ 1
listed_some None e = absurd (true≢false (sym e))
listed_some (Some x) e = refl

some_said : (cs : List Clause) (c : Clause) → (cs ++ c ∷ []) ≢ []
some_said [] c e = absurd (cc)
some_said (d ∷ cs) c e = absurd (cc)

says_new : (k : List ℕ) (c : Clause) → SaysThese (c ∷ []) (alone k c)
says_new k (Guard w) = record { some = some_said [] (Guard w); guard = refl; reported = refl; write = refl }
says_new k Reported = record { some = some_said [] Reported; guard = refl; reported = refl; write = refl }
says_new k (Write w) = record { some = some_said [] (Write w); guard = refl; reported = refl; write = refl }

says_more : (c : Clause) (cs : List Clause) (i j : Item) → SaysThese cs i → with_clause c i ≡ Some j → SaysThese (cs ++ c ∷ []) j
says_more (Guard w) cs i j h e =
    let p = some_then (is_some i.guard) (record { key = i.key; guard = Some w; reported = i.reported; write = i.write }) j e in
    subst (SaysThese (cs ++ Guard w ∷ [])) p.1 (record {
      some = some_said cs (Guard w);
      guard = guards_more cs (Guard w ∷ []) ∙ ap (λ (xs : List (Option (List ℕ))). xs ++ w ∷ []) (h.guard ∙ listed_none i.guard p.0);
      reported = number_reported_more cs (Guard w ∷ []) ∙ (let e : number_reported cs + 0 ≡ number_reported cs = omega arith in e) ∙ h.reported;
      write = writes_more cs (Guard w ∷ []) ∙ append-nil (writes cs) ∙ h.write;
    })
says_more Reported cs i j h e =
    let p = some_then i.reported (record { key = i.key; guard = i.guard; reported = true; write = i.write }) j e in
    subst (SaysThese (cs ++ Reported ∷ [])) p.1 (record {
      some = some_said cs Reported;
      guard = guards_more cs (Reported ∷ []) ∙ append-nil (guards cs) ∙ h.guard;
      reported = number_reported_more cs (Reported ∷ []) ∙ ap (λ n. n + 1) (h.reported ∙ ap (flag 1) p.0);
      write = writes_more cs (Reported ∷ []) ∙ append-nil (writes cs) ∙ h.write;
    })
says_more (Write w) cs i j h e =
    let p = some_then (is_some i.write) (record { key = i.key; guard = i.guard; reported = i.reported; write = Some w }) j e in
    subst (SaysThese (cs ++ Write w ∷ [])) p.1 (record {
      some = some_said cs (Write w);
      guard = guards_more cs (Write w ∷ []) ∙ append-nil (guards cs) ∙ h.guard;
      reported = number_reported_more cs (Write w ∷ []) ∙ (let e : number_reported cs + 0 ≡ number_reported cs = omega arith in e) ∙ h.reported;
      write = writes_more cs (Write w ∷ []) ∙ ap (λ (xs : List (Option (List ℕ))). xs ++ w ∷ []) (h.write ∙ listed_none i.write p.0);
    })

says_twice : (c : Clause) (cs : List Clause) (i : Item) → SaysThese cs i → with_clause c i ≡ None → IsTwice (cs ++ c ∷ [])
says_twice (Guard w) cs i h e =
    let one : length (guards cs) ≡ 1 = ap length h.guard ∙ listed_some i.guard (none_then (is_some i.guard) _ e) in
    let more : length (guards (cs ++ Guard w ∷ [])) ≡ length (guards cs) + 1 = ap length (guards_more cs (Guard w ∷ [])) ∙ length-append (guards cs) (w ∷ []) in
    inl (omega arith)
says_twice Reported cs i h e =
    let one : number_reported cs ≡ 1 = h.reported ∙ ap (flag 1) (none_then i.reported _ e) in
    let more : number_reported (cs ++ Reported ∷ []) ≡ number_reported cs + 1 = number_reported_more cs (Reported ∷ []) in
    inr (inl (omega arith))
says_twice (Write w) cs i h e =
    let one : length (writes cs) ≡ 1 = ap length h.write ∙ listed_some i.write (none_then (is_some i.write) _ e) in
    let more : length (writes (cs ++ Write w ∷ [])) ≡ length (writes cs) + 1 = ap length (writes_more cs (Write w ∷ [])) ∙ length-append (writes cs) (w ∷ []) in
    inr (inr (omega arith))

-- Keys.

alone_key : (k : List ℕ) (c : Clause) → (alone k c).key ≡ k
alone_key k (Guard w) = refl
alone_key k Reported = refl
alone_key k (Write w) = refl

keeps_key : (c : Clause) (i j : Item) → with_clause c i ≡ Some j → j.key ≡ i.key
keeps_key (Guard w) i j e = ap (λ (x : Item). x.key) (sym (some_then (is_some i.guard) (record { key = i.key; guard = Some w; reported = i.reported; write = i.write }) j e).1)
keeps_key Reported i j e = ap (λ (x : Item). x.key) (sym (some_then i.reported (record { key = i.key; guard = i.guard; reported = true; write = i.write }) j e).1)
keeps_key (Write w) i j e = ap (λ (x : Item). x.key) (sym (some_then (is_some i.write) (record { key = i.key; guard = i.guard; reported = i.reported; write = Some w }) j e).1)

abbrev compared : Said → Item → Ordering
compared s i = slice_cmp nat_cmp i.key s.key

self_same : (k : List ℕ) → same_list k k ≡ true
self_same k = (Decides-same_list k k).1 refl

-- the item's key isn't the one that is said of, or is
other_key : (s : Said) (i : Item) (o : Ordering) → compared s i ≡ o → is_eq o ≡ false → same_list s.key i.key ≡ false
other_key s i o q e = sym (same_by_cmp s.key i.key) ∙ ap is_eq q ∙ e

own_key : (s : Said) (i : Item) → compared s i ≡ Equal → s.key ≡ i.key
own_key s i q = (Decides-same_list s.key i.key).0 (sym (same_by_cmp s.key i.key) ∙ ap is_eq q)

turned : (s : Said) (i : Item) → compared s i ≡ Greater → slice_cmp nat_cmp s.key i.key ≡ Less
turned s i q = nat_list_cmp_total.antisymm s.key i.key ∙ ap ordering_reverse q

skips : (k : List ℕ) (i : Item) (is : List Item) → same_list k i.key ≡ false → item_of k (i ∷ is) ≡ item_of k is
skips k i is e = ap (λ b. cond b (Some i) (item_of k is)) e

takes : (k : List ℕ) (i : Item) (is : List Item) → same_list k i.key ≡ true → item_of k (i ∷ is) ≡ Some i
takes k i is e = ap (λ b. cond b (Some i) (item_of k is)) e

none_of : (k : List ℕ) (is : List Item) → has_key k (item_keys is) ≡ false → item_of k is ≡ None
none_of k [] e = refl
none_of k (i ∷ is) e = go (none_of k is) (same_list k i.key) e
  where
    go : (has_key k (item_keys is) ≡ false → item_of k is ≡ None) → (b : Bool) → (b || has_key k (item_keys is)) ≡ false → cond b (Some i) (item_of k is) ≡ None
    go more true f = absurd (true≢false f)
    go more false f = more f

-- What was put among the items.

-- the items of other keys are as they were
others : (s : Said) (k : List ℕ) (is js : List Item) → same_list k s.key ≡ false → with_said s is ≡ Some js → item_of k js ≡ item_of k is
others s k [] js d e =
    let new : alone s.key s.clause ∷ [] ≡ js = cc in
    ap (item_of k) (sym new) ∙ skips k (alone s.key s.clause) [] (ap (same_list k) (alone_key s.key s.clause) ∙ d)
others s k (i ∷ is) js d e = go (λ ks. others s k is ks d) (compared s i) refl e
  where
    go : ((ks : List Item) → with_said s is ≡ Some ks → item_of k ks ≡ item_of k is) → (o : Ordering) → compared s i ≡ o → placed o s i is (with_said s is) ≡ Some js → item_of k js ≡ item_of k (i ∷ is)
    go more Less q f =
        let p = mapped_some (λ (ks : List Item). i ∷ ks) (with_said s is) js f in
        ap (item_of k) (sym p.2) ∙ ap (λ x. cond (same_list k i.key) (Some i) x) (more p.0 p.1)
    go more Equal q f =
        let p = mapped_some (λ (j : Item). j ∷ is) (with_clause s.clause i) js f in
        let old : same_list k i.key ≡ false = ap (same_list k) (sym (own_key s i q)) ∙ d in
        let new : same_list k (p.0).key ≡ false = ap (same_list k) (keeps_key s.clause i p.0 p.1) ∙ old in
        ap (item_of k) (sym p.2) ∙ skips k p.0 is new ∙ sym (skips k i is old)
    go more Greater q f =
        let new : alone s.key s.clause ∷ i ∷ is ≡ js = cc in
        ap (item_of k) (sym new) ∙ skips k (alone s.key s.clause) (i ∷ is) (ap (same_list k) (alone_key s.key s.clause) ∙ d)

-- the key's is new, or has what is said too
abbrev Own : Said → Option Item → Option Item → Type 0
Own s old new = MatchOption old (new ≡ Some (alone s.key s.clause)) (λ i. (j : Item) × (with_clause s.clause i ≡ Some j) × (new ≡ Some j))

fresh : (s : Said) (is : List Item) → item_of s.key (alone s.key s.clause ∷ is) ≡ Some (alone s.key s.clause)
fresh s is = takes s.key (alone s.key s.clause) is (ap (same_list s.key) (alone_key s.key s.clause) ∙ self_same s.key)

rise_behind : (k : List ℕ) (is : List Item) → rise_above k is ≡ true → rise is ≡ true
rise_behind k [] h = refl
rise_behind k (i ∷ is) h = (and_parts (is_lt (slice_cmp nat_cmp k i.key)) (rise_above i.key is) h).1

own : (s : Said) (is js : List Item) → rise is ≡ true → with_said s is ≡ Some js → Own s (item_of s.key is) (item_of s.key js)
own s [] js r e = let new : alone s.key s.clause ∷ [] ≡ js = cc in ap (item_of s.key) (sym new) ∙ fresh s []
own s (i ∷ is) js r e = go (λ ks. own s is ks (rise_behind i.key is r)) (compared s i) refl e
  where
    go : ((ks : List Item) → with_said s is ≡ Some ks → Own s (item_of s.key is) (item_of s.key ks)) → (o : Ordering) → compared s i ≡ o → placed o s i is (with_said s is) ≡ Some js → Own s (item_of s.key (i ∷ is)) (item_of s.key js)
    go more Less q f =
        let p = mapped_some (λ (ks : List Item). i ∷ ks) (with_said s is) js f in
        let other = other_key s i Less q refl in
        subst (λ (o : Option Item). Own s o (item_of s.key js)) (sym (skips s.key i is other))
        (subst (λ (o : Option Item). Own s (item_of s.key is) o) (sym (skips s.key i p.0 other) ∙ ap (item_of s.key) p.2) (more p.0 p.1))
    go more Equal q f =
        let p = mapped_some (λ (j : Item). j ∷ is) (with_clause s.clause i) js f in
        let old : same_list s.key i.key ≡ true = (Decides-same_list s.key i.key).1 (own_key s i q) in
        let new : same_list s.key (p.0).key ≡ true = ap (same_list s.key) (keeps_key s.clause i p.0 p.1) ∙ old in
        subst (λ (o : Option Item). Own s o (item_of s.key js)) (sym (takes s.key i is old)) (p.0, p.1, ap (item_of s.key) (sym p.2) ∙ takes s.key p.0 is new)
    go more Greater q f =
        let new : alone s.key s.clause ∷ i ∷ is ≡ js = cc in
        let none : item_of s.key (i ∷ is) ≡ None = skips s.key i is (other_key s i Greater q refl) ∙ none_of s.key is (below_none s.key i.key is (turned s i q) r) in
        subst (λ (o : Option Item). Own s o (item_of s.key js)) (sym none) (ap (item_of s.key) (sym new) ∙ fresh s (i ∷ is))

-- none where an item has the key, and says such a thing
refused : (s : Said) (is : List Item) → with_said s is ≡ None → (i : Item) × (item_of s.key is ≡ Some i) × (with_clause s.clause i ≡ None)
refused s [] e = absurd (cc)
refused s (i ∷ is) e = go (refused s is) (compared s i) refl e
  where
    go : (with_said s is ≡ None → (x : Item) × (item_of s.key is ≡ Some x) × (with_clause s.clause x ≡ None)) → (o : Ordering) → compared s i ≡ o → placed o s i is (with_said s is) ≡ None → (x : Item) × (item_of s.key (i ∷ is) ≡ Some x) × (with_clause s.clause x ≡ None)
    go more Less q f =
        let p = more (mapped_none (λ (ks : List Item). i ∷ ks) (with_said s is) f) in
        (p.0, skips s.key i is (other_key s i Less q refl) ∙ p.1, p.2)
    go more Equal q f = (i, takes s.key i is ((Decides-same_list s.key i.key).1 (own_key s i q)), mapped_none (λ (j : Item). j ∷ is) (with_clause s.clause i) f)
    go more Greater q f = absurd (cc)

-- Keys rise as before.

rises_from : (s : Said) (k : List ℕ) (is js : List Item) → rise_above k is ≡ true → slice_cmp nat_cmp k s.key ≡ Less → with_said s is ≡ Some js → rise_above k js ≡ true
rises_from s k [] js r l e =
    let new : alone s.key s.clause ∷ [] ≡ js = cc in
    ap (rise_above k) (sym new) ∙ both_true (ap (λ q. is_lt (slice_cmp nat_cmp k q)) (alone_key s.key s.clause) ∙ ap is_lt l) refl
rises_from s k (i ∷ is) js r l e = go (rises_from s i.key is) (compared s i) refl e
  where
    go : ((ks : List Item) → rise_above i.key is ≡ true → slice_cmp nat_cmp i.key s.key ≡ Less → with_said s is ≡ Some ks → rise_above i.key ks ≡ true) → (o : Ordering) → compared s i ≡ o → placed o s i is (with_said s is) ≡ Some js → rise_above k js ≡ true
    go more Less q f =
        let p = mapped_some (λ (ks : List Item). i ∷ ks) (with_said s is) js f in
        let h = and_parts (is_lt (slice_cmp nat_cmp k i.key)) (rise_above i.key is) r in
        ap (rise_above k) (sym p.2) ∙ both_true h.0 (more p.0 h.1 q p.1)
    go more Equal q f =
        let p = mapped_some (λ (j : Item). j ∷ is) (with_clause s.clause i) js f in
        ap (rise_above k) (sym p.2) ∙ ap (λ x. is_lt (slice_cmp nat_cmp k x) && rise_above x is) (keeps_key s.clause i p.0 p.1) ∙ r
    go more Greater q f =
        let new : alone s.key s.clause ∷ i ∷ is ≡ js = cc in
        let h = and_parts (is_lt (slice_cmp nat_cmp k i.key)) (rise_above i.key is) r in
        ap (rise_above k) (sym new)
        ∙ ap (λ x. is_lt (slice_cmp nat_cmp k x) && (is_lt (slice_cmp nat_cmp x i.key) && rise_above i.key is)) (alone_key s.key s.clause)
        ∙ both_true (ap is_lt l) (both_true (ap is_lt (turned s i q)) h.1)

rises : (s : Said) (is js : List Item) → rise is ≡ true → with_said s is ≡ Some js → rise js ≡ true
rises s [] js r e = let new : alone s.key s.clause ∷ [] ≡ js = cc in ap rise (sym new)
rises s (i ∷ is) js r e = go (compared s i) refl e
  where
    go : (o : Ordering) → compared s i ≡ o → placed o s i is (with_said s is) ≡ Some js → rise js ≡ true
    go Less q f =
        let p = mapped_some (λ (ks : List Item). i ∷ ks) (with_said s is) js f in
        ap rise (sym p.2) ∙ rises_from s i.key is p.0 r q p.1
    go Equal q f =
        let p = mapped_some (λ (j : Item). j ∷ is) (with_clause s.clause i) js f in
        ap rise (sym p.2) ∙ ap (λ x. rise_above x is) (keeps_key s.clause i p.0 p.1) ∙ r
    go Greater q f =
        let new : alone s.key s.clause ∷ i ∷ is ≡ js = cc in
        ap rise (sym new) ∙ ap (λ x. is_lt (slice_cmp nat_cmp x i.key) && rise_above i.key is) (alone_key s.key s.clause) ∙ both_true (ap is_lt (turned s i q)) r

-- The law.

abbrev one : List ℕ → Said → List Clause
one k s = cond (same_list k s.key) (s.clause ∷ []) []

said_more : (k : List ℕ) (ss : List Said) (s : Said) → said_of k (ss ++ s ∷ []) ≡ said_of k ss ++ one k s
said_more k [] s = refl
said_more k (x ∷ ss) s = go (said_more k ss s) (same_list k x.key)
  where
    go : said_of k (ss ++ s ∷ []) ≡ said_of k ss ++ one k s → (b : Bool) → cond b (x.clause ∷ said_of k (ss ++ s ∷ [])) (said_of k (ss ++ s ∷ [])) ≡ cond b (x.clause ∷ said_of k ss) (said_of k ss) ++ one k s
    go more true = ap (λ (cs : List Clause). x.clause ∷ cs) more
    go more false = more

said_both : (k : List ℕ) (ss ts : List Said) → said_of k (ss ++ ts) ≡ said_of k ss ++ said_of k ts
said_both k [] ts = refl
said_both k (x ∷ ss) ts = go (said_both k ss ts) (same_list k x.key)
  where
    go : said_of k (ss ++ ts) ≡ said_of k ss ++ said_of k ts → (b : Bool) → cond b (x.clause ∷ said_of k (ss ++ ts)) (said_of k (ss ++ ts)) ≡ cond b (x.clause ∷ said_of k ss) (said_of k ss) ++ said_of k ts
    go more true = ap (λ (cs : List Clause). x.clause ∷ cs) more
    go more false = more

said_here : (ss : List Said) (s : Said) → said_of s.key (ss ++ s ∷ []) ≡ said_of s.key ss ++ s.clause ∷ []
said_here ss s = said_more s.key ss s ∙ ap (λ b. said_of s.key ss ++ cond b (s.clause ∷ []) []) (self_same s.key)

abbrev Each : List Clause → Option Item → Type 0
Each cs o = MatchOption o (cs ≡ []) (SaysThese cs)

each_own : (s : Said) (cs ds : List Clause) (old new : Option Item) → ds ≡ cs ++ s.clause ∷ [] → Each cs old → Own s old new → Each ds new
each_own s cs ds None new e h o =
    let is : ds ≡ s.clause ∷ [] = e ∙ ap (λ (xs : List Clause). xs ++ s.clause ∷ []) h in
    subst (Each ds) (sym o) (subst (λ (xs : List Clause). SaysThese xs (alone s.key s.clause)) (sym is) (says_new s.key s.clause))
each_own s cs ds (Some i) new e h o = subst (Each ds) (sym o.2) (subst (λ (xs : List Clause). SaysThese xs o.0) (sym e) (says_more s.clause cs i o.0 h o.1))

are_more : (ss : List Said) (s : Said) (is js : List Item) → AreSaid ss is → with_said s is ≡ Some js → AreSaid (ss ++ s ∷ []) js
are_more ss s is js h e = record { rise = rises s is js h.rise e; each = λ k. at k (same_list k s.key) refl }
  where
    here : Each (said_of s.key (ss ++ s ∷ [])) (item_of s.key js)
    here = each_own s (said_of s.key ss) (said_of s.key (ss ++ s ∷ [])) (item_of s.key is) (item_of s.key js) (said_here ss s) (h.each s.key) (own s is js h.rise e)

    at : (k : List ℕ) (b : Bool) → same_list k s.key ≡ b → Each (said_of k (ss ++ s ∷ [])) (item_of k js)
    at k true q = subst (λ (x : List ℕ). Each (said_of x (ss ++ s ∷ [])) (item_of x js)) (sym ((Decides-same_list k s.key).0 q)) here
    at k false q =
        let said : said_of k (ss ++ s ∷ []) ≡ said_of k ss = said_more k ss s ∙ ap (λ b. said_of k ss ++ cond b (s.clause ∷ []) []) q ∙ append-nil (said_of k ss) in
        subst (λ (cs : List Clause). Each cs (item_of k js)) (sym said) (subst (Each (said_of k ss)) (sym (others s k is js q e)) (h.each k))

is_twice : (ss : List Said) (s : Said) (is : List Item) → AreSaid ss is → with_said s is ≡ None → IsTwice (said_of s.key (ss ++ s ∷ []))
is_twice ss s is h e =
    let p = refused s is e in
    let says : SaysThese (said_of s.key ss) p.0 = subst (Each (said_of s.key ss)) p.1 (h.each s.key) in
    subst IsTwice (sym (said_here ss s)) (says_twice s.clause (said_of s.key ss) p.0 says p.2)

abbrev Merges : List Said → Option (List Item) → Type 0
Merges ss o = MatchOption o ((k : List ℕ) × IsTwice (said_of k ss)) (AreSaid ss)

merges : (done ss : List Said) (is : List Item) → AreSaid done is → Merges (done ++ ss) (merged is ss)
merges done [] is h = subst (λ (x : List Said). AreSaid x is) (sym (append-nil done)) h
merges done (s ∷ ss) is h = go (merges (done ++ s ∷ []) ss) (with_said s is) refl
  where
    all : (done ++ s ∷ []) ++ ss ≡ done ++ s ∷ ss
    all = append_assoc done (s ∷ []) ss

    go : ((js : List Item) → AreSaid (done ++ s ∷ []) js → Merges ((done ++ s ∷ []) ++ ss) (merged js ss)) → (o : Option (List Item)) → with_said s is ≡ o → Merges (done ++ s ∷ ss) (option_and_then (λ js. merged js ss) o)
    go more None e = (s.key, subst (λ (x : List Said). IsTwice (said_of s.key x)) all (subst IsTwice (sym (said_both s.key (done ++ s ∷ []) ss)) (twice_more (said_of s.key (done ++ s ∷ [])) (said_of s.key ss) (is_twice done s is h e))))
    go more (Some js) e = subst (λ (x : List Said). Merges x (merged js ss)) all (more js (are_more done s is js h e))

none_said : AreSaid [] []
none_said = record { rise = refl; each = λ k. refl }

pub merging_law : MergingLaw
merging_law ss = merges [] ss [] none_said
