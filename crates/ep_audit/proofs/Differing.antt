-- The least key that has not the same in two maps, found among their entries.
use Rattle.std.proofs.Common.{◌≡◌, ◌≢◌, ℕ, zero, suc, ◌+◌, ◌<◌, ◌≤◌, arith, length, ltb, get_or, IfOk, Result, Ok, Err, Bool, true, false, ◌&&◌, true≢false, cond, T, Option, Some, None, List, [], ◌∷◌, drop, slice_get, refl, sym, ap, ap₂, subst, ◌∙◌, Ordering, Less, Equal, Greater, is_lt}
use Rattle.std.specs.Cmp.Lexicographic.{nat_list_cmp_total}
use Rattle.std.specs.FinMap.{entries, entries_sorted, find, get-entries, is_sorted, same_entries_map}
use Rattle.std.specs.FinMap.Entries.{below_all}
use Rattle.std.specs.Cmp.{tied_itself}
use Rattle.std.specs.Ordering.{is_eq, ordering_reverse}
use Rattle.std.proofs.lemmas.Bool.{ltb-false, ltb-true}
use Rattle.std.specs.Borrow.{Bor}
use Rattle.std.specs.Option.{IfSome, is_some, option_copied}
use Rattle.std.specs.Prelude.{MatchOption}
use Rattle.std.specs.declared.alloc.AllocError.{AllocError}
use Rattle.std.proofs.lemmas.Map.Lookups.{exact_bytes}
use Rattle.ep_base.specs.Attributes.{same_list}
use Rattle.ep_base.proofs.Same.{Decides-same_list}
use Rattle.ep_exec.specs.Table.{key_cmp}
use Rattle.ep_exec.proofs.Rising.{less_of, and_first, and_second}
use Rattle.ep_rules.specs.OneMap.{Contents}
use Rattle.ep_audit.specs.Differences.{IsLeastDifference, difference, is_same_at, lesser_key, lesser_of}

abbrev Pair : Type 0
Pair = List ℕ × List ℕ

-- What a rising list has.

lower : (q x : List ℕ) (es : List Pair) → key_cmp q x ≡ Less → below_all key_cmp x es ≡ true → below_all key_cmp q es ≡ true
lower q x [] lt h = refl
lower q x (e ∷ es) lt h =
    ap₂ (λ a b. a && b) (ap is_lt (nat_list_cmp_total.trans q x e.0 lt (less_of _ (and_first _ _ h)))) (lower q x es lt (and_second _ _ h))

none_below : (q : List ℕ) (es : List Pair) → below_all key_cmp q es ≡ true → find key_cmp q es ≡ None
none_below q [] h = refl
none_below q (e ∷ es) h =
    let lt : key_cmp q e.0 ≡ Less = less_of _ (and_first _ _ h) in
    ap (λ o. cond (is_eq o) (Some e.1) (find key_cmp q es)) lt ∙ none_below q es (and_second _ _ h)

none_first : (q : List ℕ) (e : Pair) (es : List Pair) → key_cmp q e.0 ≡ Less → is_sorted key_cmp (e ∷ es) ≡ true → find key_cmp q (e ∷ es) ≡ None
none_first q e es lt h = none_below q (e ∷ es) (ap₂ (λ a b. a && b) (ap is_lt lt) (lower q e.0 es lt (and_first _ _ h)))

found_first : (e : Pair) (es : List Pair) → find key_cmp e.0 (e ∷ es) ≡ Some e.1
found_first e es = ap (λ o. cond (is_eq o) (Some e.1) (find key_cmp e.0 es)) (tied_itself nat_list_cmp_total e.0)

-- Two rising lists.

record Differs (es os : List Pair) (k : List ℕ) : Type 0 where
  differs : find key_cmp k es ≢ find key_cmp k os
  below : (q : List ℕ) → key_cmp q k ≡ Less → find key_cmp q es ≡ find key_cmp q os

alone : (e : Pair) (es : List Pair) → is_sorted key_cmp (e ∷ es) ≡ true → Differs (e ∷ es) [] e.0
alone e es s = record {
  differs = λ same. let t : Some e.1 ≡ None = sym (found_first e es) ∙ same in cc;
  below = λ q lt. none_first q e es lt s;
}

other_alone : (o : Pair) (os : List Pair) → is_sorted key_cmp (o ∷ os) ≡ true → Differs [] (o ∷ os) o.0
other_alone o os s = record {
  differs = λ same. let t : None ≡ Some o.1 = same ∙ found_first o os in cc;
  below = λ q lt. sym (none_first q o os lt s);
}

-- both begin with the same
alike : (e : Pair) (es os : List Pair) (k : List ℕ) → is_sorted key_cmp (e ∷ es) ≡ true → is_sorted key_cmp (e ∷ os) ≡ true → Differs es os k → Differs (e ∷ es) (e ∷ os) k
alike e es os k s t d = record {
  differs = go (key_cmp k e.0) refl;
  below = λ q lt. ap (λ v. cond (is_eq (key_cmp q e.0)) (Some e.1) v) (d.below q lt);
}
  where
    go : (c : Ordering) → key_cmp k e.0 ≡ c → cond (is_eq (key_cmp k e.0)) (Some e.1) (find key_cmp k es) ≢ cond (is_eq (key_cmp k e.0)) (Some e.1) (find key_cmp k os)
    go Less is same = d.differs (sym (ap (λ c. cond (is_eq c) (Some e.1) (find key_cmp k es)) is) ∙ same ∙ ap (λ c. cond (is_eq c) (Some e.1) (find key_cmp k os)) is)
    go Greater is same = d.differs (sym (ap (λ c. cond (is_eq c) (Some e.1) (find key_cmp k es)) is) ∙ same ∙ ap (λ c. cond (is_eq c) (Some e.1) (find key_cmp k os)) is)
    go Equal is same =
        let here : k ≡ e.0 = exact_bytes k e.0 is in
        d.differs (none_below k es (subst (λ z. below_all key_cmp z es ≡ true) (sym here) (and_first _ _ s)) ∙ sym (none_below k os (subst (λ z. below_all key_cmp z os ≡ true) (sym here) (and_first _ _ t))))

-- or not
apart : (e o : Pair) (es os : List Pair) → is_sorted key_cmp (e ∷ es) ≡ true → is_sorted key_cmp (o ∷ os) ≡ true → (same_list e.0 o.0 && same_list e.1 o.1) ≡ false → Differs (e ∷ es) (o ∷ os) (lesser_of e.0 o.0)
apart e o es os s t not_same = go (key_cmp o.0 e.0) refl
  where
    first : key_cmp e.0 o.0 ≡ Less → Differs (e ∷ es) (o ∷ os) e.0
    first lt = record {
      differs = λ same. let k : Some e.1 ≡ None = sym (found_first e es) ∙ same ∙ none_first e.0 o os lt t in cc;
      below = λ q l. none_first q e es l s ∙ sym (none_first q o os (nat_list_cmp_total.trans q e.0 o.0 l lt) t);
    }

    second : key_cmp o.0 e.0 ≡ Less → Differs (e ∷ es) (o ∷ os) o.0
    second lt = record {
      differs = λ same. let k : None ≡ Some o.1 = sym (none_first o.0 e es lt s) ∙ same ∙ found_first o os in cc;
      below = λ q l. none_first q e es (nat_list_cmp_total.trans q o.0 e.0 l lt) s ∙ sym (none_first q o os l t);
    }

    both : o.0 ≡ e.0 → Differs (e ∷ es) (o ∷ os) e.0
    both is = record {
      differs = λ same.
          let k : Some e.1 ≡ Some o.1 = sym (found_first e es) ∙ same ∙ subst (λ z. find key_cmp z (o ∷ os) ≡ Some o.1) is (found_first o os) in
          let v : e.1 ≡ o.1 = cc in
          true≢false (sym (ap₂ (λ a b. a && b) ((Decides-same_list e.0 o.0).1 (sym is)) ((Decides-same_list e.1 o.1).1 v)) ∙ not_same);
      below = λ q l. none_first q e es l s ∙ sym (none_first q o os (subst (λ z. key_cmp q z ≡ Less) (sym is) l) t);
    }

    turned : key_cmp o.0 e.0 ≡ Greater → key_cmp e.0 o.0 ≡ Less
    turned g = nat_list_cmp_total.antisymm e.0 o.0 ∙ ap ordering_reverse g

    go : (c : Ordering) → key_cmp o.0 e.0 ≡ c → Differs (e ∷ es) (o ∷ os) (cond (is_lt (key_cmp o.0 e.0)) o.0 e.0)
    go Less is = subst (λ c. Differs (e ∷ es) (o ∷ os) (cond (is_lt c) o.0 e.0)) (sym is) (second is)
    go Equal is = subst (λ c. Differs (e ∷ es) (o ∷ os) (cond (is_lt c) o.0 e.0)) (sym is) (both (exact_bytes o.0 e.0 is))
    go Greater is = subst (λ c. Differs (e ∷ es) (o ∷ os) (cond (is_lt c) o.0 e.0)) (sym is) (first (turned is))

differ : (es os : List Pair) (k : List ℕ) → is_sorted key_cmp es ≡ true → is_sorted key_cmp os ≡ true → difference es os ≡ Some k → Differs es os k
differ [] [] k s t e = absurd (cc)
differ (x ∷ es) [] k s t e = let is : x.0 ≡ k = cc in subst (λ z. Differs (x ∷ es) [] z) is (alone x es s)
differ [] (y ∷ os) k s t e = let is : y.0 ≡ k = cc in subst (λ z. Differs [] (y ∷ os) z) is (other_alone y os t)
differ (x ∷ es) (y ∷ os) k s t e = go (same_list x.0 y.0 && same_list x.1 y.1) refl e (differ es os k (and_second _ _ s) (and_second _ _ t))
  where
    go : (b : Bool) → (same_list x.0 y.0 && same_list x.1 y.1) ≡ b → cond b (difference es os) (Some (lesser_of x.0 y.0)) ≡ Some k → (difference es os ≡ Some k → Differs es os k) → Differs (x ∷ es) (y ∷ os) k
    go true is e rec =
        let keys : x.0 ≡ y.0 = (Decides-same_list x.0 y.0).0 (and_first _ _ is) in
        let values : x.1 ≡ y.1 = (Decides-same_list x.1 y.1).0 (and_second _ _ is) in
        let one : ◌≡◌ {A = Pair} x y = ap₂ (λ a b. (a, b)) keys values in
        subst (λ (z : Pair). Differs (x ∷ es) (z ∷ os) k) one (alike x es os k s (subst (λ (z : Pair). is_sorted key_cmp (z ∷ os) ≡ true) (sym one) t) (rec e))
    go false is e rec = let k_is : lesser_of x.0 y.0 ≡ k = cc in subst (λ z. Differs (x ∷ es) (y ∷ os) z) k_is (apart x y es os s t is)

one_list : (es os : List Pair) → difference es os ≡ None → es ≡ os
one_list [] [] e = refl
one_list (x ∷ es) [] e = absurd (cc)
one_list [] (y ∷ os) e = absurd (cc)
one_list (x ∷ es) (y ∷ os) e = go (same_list x.0 y.0 && same_list x.1 y.1) refl e (one_list es os)
  where
    go : (b : Bool) → (same_list x.0 y.0 && same_list x.1 y.1) ≡ b → cond b (difference es os) (Some (lesser_of x.0 y.0)) ≡ None → (difference es os ≡ None → es ≡ os) → x ∷ es ≡ y ∷ os
    go true is e rec =
        let keys : x.0 ≡ y.0 = (Decides-same_list x.0 y.0).0 (and_first _ _ is) in
        let values : x.1 ≡ y.1 = (Decides-same_list x.1 y.1).0 (and_second _ _ is) in
        let one : ◌≡◌ {A = Pair} x y = ap₂ (λ a b. (a, b)) keys values in
        ap₂ (λ (z : Pair) (zs : List Pair). z ∷ zs) one (rec e)
    go false is e rec = absurd (cc)

-- The code's steps.

-- where they aren't the same, the lesser key is what differs of the rest
pub lesser_here : (es os : List Pair) (p : ℕ) → is_same_at (slice_get es p) (slice_get os p) ≡ false → lesser_key (slice_get es p) (slice_get os p) ≡ difference (drop p es) (drop p os)
lesser_here [] [] zero e = refl
lesser_here [] [] (suc p) e = refl
lesser_here (x ∷ es) [] zero e = refl
lesser_here (x ∷ es) [] (suc p) e = other_none es p
  where
    other_none : (es : List Pair) (p : ℕ) → lesser_key (slice_get es p) None ≡ difference (drop p es) []
    other_none [] zero = refl
    other_none [] (suc p) = refl
    other_none (x ∷ es) zero = refl
    other_none (x ∷ es) (suc p) = other_none es p
lesser_here [] (y ∷ os) zero e = refl
lesser_here [] (y ∷ os) (suc p) e = none_other os p
  where
    none_other : (os : List Pair) (p : ℕ) → lesser_key None (slice_get os p) ≡ difference [] (drop p os)
    none_other [] zero = refl
    none_other [] (suc p) = refl
    none_other (y ∷ os) zero = refl
    none_other (y ∷ os) (suc p) = none_other os p
lesser_here (x ∷ es) (y ∷ os) zero e = ap (λ b. cond b (difference es os) (Some (lesser_of x.0 y.0))) (sym e)
lesser_here (x ∷ es) (y ∷ os) (suc p) e = lesser_here es os p e

-- where they are, one more entry is passed
pub passed : (es os : List Pair) (p : ℕ) → is_same_at (slice_get es p) (slice_get os p) ≡ true → difference (drop (suc p) es) (drop (suc p) os) ≡ difference (drop p es) (drop p os)
passed [] os p e = absurd (true≢false (sym e))
passed (x ∷ es) [] zero e = absurd (true≢false (sym e))
passed (x ∷ es) [] (suc p) e = absurd (none (slice_get es p) e)
  where
    none : (o : Option Pair) → is_same_at o None ≡ true → ⊥
    none None h = true≢false (sym h)
    none (Some v) h = true≢false (sym h)
passed (x ∷ es) (y ∷ os) zero e = ap (λ b. cond b (difference es os) (Some (lesser_of x.0 y.0))) (sym e)
passed (x ∷ es) (y ∷ os) (suc p) e = passed es os p e

pub passed_more : (es os : List Pair) (p : ℕ) → is_same_at (slice_get es p) (slice_get os p) ≡ true → difference (drop (p + 1) es) (drop (p + 1) os) ≡ difference (drop p es) (drop p os)
passed_more es os p e = let next : suc p ≡ p + 1 = omega arith in subst (λ n. difference (drop n es) (drop n os) ≡ difference (drop p es) (drop p os)) next (passed es os p e)

pub reported : (m n : Contents) (key : Option (List ℕ)) → key ≡ difference (entries m) (entries n) → MatchOption key (m ≡ n) (λ k. IsLeastDifference m n k)
reported m n None e = same_entries_map m n (one_list (entries m) (entries n) (sym e))
reported m n (Some k) e =
    let d = differ (entries m) (entries n) k (sorted m) (sorted n) (sym e) in
    record {
      differs = λ same. d.differs (sym (get-entries m k) ∙ same ∙ get-entries n k);
      below = λ q lt. get-entries m q ∙ d.below q (less_of _ lt) ∙ sym (get-entries n q);
    }
  where
    yes_of : (b : Bool) → T b → b ≡ true
    yes_of true t = refl
    yes_of false t = absurd t

    sorted : (c : Contents) → is_sorted key_cmp (entries c) ≡ true
    sorted c = yes_of (is_sorted key_cmp (entries c)) (entries_sorted c)

-- What is got at a place.

module _ {A : Type 0} where
  pub at_place : (xs : List A) (k : ℕ) (x : A) → k < length xs → x ≡ get_or xs k x → slice_get xs k ≡ Some x
  at_place [] k x lt e = absurd (omega arith)
  at_place (y ∷ xs) zero x lt e = ap Some (sym e)
  at_place (y ∷ xs) (suc k) x lt e = at_place xs k x (omega arith) e

  none_at : (xs : List A) (k : ℕ) → length xs ≤ k → slice_get xs k ≡ None
  none_at [] zero le = refl
  none_at [] (suc k) le = refl
  none_at (y ∷ xs) zero le = absurd (omega arith)
  none_at (y ∷ xs) (suc k) le = none_at xs k (omega arith)

  pub got : (xs : List A) (k : ℕ) (o : Option (Bor A)) → is_some o ≡ ltb k (length xs) → IfSome o (λ x. x.now ≡ get_or xs k x.now) → option_copied o ≡ slice_get xs k
  got xs k None some is = sym (none_at xs k (ltb-false k (length xs) (sym some)))
  got xs k (Some x) some is = sym (at_place xs k x.now (ltb-true k (length xs) (sym some)) is)

-- two maps beside each other, by their entries
pub reported_of : (m n : Contents) (es os : List Pair) (p : ℕ) (a b : Option Pair) (r : Result (Option (List ℕ)) AllocError) →
    es ≡ entries m → os ≡ entries n → a ≡ slice_get es p → b ≡ slice_get os p → is_same_at (slice_get es p) (slice_get os p) ≡ false → difference (drop p es) (drop p os) ≡ difference es os →
    IfOk r (λ key. key ≡ lesser_key a b) → IfOk r (λ key. MatchOption key (m ≡ n) (λ k. IsLeastDifference m n k))
reported_of m n es os p a b (Ok key) ie io ia ib not_same left is =
    reported m n key (is ∙ ap₂ (λ (x y : Option Pair). lesser_key x y) ia ib ∙ lesser_here es os p not_same ∙ left ∙ ap₂ (λ (x y : List Pair). difference x y) ie io)
reported_of m n es os p a b (Err e) ie io ia ib not_same left is = tt
