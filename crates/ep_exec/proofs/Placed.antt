-- Where a search by keys ends in a rising list.
use Rattle.std.proofs.Common.{◌≡◌, ◌≢◌, ℕ, zero, suc, ◌<◌, ◌≤◌, length, get_or, T, cond, ltb, Bool, true, false, List, [], ◌∷◌, Some, None, Result, Ok, Err, IfOk, IfErr, refl, sym, ap, subst, ◌∙◌, arith, Ordering, Less, Equal, Greater, is_eq}
use Rattle.std.proofs.lemmas.Bool.{ltb-true, ltb-false}
use Rattle.std.specs.Cmp.Lexicographic.{nat_list_cmp_total}
use Rattle.std.specs.FinMap.{find, is_sorted}
use Rattle.std.specs.FinMap.Entries.{below_all}
use Rattle.std.specs.List.Sorted.{IsBinarySearchResult, IsNonDecreasingBy, IsSearchInRange}
use Rattle.std.specs.Ordering.{ordering_index, ordering_reverse}
use Rattle.ep_exec.specs.Table.{key_cmp}
use Rattle.ep_exec.proofs.Sorting.{Pair, first_of, second_of, less_of}

flipped : (k l : List ℕ) (o : Ordering) → key_cmp k l ≡ o → key_cmp l k ≡ ordering_reverse o
flipped k l o is = nat_list_cmp_total.antisymm l k ∙ ap ordering_reverse is

-- a key is below all that stand behind it
all_above : (x : List ℕ) (es : List Pair) (i : ℕ) (d : Pair) → T (below_all key_cmp x es) → i < length es → key_cmp x (get_or es i d).0 ≡ Less
all_above x [] i d h lt = absurd (omega (arith, lt))
all_above x (e ∷ es) zero d h lt = less_of _ (first_of _ _ h)
all_above x (e ∷ es) (suc i) d h lt = all_above x es i d (second_of _ _ h) (omega (arith, lt))

rises : (es : List Pair) (i j : ℕ) (d : Pair) → T (is_sorted key_cmp es) → i < j → j < length es → key_cmp (get_or es i d).0 (get_or es j d).0 ≡ Less
rises [] i j d h lt in_range = absurd (omega (arith, in_range))
rises (e ∷ es) i zero d h lt in_range = absurd (omega (arith, lt))
rises (e ∷ es) zero (suc j) d h lt in_range = all_above e.0 es j d (first_of _ _ h) (omega (arith, in_range))
rises (e ∷ es) (suc i) (suc j) d h lt in_range = rises es i j d (second_of _ _ h) (omega (arith, lt)) (omega (arith, in_range))

-- what is above a key that isn't below k is above k
above_too : (x y k : List ℕ) (o : Ordering) → key_cmp x y ≡ Less → key_cmp x k ≡ o → ordering_index o ≤ ordering_index (key_cmp y k)
above_too x y k Less less is = omega arith
above_too x y k Equal less is =
    let up : key_cmp y k ≡ Greater = flipped k y Less (sym (nat_list_cmp_total.congr x k y is) ∙ less) in
    subst (λ (o : Ordering). ordering_index Equal ≤ ordering_index o) (sym up) (omega arith)
above_too x y k Greater less is =
    let up : key_cmp y k ≡ Greater = flipped k y Less (nat_list_cmp_total.trans k x y (flipped x k Greater is) less) in
    subst (λ (o : Ordering). ordering_index Greater ≤ ordering_index o) (sym up) (omega arith)

comparisons_rise : (k : List ℕ) (es : List Pair) → T (is_sorted key_cmp es) → IsNonDecreasingBy (λ (e : Pair). ordering_index (key_cmp e.0 k)) es
comparisons_rise k es h i j d le in_range = go (ltb i j) refl
  where
    go : (b : Bool) → ltb i j ≡ b → ordering_index (key_cmp (get_or es i d).0 k) ≤ ordering_index (key_cmp (get_or es j d).0 k)
    go true lt = above_too (get_or es i d).0 (get_or es j d).0 k _ (rises es i j d h (ltb-true i j lt) in_range) refl
    go false ge = subst (λ (n : ℕ). ordering_index (key_cmp (get_or es i d).0 k) ≤ ordering_index (key_cmp (get_or es n d).0 k)) {x = i} {y = j} (let back = ltb-false i j ge in omega (arith, back, le)) (omega arith)

found_at : (k : List ℕ) (es : List Pair) (i : ℕ) (d : Pair) → T (is_sorted key_cmp es) → i < length es → key_cmp (get_or es i d).0 k ≡ Equal → find key_cmp k es ≡ Some (get_or es i d).1
found_at k [] i d h lt is = absurd (omega (arith, lt))
found_at k (e ∷ es) zero d h lt is = ap (λ (o : Ordering). cond (is_eq o) (Some e.1) (find key_cmp k es)) (flipped e.0 k Equal is)
found_at k (e ∷ es) (suc i) d h lt is =
    let p : Pair = get_or es i d in
    let up : key_cmp k e.0 ≡ Greater = sym (nat_list_cmp_total.congr p.0 k e.0 is) ∙ flipped e.0 p.0 Less (all_above e.0 es i d (first_of _ _ h) (omega (arith, lt))) in
    ap (λ (o : Ordering). cond (is_eq o) (Some e.1) (find key_cmp k es)) up ∙ found_at k es i d (second_of _ _ h) (omega (arith, lt)) is

none_at : (k : List ℕ) (es : List Pair) → ((i : ℕ) (d : Pair) → i < length es → key_cmp (get_or es i d).0 k ≢ Equal) → find key_cmp k es ≡ None
none_at k [] h = refl
none_at k (e ∷ es) h = go (key_cmp k e.0) refl (none_at k es (λ i d lt. h (suc i) d (omega (arith, lt))))
  where
    go : (o : Ordering) → key_cmp k e.0 ≡ o → find key_cmp k es ≡ None → cond (is_eq o) (Some e.1) (find key_cmp k es) ≡ None
    go Less is rest = rest
    go Equal is rest = absurd (h zero e (omega arith) (flipped k e.0 Equal is))
    go Greater is rest = rest

not_less : Equal ≡ Less → ⊥
not_less e = cc

not_greater : Equal ≡ Greater → ⊥
not_greater e = cc

-- the search finds the key's entry, or there is none
pub searched : (k : List ℕ) (es : List Pair) (r : Result ℕ ℕ) → T (is_sorted key_cmp es) → IsSearchInRange r (length es) → IsBinarySearchResult (λ (e : Pair). key_cmp e.0 k) es r
    → record { found : IfOk r (λ i. (d : Pair) → find key_cmp k es ≡ Some (get_or es i d).1); none : IfErr r (λ _. find key_cmp k es ≡ None) }
searched k es (Ok i) h in_range equal = record { found = λ d. found_at k es i d h in_range (equal d); none = tt }
searched k es (Err i) h in_range parted = record { found = tt; none = none_at k es (λ j d lt is. apart j d (ltb j i) refl lt is) }
  where
    apart : (j : ℕ) (d : Pair) (b : Bool) → ltb j i ≡ b → j < length es → key_cmp (get_or es j d).0 k ≡ Equal → ⊥
    apart j d true before lt is = not_less (sym is ∙ (parted (comparisons_rise k es h)).0 j d (omega arith) (ltb-true j i before))
    apart j d false behind lt is = not_greater (sym is ∙ (parted (comparisons_rise k es h)).1 j d (ltb-false j i behind) lt)
