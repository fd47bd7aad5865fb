-- The contents of a map as the rising list of their entries.
use Rattle.std.proofs.Common.{◌≡◌, ℕ, zero, suc, ◌+◌, ◌-◌, length, drop, Bool, true, false, ◌&&◌, eqb, ◌↔◌, ◌≢◌, true≢false, T, List, [], ◌∷◌, ◌++◌, Some, None, refl, sym, ap, ap₂, subst, ◌∙◌, arith, Ordering, Less, Equal, Greater, is_lt}
use Rattle.std.proofs.Math.ListN.{drop_of_length-le}
use Rattle.std.proofs.lemmas.Bool.{eqb-true}
use Rattle.std.specs.Bool.{IsTrue}
use Rattle.std.specs.FinMap.{FinMap, entries, empty, from_sorted, is_sorted, same_entries_map, entries-from_sorted, get-empty, get-entries, find, get-from_sorted}
use Rattle.std.specs.FinMap.Entries.{below_all}
use Rattle.std.specs.Cmp.Lexicographic.{nat_list_cmp_total}
use Rattle.std.specs.Prelude.{slice_get}
use Rattle.ep_rules.specs.OneMap as one_map
use Rattle.ep_exec.specs.Table.{key_cmp}
use Rattle.ep_exec.proofs.Entries.{same_contents}
use Rattle.ep_base.proofs.Tests.{and_true}
use Rattle.ep_base.proofs.Lists.{drop_here}

-- a key with its value
abbrev Pair : Type 0
Pair = List ℕ × List ℕ

pub list_is : (es : List Pair) → is_sorted key_cmp es ≡ true → entries (from_sorted {R = key_cmp} es) ≡ es
list_is es h = entries-from_sorted key_cmp es (subst T (sym h) tt)

pub none_is_empty : (es : List Pair) → es ≡ [] → from_sorted {R = key_cmp} es ≡ empty
none_is_empty [] e = same_contents _ _ (λ q. get-from_sorted key_cmp [] q tt ∙ sym (get-empty key_cmp q))
none_is_empty (x ∷ es) e = absurd (cc)

-- no key has an entry in the empty map
pub none_listed : entries one_map.empty ≡ []
none_listed = ap (λ (m : FinMap key_cmp (List ℕ)). entries m) (sym (none_is_empty [] refl)) ∙ list_is [] refl

-- One key more.

abbrev below : List ℕ → List ℕ → Bool
below k l = is_lt (key_cmp k l)

-- the last key, if there is one, is below k
abbrev ends_below : List ℕ → List Pair → Bool
ends_below k [] = true
ends_below k (e ∷ []) = below e.0 k
ends_below k (e ∷ f ∷ es) = ends_below k (f ∷ es)

pub and_first : (a b : Bool) → (a && b) ≡ true → a ≡ true
and_first true b h = refl
and_first false b h = h

pub and_second : (a b : Bool) → (a && b) ≡ true → b ≡ true
and_second true b h = h
and_second false b h = absurd (true≢false (sym h))

absorb : (a b : Bool) → (b ≡ true → a ≡ true) → (a && b) ≡ b
absorb true b i = refl
absorb false true i = absurd (true≢false (sym (i refl)))
absorb false false i = refl

pub less_of : (o : Ordering) → is_lt o ≡ true → o ≡ Less
less_of Less h = refl
less_of Equal h = absurd (true≢false (sym h))
less_of Greater h = absurd (true≢false (sym h))

first_below : (k : List ℕ) (e : Pair) (es : List Pair) → is_sorted key_cmp (e ∷ es) ≡ true → ends_below k (e ∷ es) ≡ true → below e.0 k ≡ true
first_below k e [] h b = b
first_below k e (f ∷ es) h b =
    let next = first_below k f es (and_second _ _ h) b in
    ap is_lt (nat_list_cmp_total.trans e.0 f.0 k (less_of _ (and_first _ _ (and_first _ _ h))) (less_of _ next))

below_more : (x k v : List ℕ) (es : List Pair) → below_all key_cmp x es ≡ true → below_all key_cmp x (es ++ (k, v) ∷ []) ≡ below x k
below_more x k v [] h = and_true (below x k)
below_more x k v (e ∷ es) h = ap (λ b. b && below_all key_cmp x (es ++ (k, v) ∷ [])) (and_first _ _ h) ∙ below_more x k v es (and_second _ _ h)

pub one_more : (k v : List ℕ) (es : List Pair) → is_sorted key_cmp es ≡ true → is_sorted key_cmp (es ++ (k, v) ∷ []) ≡ ends_below k es
one_more k v [] h = refl
one_more k v (e ∷ []) h = and_true (below e.0 k && true) ∙ and_true (below e.0 k)
one_more k v (e ∷ f ∷ es) h =
    ap₂ (λ a b. a && b) (below_more e.0 k v (f ∷ es) (and_first _ _ h)) (one_more k v (f ∷ es) (and_second _ _ h))
    ∙ absorb (below e.0 k) (ends_below k (f ∷ es)) (λ t. first_below k e (f ∷ es) h t)

ends_at : (k : List ℕ) (x : Pair) (es : List Pair) (n : ℕ) (e : Pair) → length es ≡ n → Some e ≡ slice_get (x ∷ es) n → ends_below k (x ∷ es) ≡ below e.0 k
ends_at k x [] zero e len at = let s : e ≡ x = cc in ap (λ (z : Pair). below z.0 k) (sym s)
ends_at k x [] (suc n) e len at = absurd (omega (arith, len))
ends_at k x (y ∷ es) zero e len at = absurd (omega (arith, len))
ends_at k x (y ∷ es) (suc n) e len at = ends_at k y es n e (omega (arith, len)) at

-- the first key is taken
pub first_key : (es : List Pair) (k v : List ℕ) → None ≡ slice_get es (length es - 1) → true ≡ is_sorted key_cmp (es ++ (k, v) ∷ [])
first_key [] k v at = refl
first_key (x ∷ es) k v at = absurd (none_here x es (length es) refl (subst (λ n. None ≡ slice_get (x ∷ es) n) (front x es) at))
  where
    front : (x : Pair) (es : List Pair) → length (x ∷ es) - 1 ≡ length es
    front x es = omega arith

    none_here : (x : Pair) (es : List Pair) (n : ℕ) → length es ≡ n → None ≡ slice_get (x ∷ es) n → ⊥
    none_here x [] zero len at = cc
    none_here x [] (suc n) len at = absurd (omega (arith, len))
    none_here x (y ∷ es) zero len at = absurd (omega (arith, len))
    none_here x (y ∷ es) (suc n) len at = none_here y es n (omega (arith, len)) at

-- another one where it is above the last
pub next_key : (es : List Pair) (k v : List ℕ) (e : Pair) → Some e ≡ slice_get es (length es - 1) → is_sorted key_cmp es ≡ true → is_lt (key_cmp e.0 k) ≡ is_sorted key_cmp (es ++ (k, v) ∷ [])
next_key [] k v e at h = absurd (cc)
next_key (x ∷ es) k v e at h = sym (one_more k v (x ∷ es) h ∙ ends_at k x es (length es) e refl (subst (λ n. Some e ≡ slice_get (x ∷ es) n) front at))
  where
    front : length (x ∷ es) - 1 ≡ length es
    front = omega arith

-- Two lists that are one.

module _ {A : Type 0} where
  pub same_here : (xs ys : List A) (k : ℕ) (x y : A) (s b : Bool) → slice_get xs k ≡ Some x → slice_get ys k ≡ Some y → IsTrue s ↔ (drop (k + 1) xs ≡ drop (k + 1) ys) → IsTrue b ↔ (x ≡ y) → IsTrue (s && b) ↔ (drop k xs ≡ drop k ys)
  same_here xs ys k x y true true h g i j = (λ t. drop_here xs k x h ∙ (λ u. (j.0 refl) u ∷ (i.0 refl) u) ∙ sym (drop_here ys k y g), λ e. refl)
  same_here xs ys k x y true false h g i j = (λ t. absurd (true≢false (sym t)), λ e. j.1 (let c : x ∷ drop (k + 1) xs ≡ y ∷ drop (k + 1) ys = sym (drop_here xs k x h) ∙ e ∙ drop_here ys k y g in cc))
  same_here xs ys k x y false b h g i j = (λ t. absurd (true≢false (sym t)), λ e. i.1 (let c : x ∷ drop (k + 1) xs ≡ y ∷ drop (k + 1) ys = sym (drop_here xs k x h) ∙ e ∙ drop_here ys k y g in cc))

  pub same_start : (xs ys : List A) → length xs ≡ length ys → IsTrue true ↔ (drop (length xs) xs ≡ drop (length xs) ys)
  same_start xs ys e = (λ t. drop_of_length-le xs (omega arith) ∙ sym (drop_of_length-le ys (omega (arith, e))), λ _. refl)

  pub not_as_long : (xs ys : List A) → length xs ≢ length ys → IsTrue false ↔ (xs ≡ ys)
  not_as_long xs ys n = (λ t. absurd (true≢false (sym t)), λ e. absurd (n (ap length e)))

-- two maps of one list are one, and have one list
pub maps_are : (m n : FinMap key_cmp (List ℕ)) (xs ys : List Pair) (b : Bool) → xs ≡ entries m → ys ≡ entries n → IsTrue b ↔ (xs ≡ ys) → IsTrue b ↔ (m ≡ n)
maps_are m n xs ys b e f i = (λ t. same_entries_map m n (sym e ∙ i.0 t ∙ f), λ s. i.1 (e ∙ ap entries s ∙ sym f))

pub pushed : (es ms : List Pair) (e : Pair) → is_sorted key_cmp es ≡ true → is_sorted key_cmp (es ++ e ∷ []) ≡ true → ms ≡ es ++ e ∷ [] → entries (from_sorted {R = key_cmp} ms) ≡ entries (from_sorted {R = key_cmp} es) ++ e ∷ []
pushed es ms e h g is = ap (λ (x : List Pair). entries (from_sorted {R = key_cmp} x)) is ∙ list_is (es ++ e ∷ []) g ∙ ap (λ x. x ++ e ∷ []) (sym (list_is es h))

pub still_sorted : (es : List Pair) (e : Pair) (b : Bool) → is_sorted key_cmp es ≡ true → is_sorted key_cmp (es ++ e ∷ []) ≡ b → is_sorted key_cmp (entries (from_sorted {R = key_cmp} es) ++ e ∷ []) ≡ b
still_sorted es e b h g = ap (λ x. is_sorted key_cmp (x ++ e ∷ [])) (list_is es h) ∙ g

-- a map with no entry says nothing of any key
pub nothing_said : (m : FinMap key_cmp (List ℕ)) (xs : List Pair) (b : Bool) → xs ≡ entries m → b ≡ eqb (length xs) 0 → (k : List ℕ) → b ≡ true → one_map.value_at m k ≡ None
nothing_said m [] b e l k t = get-entries m k ∙ ap (find key_cmp k) (sym e)
nothing_said m (x ∷ xs) b e l k t = let n : suc (length xs) ≡ 0 = eqb-true (suc (length xs)) 0 (sym l ∙ t) in absurd (omega (arith, n))
