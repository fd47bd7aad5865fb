-- How many entries of a rising list stand below a key.
use Rattle.std.proofs.Common.{◌≡◌, ◌<◌, ◌≤◌, ◌-◌, arith, ℕ, zero, suc, Bool, true, false, cond, T}
use Rattle.std.proofs.Common.{List, [], ◌∷◌, length, Some, refl, sym, ap, subst, ◌∙◌, is_eq, is_lt, Ordering, Less}
use Rattle.std.proofs.lemmas.Cmp.{nat_list_cmp_total}
use Rattle.std.proofs.lemmas.Option.{slice_get-get_or}
use Rattle.std.specs.FinMap.{entries, entries_sorted, is_sorted}
use Rattle.std.specs.FinMap.Entries.{below_all}
use Rattle.std.specs.Prelude.{slice_get, slice_index_or as get_or}
use Rattle.ep_rules.specs.OneMap.{Contents}
use Rattle.ep_exec.specs.Merging.{below, from, past, starts_below}
use Rattle.ep_exec.specs.Table.{key_cmp}
use Rattle.ep_exec.proofs.Sorting.{Pair, first_of, less_of, second_of}

-- where a key isn't below k, no more stand before it than its place says
ends_by : (k : List ℕ) (es : List Pair) (i : ℕ) (d : Pair) → i < length es → is_lt (key_cmp (get_or es i d).0 k) ≡ false → length (below k es) ≤ i
ends_by k [] i d lt h = absurd (omega (arith, lt))
ends_by k (x ∷ es) zero d lt h = let none : length (below k (x ∷ es)) ≡ 0 = ap (λ (b : Bool). length (cond b (x ∷ below k es) [])) h in omega (arith, none)
ends_by k (x ∷ es) (suc i) d lt h = go (is_lt (key_cmp x.0 k)) (ends_by k es i d (omega (arith, lt)) h)
  where
    go : (b : Bool) → length (below k es) ≤ i → length (cond b (x ∷ below k es) []) ≤ suc i
    go true p = omega (arith, p)
    go false p = omega arith

-- a key is below all that stand behind it
behind : (x : List ℕ) (es : List Pair) (i : ℕ) (d : Pair) → T (below_all key_cmp x es) → i < length es → key_cmp x (get_or es i d).0 ≡ Less
behind x [] i d h lt = absurd (omega (arith, lt))
behind x (e ∷ es) zero d h lt = less_of _ (first_of _ _ h)
behind x (e ∷ es) (suc i) d h lt = behind x es i d (second_of _ _ h) (omega (arith, lt))

is_less : (o : Ordering) → is_lt o ≡ true → o ≡ Less
is_less o h = less_of o (subst T (sym h) tt)

-- where a key is below k, it and all before it stand below
reaches : (k : List ℕ) (es : List Pair) (i : ℕ) (d : Pair) → T (is_sorted key_cmp es) → i < length es → is_lt (key_cmp (get_or es i d).0 k) ≡ true → i < length (below k es)
reaches k [] i d s lt h = absurd (omega (arith, lt))
reaches k (x ∷ es) zero d s lt h = let some : length (below k (x ∷ es)) ≡ suc (length (below k es)) = ap (λ (b : Bool). length (cond b (x ∷ below k es) [])) h in omega (arith, some)
reaches k (x ∷ es) (suc i) d s lt h =
    let here : key_cmp x.0 k ≡ Less = nat_list_cmp_total.trans x.0 (get_or es i d).0 k (behind x.0 es i d (first_of _ _ s) (omega (arith, lt))) (is_less _ h) in
    let some : length (below k (x ∷ es)) ≡ suc (length (below k es)) = ap (λ (o : Ordering). length (cond (is_lt o) (x ∷ below k es) [])) here in
    let rest = reaches k es i d (second_of _ _ s) (omega (arith, lt)) h in
    omega (arith, some, rest)

none : Pair
none = ([], [])

pub found_below : (k : List ℕ) (es : List Pair) (i : ℕ) (b : Bool) → is_sorted key_cmp es ≡ true → i < length es
    → ((e : Pair) → slice_get es i ≡ Some e → b ≡ is_lt (key_cmp e.0 k)) → b ≡ true → i < length (below k es)
found_below k es i b s lt says is = reaches k es i none (subst T (sym s) tt) lt (sym (says (get_or es i none) (slice_get-get_or es i none lt)) ∙ is)

pub found_above : (k : List ℕ) (es : List Pair) (i : ℕ) (b : Bool) → i < length es
    → ((e : Pair) → slice_get es i ≡ Some e → b ≡ is_lt (key_cmp e.0 k)) → b ≡ false → length (below k es) ≤ i
found_above k es i b lt says is = ends_by k es i none lt (sym (says (get_or es i none) (slice_get-get_or es i none lt)) ∙ is)

pub as_many : (k : List ℕ) (es : List Pair) → length (below k es) ≤ length es
as_many k [] = omega arith
as_many k (x ∷ es) = go (is_lt (key_cmp x.0 k)) (as_many k es)
  where
    go : (b : Bool) → length (below k es) ≤ length es → length (cond b (x ∷ below k es) []) ≤ suc (length es)
    go true p = omega (arith, p)
    go false p = omega arith

-- where one is left below, it stands first
pub starts_by : (k : List ℕ) (es : List Pair) → 0 < length (below k es) → starts_below k es ≡ true
starts_by k [] h = absurd (omega (arith, h))
starts_by k (x ∷ es) h = go (is_lt (key_cmp x.0 k)) h
  where
    go : (b : Bool) → 0 < length (cond b (x ∷ below k es) []) → b ≡ true
    go true p = refl
    go false p = absurd (omega (arith, p))

pub one_fewer : (k : List ℕ) (e : Pair) (base base' rest : List Pair) (n : ℕ) → base ≡ e ∷ rest → is_lt (key_cmp e.0 k) ≡ true → base' ≡ rest → n ≡ length (below k base) → n - 1 ≡ length (below k base')
one_fewer k e base base' rest n is lt left count =
    let all : n ≡ suc (length (below k rest)) = count ∙ ap (λ (xs : List Pair). length (below k xs)) is ∙ ap (λ (b : Bool). length (cond b (e ∷ below k rest) [])) lt in
    let same : length (below k base') ≡ length (below k rest) = ap (λ (xs : List Pair). length (below k xs)) left in
    omega (arith, all, same)

-- where none is left below, the list is as it is from there on
pub none_left : (k : List ℕ) (es : List Pair) → 0 ≡ length (below k es) → (below k es ≡ []) × (from k es ≡ es)
none_left k [] h = (refl, refl)
none_left k (x ∷ es) h = go (is_lt (key_cmp x.0 k)) h
  where
    go : (b : Bool) → 0 ≡ length (cond b (x ∷ below k es) []) → (cond b (x ∷ below k es) [] ≡ []) × (cond b (from k es) (x ∷ es) ≡ x ∷ es)
    go true p = absurd (omega (arith, p))
    go false p = (refl, refl)

-- the rest of a rising list rises

from_sorted : (k : List ℕ) (es : List Pair) → T (is_sorted key_cmp es) → T (is_sorted key_cmp (from k es))
from_sorted k [] s = s
from_sorted k (x ∷ es) s = go (is_lt (key_cmp x.0 k)) (from_sorted k es (second_of _ _ s))
  where
    go : (b : Bool) → T (is_sorted key_cmp (from k es)) → T (is_sorted key_cmp (cond b (from k es) (x ∷ es)))
    go true p = p
    go false p = s

past_sorted : (k : List ℕ) (es : List Pair) → T (is_sorted key_cmp es) → T (is_sorted key_cmp (past k es))
past_sorted k [] s = s
past_sorted k (x ∷ es) s = go (is_eq (key_cmp x.0 k))
  where
    go : (b : Bool) → T (is_sorted key_cmp (cond b es (x ∷ es)))
    go true = second_of _ _ s
    go false = s

is_so : (b : Bool) → T b → b ≡ true
is_so true h = refl
is_so false h = absurd h

pub rest_sorted : (k : List ℕ) (es base : List Pair) → base ≡ past k (from k es) → is_sorted key_cmp es ≡ true → is_sorted key_cmp base ≡ true
rest_sorted k es base is s =
    ap (is_sorted key_cmp) is ∙ is_so _ (past_sorted k (from k es) (from_sorted k es (subst T (sym s) tt)))

pub of_map : (m : Contents) (es : List Pair) → es ≡ entries m → is_sorted key_cmp es ≡ true
of_map m es is = ap (is_sorted key_cmp) is ∙ is_so _ (entries_sorted m)
