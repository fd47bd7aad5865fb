-- Layers of changes over a map.
use Rattle.std.proofs.Common.{◌≡◌, ◌≤◌, ◌<◌, ◌+◌, ◌-◌, ◌/◌, min, eqb, ℕ, suc, Bool, true, false, cond, List, [], ◌∷◌, ◌++◌, length, Vec, Option, Some, None, refl, sym, ap, subst, ◌∙◌, arith}
use Rattle.std.proofs.lemmas.Bool.{eqb-true}
use Rattle.std.specs.Arc.{arc_value}
use Rattle.std.specs.Cmp.Lexicographic.{nat_list_cmp_total}
use Rattle.std.specs.FinMap.{entries, len, len-entries, len-insert, len-remove, contains_key, insert, remove}
use Rattle.std.specs.Global.{Global}
use Rattle.std.specs.HashMap.{HashMap}
use Rattle.std.specs.Map.{lookup}
use Rattle.ep_rules.specs.OneMap.{Contents, value_at, with_key}
use Rattle.ep_space.specs.Index.{is_at}
use Rattle.ep_exec.specs.Layers.{Layer, changes_in, layers_of, said_or, stacked, reported_by, reported_over}
use Rattle.ep_exec.specs.Table.{Entry, over}
use Rattle.ep_exec.proofs.Entries.{value_of}

layers-push : {S : Type 0} (ls : List (Layer S)) (l : Layer S) → layers_of (ls ++ l ∷ []) ≡ layers_of ls ++ (arc_value l).entries ∷ []
layers-push [] l = refl
layers-push (k ∷ ls) l = ap (λ (xs : List (List Entry)). (arc_value k).entries ∷ xs) (layers-push ls l)

stacked-push : (m : Contents) (ls : List (List Entry)) (l : List Entry) → stacked m (ls ++ l ∷ []) ≡ over (stacked m ls) l
stacked-push m [] l = refl
stacked-push m (k ∷ ls) l = stacked-push (over m k) ls l

-- one layer more, the newest
pub layer_more : {S : Type 0} (m : Contents) (all ls : List (Layer S)) (l : Layer S) → all ≡ ls ++ l ∷ [] → stacked m (layers_of all) ≡ over (stacked m (layers_of ls)) (arc_value l).entries
layer_more {S = S} m all ls l is = ap (λ (xs : List (Layer S)). stacked m (layers_of xs)) is ∙ ap (stacked m) (layers-push ls l) ∙ stacked-push m (layers_of ls) (arc_value l).entries

-- the newest layer is taken, and changes are put over its own
pub layer_joined : {S : Type 0} (all rest : List (Layer S)) (l : Layer S) (changes joined : List Entry) (m whole : Contents) → all ≡ rest ++ l ∷ []
    → ((n : Contents) → over n joined ≡ over (over n (arc_value l).entries) changes) → over (stacked m (layers_of all)) changes ≡ whole
    → over (stacked m (layers_of rest)) joined ≡ whole
layer_joined all rest l changes joined m whole is join was =
    join (stacked m (layers_of rest)) ∙ ap (λ (n : Contents). over n changes) (sym (layer_more m all rest l is)) ∙ was

-- what a key has below the layers, unless they say something of it
pub reported_is : (m : Contents) (q : List ℕ) (ls : List (List Entry)) (t : Option (Option (List ℕ))) (v : Option (List ℕ)) → value_at m q ≡ said_or t v → value_at (stacked m ls) q ≡ said_or (reported_by q t ls) v
reported_is m q [] t v is = is
reported_is m q (l ∷ ls) t v is =
    reported_is (over m l) q ls (reported_over (lookup (is_at q) l) t) v (value_of m l q ∙ ap (said_or (lookup (is_at q) l)) is ∙ once (lookup (is_at q) l) t)
  where
    once : (o u : Option (Option (List ℕ))) → said_or o (said_or u v) ≡ said_or (reported_over o u) v
    once None u = refl
    once (Some o) u = refl

-- so what the layers say of it is what it has
pub reported_in : {S : Type 0} (m w : Contents) (q : List ℕ) (ls ms : List (Layer S)) → ls ≡ ms → stacked m (layers_of ms) ≡ w → said_or (reported_by q None (layers_of ls)) (value_at m q) ≡ value_at w q
reported_in {S = S} m w q ls ms e is =
    sym (reported_is m q (layers_of ls) None (value_at m q) refl) ∙ ap (λ (xs : List (Layer S)). value_at (stacked m (layers_of xs)) q) e ∙ ap (λ (x : Contents). value_at x q) is

-- a map with no layer is its listing
pub bare_is : {S : Type 0} (m w : Contents) (ls : List (Layer S)) (n : ℕ) (b : Bool) → b ≡ eqb n 0 → n ≡ length ls → b ≡ true → stacked m (layers_of ls) ≡ w → m ≡ w
bare_is m w [] n b e l t is = is
bare_is m w (x ∷ ls) n b e l t is =
    let z : n ≡ 0 = eqb-true n 0 (sym e ∙ t) in
    let k : n ≡ suc (length ls) = l in
    absurd (omega (arith, z, k))

-- with these changes as one layer more
pub one_layer : {S : Type 0} (m : Contents) (all mid ls : List (Layer S)) (l : Layer S) (changes : HashMap (Vec ℕ Global) (Option (List ℕ)) S) → all ≡ mid ++ l ∷ [] → mid ≡ ls → arc_value l ≡ changes
    → stacked m (layers_of all) ≡ over (stacked m (layers_of ls)) changes.entries
one_layer {S = S} m all mid ls l changes is stay same =
    layer_more m all mid l is
    ∙ ap (λ (xs : List (Layer S)). over (stacked m (layers_of xs)) (arc_value l).entries) stay
    ∙ ap (λ (c : HashMap (Vec ℕ Global) (Option (List ℕ)) S). over (stacked m (layers_of ls)) c.entries) same

-- How many keys have a value.

fewer : (b : Bool) (n : ℕ) → cond b (n - 1) n ≤ suc n
fewer true n = omega arith
fewer false n = omega arith

more : (b : Bool) (n : ℕ) → cond b n (n + 1) ≤ suc n
more true n = omega arith
more false n = omega arith

bound_by : (a b c d : ℕ) → a ≡ b → b ≤ suc c → c ≡ d → a ≤ suc d
bound_by a b c d e le f = omega (arith, e, le, f)

key_more : (m : Contents) (k : List ℕ) (o : Option (List ℕ)) → length (entries (with_key m k o)) ≤ suc (length (entries m))
key_more m k None =
    bound_by (length (entries (remove m k))) (cond (contains_key m k) (len m - 1) (len m)) (len m) (length (entries m))
    (sym (len-entries (remove m k)) ∙ len-remove nat_list_cmp_total m k) (fewer (contains_key m k) (len m)) (len-entries m)
key_more m k (Some v) =
    bound_by (length (entries (insert m k v))) (cond (contains_key m k) (len m) (len m + 1)) (len m) (length (entries m))
    (sym (len-entries (insert m k v)) ∙ len-insert nat_list_cmp_total m k v) (more (contains_key m k) (len m)) (len-entries m)

next_bound : (a b c n : ℕ) → a ≤ suc b → b ≤ c + n → a ≤ c + suc n
next_bound a b c n one rest = omega (arith, one, rest)

over_more : (m : Contents) (es : List Entry) → length (entries (over m es)) ≤ length (entries m) + length es
over_more m [] = omega arith
over_more m (e ∷ es) = next_bound _ _ (length (entries m)) (length es) (key_more (over m es) e.0.items e.1) (over_more m es)

both_bounds : (a b c n k : ℕ) → a ≤ b + k → b ≤ c + n → a ≤ c + (n + k)
both_bounds a b c n k one rest = omega (arith, one, rest)

stacked_more : (m : Contents) (ls : List (List Entry)) → length (entries (stacked m ls)) ≤ length (entries m) + changes_in ls
stacked_more m [] = omega arith
stacked_more m (l ∷ ls) = both_bounds _ (length (entries (over m l))) (length (entries m)) (length l) (changes_in ls) (stacked_more (over m l) ls) (over_more m l)

-- no more than there are keys and changes
pub all_more : (m : Contents) (ls : List (List Entry)) (es : List Entry) → length (entries (over (stacked m ls) es)) ≤ length (entries m) + (changes_in ls + length es)
all_more m ls es = both_bounds _ (length (entries (stacked m ls))) (length (entries m)) (changes_in ls) (length es) (over_more (stacked m ls) es) (stacked_more m ls)

-- no more than there are keys and changes in layers
pub counted_all : {S : Type 0} (m w : Contents) (ls ms : List (Layer S)) (keys counted r : ℕ) → ls ≡ ms → stacked m (layers_of ms) ≡ w → keys ≡ length (entries m) → (counted < 4000000000 → changes_in (layers_of ls) ≤ counted)
    → r ≡ min (keys + counted) 18446744073709551615 → r < 4000000000 → length (entries w) ≤ r
counted_all {S = S} m w ls ms keys counted r e is k by sum small =
    let few : counted < 4000000000 = omega (arith, sum, small) in
    let most = by few in
    let all = stacked_more m (layers_of ls) in
    subst (λ (n : Contents). length (entries n) ≤ r) (ap (λ (xs : List (Layer S)). stacked m (layers_of xs)) e ∙ is) (omega (arith, k, sum, small, most, all))

-- and so not many, where they are few
pub not_many : (g : Contents) (ls : List (List Entry)) (es : List Entry) (top counted more many sum : ℕ) → (top < 4000000000 → length (entries g) ≤ top) → (counted < 4000000000 → changes_in ls ≤ counted)
    → more ≡ length es → many ≡ min (counted + more) 18446744073709551615 → sum ≡ min (many + top) 18446744073709551615 → sum ≤ 3000000000 → length (entries (over (stacked g ls) es)) ≤ 4000000000
not_many g ls es top counted more many sum keys by l is all few =
    let small : counted < 4000000000 = omega (arith, is, all, few) in
    let low : top < 4000000000 = omega (arith, all, few) in
    let most = by small in
    let most_keys = keys low in
    let whole = all_more g ls es in
    omega (arith, l, is, all, few, most, most_keys, whole)
