-- Keys that rise stand once.
use Rattle.std.proofs.Common.{◌≡◌, ℕ, List, [], ◌∷◌, Bool, true, false, ◌||◌, refl, sym, ap, ◌∙◌, Ordering, Less, Equal, Greater, is_lt, true≢false}
use Rattle.std.proofs.lemmas.Bool.{and_parts}
use Rattle.std.proofs.lemmas.Cmp.{nat_list_cmp_total}
use Rattle.std.specs.Ordering.{nat_cmp, ordering_reverse}
use Rattle.std.specs.Cmp.Lexicographic.{slice_cmp}
use Rattle.ep_base.specs.Attributes.{same_list}
use Rattle.ep_base.specs.Interference.{has_key}
use Rattle.ep_base.specs.Items.{Item, item_keys, rise_above}
use Rattle.ep_base.proofs.Same.{Decides-same_list}

less_of : (o : Ordering) → is_lt o ≡ true → o ≡ Less
less_of Less h = refl
less_of Equal h = absurd (true≢false (sym h))
less_of Greater h = absurd (true≢false (sym h))

none_less : (q : List ℕ) → slice_cmp nat_cmp q q ≡ Less → ⊥
none_less q h = let turned : Less ≡ Greater = sym h ∙ nat_list_cmp_total.antisymm q q ∙ ap ordering_reverse h in absurd (cc)

less_differs : (q k : List ℕ) → slice_cmp nat_cmp q k ≡ Less → same_list q k ≡ false
less_differs q k h = go (same_list q k) refl
  where
    go : (b : Bool) → same_list q k ≡ b → b ≡ false
    go true e = absurd (none_less q (ap (λ l. slice_cmp nat_cmp q l) ((Decides-same_list q k).0 e) ∙ h))
    go false e = refl

neither : (a b : Bool) → a ≡ false → b ≡ false → (a || b) ≡ false
neither true b e f = absurd (true≢false e)
neither false b e f = f

-- what is below a key from which on they rise is none of them
pub below_none : (q k : List ℕ) (is : List Item) → slice_cmp nat_cmp q k ≡ Less → rise_above k is ≡ true → has_key q (item_keys is) ≡ false
below_none q k [] l h = refl
below_none q k (i ∷ is) l h =
    let p = and_parts (is_lt (slice_cmp nat_cmp k i.key)) (rise_above i.key is) h in
    let m = nat_list_cmp_total.trans q k i.key l (less_of (slice_cmp nat_cmp k i.key) p.0) in
    neither (same_list q i.key) (has_key q (item_keys is)) (less_differs q i.key m) (below_none q i.key is m p.1)

-- and so is the key itself
pub above_none : (k : List ℕ) (is : List Item) → rise_above k is ≡ true → has_key k (item_keys is) ≡ false
above_none k [] h = refl
above_none k (i ∷ is) h =
    let p = and_parts (is_lt (slice_cmp nat_cmp k i.key)) (rise_above i.key is) h in
    let less = less_of (slice_cmp nat_cmp k i.key) p.0 in
    neither (same_list k i.key) (has_key k (item_keys is)) (less_differs k i.key less) (below_none k i.key is less p.1)
