-- Values, guards and items in bytes: what is read again is what was written.
use Rattle.std.proofs.Common.{◌≡◌, ℕ, suc, ◌+◌, ◌*◌, ◌/◌, ◌%◌, List, [], ◌∷◌, ◌++◌, length, take, drop, append_assoc, Option, Some, None, Bool, true, false, refl, sym, ap, ◌∙◌, arith}
use Rattle.std.specs.Cmp.Derive.{both_true}
use Rattle.std.specs.Prelude.{◌&&◌, eqb, nat_le, is_some}
use Rattle.std.proofs.Math.Seq.{take-append_seam, drop-append_seam}
use Rattle.std.proofs.lemmas.Bool.{and_parts}
use Rattle.std.proofs.lemmas.List.{append-nil}
use Rattle.ep_base.specs.Attributes.{same_list}
use Rattle.ep_base.specs.Items.{Item, reported_count, rise_above}
use Rattle.ep_base.specs.Ops.{is_items_len}
use Rattle.ep_base.specs.CommandParts.{part_bytes, part_at, flag, write_flag, flags_of, guard_bytes, put_bytes, write_bytes, item_bytes, items_bytes, tx_bytes, guard_in, put_in, write_in, write_behind, item_with, item_at, items_at, items_in, all_items, are_items, is_tx}
use Rattle.ep_base.proofs.Same.{Decides-same_list}

pub part_again : (e : Option (List ℕ)) (rest : List ℕ) → part_at (part_bytes e ++ rest) ≡ e
part_again None rest = refl
part_again (Some v) rest = ap Some (ap (λ n. take n (v ++ rest)) (let e : length v / 256 * 256 + length v % 256 ≡ length v = omega arith in e) ∙ take-append_seam v rest)

put_again : (v rest : List ℕ) → put_in (put_bytes v ++ rest) ≡ v
put_again v rest = ap (λ n. take n (v ++ rest)) (let e : length v / 256 * 256 + length v % 256 ≡ length v = omega arith in e) ∙ take-append_seam v rest

-- The flags determine each of the three.

reported_again : (t : Bool) (g w : Option (Option (List ℕ))) → eqb ((flag 1 t + flag 2 (is_some g) + write_flag w) % 2) 1 ≡ t
reported_again false None None = refl
reported_again false None (Some None) = refl
reported_again false None (Some (Some v)) = refl
reported_again false (Some o) None = refl
reported_again false (Some o) (Some None) = refl
reported_again false (Some o) (Some (Some v)) = refl
reported_again true None None = refl
reported_again true None (Some None) = refl
reported_again true None (Some (Some v)) = refl
reported_again true (Some o) None = refl
reported_again true (Some o) (Some None) = refl
reported_again true (Some o) (Some (Some v)) = refl

guard_again : (t : Bool) (g w : Option (Option (List ℕ))) (rest : List ℕ) → guard_in (flag 1 t + flag 2 (is_some g) + write_flag w) (guard_bytes g ++ rest) ≡ g
guard_again false None None rest = refl
guard_again false None (Some None) rest = refl
guard_again false None (Some (Some v)) rest = refl
guard_again false (Some o) None rest = ap Some (part_again o rest)
guard_again false (Some o) (Some None) rest = ap Some (part_again o rest)
guard_again false (Some o) (Some (Some v)) rest = ap Some (part_again o rest)
guard_again true None None rest = refl
guard_again true None (Some None) rest = refl
guard_again true None (Some (Some v)) rest = refl
guard_again true (Some o) None rest = ap Some (part_again o rest)
guard_again true (Some o) (Some None) rest = ap Some (part_again o rest)
guard_again true (Some o) (Some (Some v)) rest = ap Some (part_again o rest)

some_put : (v rest : List ℕ) → Some (Some (put_in (put_bytes v ++ rest))) ≡ Some (Some v)
some_put v rest = ap (λ (x : List ℕ). Some (Some x)) (put_again v rest)

write_again : (t : Bool) (g w : Option (Option (List ℕ))) (rest : List ℕ) → write_in (flag 1 t + flag 2 (is_some g) + write_flag w) (write_bytes w ++ rest) ≡ w
write_again false None None rest = refl
write_again false None (Some None) rest = refl
write_again false None (Some (Some v)) rest = some_put v rest
write_again false (Some o) None rest = refl
write_again false (Some o) (Some None) rest = refl
write_again false (Some o) (Some (Some v)) rest = some_put v rest
write_again true None None rest = refl
write_again true None (Some None) rest = refl
write_again true None (Some (Some v)) rest = some_put v rest
write_again true (Some o) None rest = refl
write_again true (Some o) (Some None) rest = refl
write_again true (Some o) (Some (Some v)) rest = some_put v rest

-- Behind the key stand the guard and what is written.

behind_again : (i : Item) (b rest : List ℕ) → b ≡ guard_bytes i.guard ++ (write_bytes i.write ++ rest) → write_behind (flags_of i) b ≡ i.write
behind_again i b rest e =
    let rest_of = write_bytes i.write ++ rest in
    let guard : guard_in (flags_of i) b ≡ i.guard = ap (guard_in (flags_of i)) e ∙ guard_again i.reported i.guard i.write rest_of in
    ap (λ (g : Option (Option (List ℕ))). write_in (flags_of i) (drop (length (guard_bytes g)) b)) guard
    ∙ ap (λ x. write_in (flags_of i) (drop (length (guard_bytes i.guard)) x)) e
    ∙ ap (write_in (flags_of i)) (drop-append_seam (guard_bytes i.guard) rest_of)
    ∙ write_again i.reported i.guard i.write rest

with_again : (i : Item) (k b rest : List ℕ) → k ≡ i.key → b ≡ guard_bytes i.guard ++ (write_bytes i.write ++ rest) → item_with k (flags_of i) b ≡ i
with_again i k b rest f e =
    let guard : guard_in (flags_of i) b ≡ i.guard = ap (guard_in (flags_of i)) e ∙ guard_again i.reported i.guard i.write (write_bytes i.write ++ rest) in
    λ n. record { key = f n; guard = guard n; reported = reported_again i.reported i.guard i.write n; write = behind_again i b rest e n }

pub item_again : (i : Item) (rest : List ℕ) → item_at (item_bytes i ++ rest) ≡ i
item_again i rest =
    let said = guard_bytes i.guard ++ write_bytes i.write in
    let all : (i.key ++ said) ++ rest ≡ i.key ++ (said ++ rest) = append_assoc i.key said rest in
    let key : take (length i.key) ((i.key ++ said) ++ rest) ≡ i.key = ap (λ x. take (length i.key) x) all ∙ take-append_seam i.key (said ++ rest) in
    let behind : drop (length i.key) ((i.key ++ said) ++ rest) ≡ guard_bytes i.guard ++ (write_bytes i.write ++ rest) =
    ap (λ x. drop (length i.key) x) all ∙ drop-append_seam i.key (said ++ rest) ∙ append_assoc (guard_bytes i.guard) (write_bytes i.write) rest in
    with_again i (take (length i.key) ((i.key ++ said) ++ rest)) (drop (length i.key) ((i.key ++ said) ++ rest)) rest key behind

-- what is left behind it
pub item_left : (i : Item) (rest : List ℕ) → drop (length (item_bytes (item_at (item_bytes i ++ rest)))) (item_bytes i ++ rest) ≡ rest
item_left i rest = ap (λ (j : Item). drop (length (item_bytes j)) (item_bytes i ++ rest)) (item_again i rest) ∙ drop-append_seam (item_bytes i) rest

cons_both : {X : Type 0} (x y : X) (xs ys : List X) → x ≡ y → xs ≡ ys → (x ∷ xs) ≡ (y ∷ ys)
cons_both x y xs ys e f = λ n. e n ∷ f n

pub items_again : (is : List Item) (rest : List ℕ) → items_at (length is) (items_bytes is ++ rest) ≡ is
items_again [] rest = refl
items_again (i ∷ is) rest =
    let more = items_bytes is ++ rest in
    let all : (item_bytes i ++ items_bytes is) ++ rest ≡ item_bytes i ++ more = append_assoc (item_bytes i) (items_bytes is) rest in
    ap (λ x. items_at (suc (length is)) x) all
    ∙ cons_both (item_at (item_bytes i ++ more)) i (items_at (length is) (drop (length (item_bytes (item_at (item_bytes i ++ more)))) (item_bytes i ++ more))) is (item_again i more)
    (ap (λ x. items_at (length is) x) (item_left i more) ∙ items_again is rest)

-- The bodies of commands over many keys.

pub tx_again : (is : List Item) → items_in (tx_bytes is) ≡ is
tx_again is =
    ap (λ n. items_at n (items_bytes is)) (let e : length is / 256 * 256 + length is % 256 ≡ length is = omega arith in e)
    ∙ ap (λ x. items_at (length is) x) (sym (append-nil (items_bytes is)))
    ∙ items_again is []

pub tx_parts : (b : List ℕ) → is_tx b ≡ true → (b ≡ tx_bytes (items_in b)) × (are_items (items_in b) ≡ true)
tx_parts b e = let h = and_parts (same_list b (tx_bytes (items_in b))) (are_items (items_in b)) e in ((Decides-same_list b (tx_bytes (items_in b))).0 h.0, h.1)

pub tx_back : (b : List ℕ) → is_tx b ≡ true → tx_bytes (items_in b) ≡ b
tx_back b e = sym (tx_parts b e).0

pub tx_there : (is : List Item) → are_items is ≡ true → is_tx (tx_bytes is) ≡ true
tx_there is h =
    let again : items_in (tx_bytes is) ≡ is = tx_again is in
    both_true ((Decides-same_list (tx_bytes is) (tx_bytes (items_in (tx_bytes is)))).1 (ap tx_bytes (sym again))) (ap are_items again ∙ h)

pub tx_len : (is : List Item) → are_items is ≡ true → is_items_len (length (tx_bytes is)) ≡ true
tx_len is h =
    let long = is_items_len (length (tx_bytes is)) in
    let some = and_parts (nat_le 1 (length is) && nat_le (length is) 1024) (all_items is && (rise_above [] is && (nat_le (reported_count is) 16 && long))) h in
    let all = and_parts (all_items is) (rise_above [] is && (nat_le (reported_count is) 16 && long)) some.1 in
    let rise = and_parts (rise_above [] is) (nat_le (reported_count is) 16 && long) all.1 in
    (and_parts (nat_le (reported_count is) 16) long rise.1).1
