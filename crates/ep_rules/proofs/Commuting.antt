-- Commands that don't interfere commute. All that is said of replies rests on these two facts, and on no key.
use Rattle.std.proofs.Common.{◌≡◌, ◌⊎◌, inl, inr, List, [], ◌∷◌, Option, Some, None, Bool, true, false, cond, ◌&&◌, ◌||◌, refl, sym, ap, subst, ◌∙◌, ℕ}
use Rattle.std.proofs.lemmas.Bool.{false≢true, or_parts}
use Rattle.std.proofs.lemmas.Cmp.{nat_list_cmp_total}
use Rattle.std.proofs.lemmas.Map.Lookups.{exact_bytes}
use Rattle.std.proofs.lemmas.Map.Views.{tells_apart}
use Rattle.std.specs.Ordering.{nat_cmp, eq_by_cmp}
use Rattle.std.specs.Prelude.{is_none, not}
use Rattle.std.specs.Cmp.Lexicographic.{slice_cmp, nat_list_eq_equiv}
use Rattle.std.specs.FinMap.{get-insert, get-remove, same_map}
use Rattle.ep_base.specs.Commands.{Command, Noop, Get, Put, Del, Swap, Cas, Seal, Opaque, Tx}
use Rattle.ep_base.specs.Attributes.{same_list}
use Rattle.ep_base.specs.Interference.{interfere, meet, meet_seal, has_key, share_key, keys_of, only_reads, is_seal}
use Rattle.ep_base.specs.Items.{Item, item_keys, none_writes}
use Rattle.ep_base.specs.Sameness.{same_option}
use Rattle.ep_base.specs.TwoKeys.{TwoKeys}
use Rattle.ep_base.proofs.Same.{Decides-same_list}
use Rattle.ep_base.proofs.Tests.{or_true}
use Rattle.ep_base.specs.declared.reply.Reply.{Reply}
use Rattle.ep_base.specs.declared.reply.Reply.TheVariants.{Absent, Done, Undone}
use Rattle.ep_rules.specs.OneMap.{Contents, value_at, with_key, holds_of, all_hold, with_write, with_writes, reply_values, written, read, reported, Store, sealed_by, after_under, after, reply_under, reply}

abbrev pub is_key : List ℕ → List ℕ → Bool
is_key q k = eq_by_cmp (slice_cmp nat_cmp) q k

pub value_with : (m : Contents) (k : List ℕ) (o : Option (List ℕ)) (q : List ℕ) → value_at (with_key m k o) q ≡ cond (is_key q k) o (value_at m q)
value_with m k (Some v) q = get-insert nat_list_cmp_total m k v q
value_with m k None q = get-remove nat_list_cmp_total m k q

pub same_key : (k l : List ℕ) → k ≡ l → same_list k l ≡ true
same_key k l e = ap (same_list k) (sym e) ∙ nat_list_eq_equiv.refl k

other_keys : (k l q : List ℕ) → same_list k l ≡ false → is_key q k ≡ true → is_key q l ≡ true → ⊥
other_keys k l q n a b = false≢true (sym n ∙ same_key k l (sym (tells_apart exact_bytes q k a) ∙ tells_apart exact_bytes q l b))

keys_commute : (m : Contents) (k l : List ℕ) (o p : Option (List ℕ)) → same_list k l ≡ false → with_key (with_key m k o) l p ≡ with_key (with_key m l p) k o
keys_commute m k l o p n = same_map nat_list_cmp_total exact_bytes _ _ (λ q.
    value_with (with_key m k o) l p q ∙ ap (cond (is_key q l) p) (value_with m k o q)
    ∙ swap q (is_key q l) (is_key q k) refl refl
    ∙ sym (value_with (with_key m l p) k o q ∙ ap (cond (is_key q k) o) (value_with m l p q)))
  where
    swap : (q : List ℕ) (b a : Bool) → is_key q l ≡ b → is_key q k ≡ a → cond b p (cond a o (value_at m q)) ≡ cond a o (cond b p (value_at m q))
    swap q true true e f = absurd (other_keys k l q n f e)
    swap q true false e f = refl
    swap q false true e f = refl
    swap q false false e f = refl

unseen_key : (m : Contents) (k l : List ℕ) (o : Option (List ℕ)) → same_list k l ≡ false → value_at (with_key m k o) l ≡ value_at m l
unseen_key m k l o n = value_with m k o l ∙ go (is_key l k) refl
  where
    go : (b : Bool) → is_key l k ≡ b → cond b o (value_at m l) ≡ value_at m l
    go true e = absurd (false≢true (sym n ∙ same_key k l (sym (tells_apart exact_bytes l k e))))
    go false e = refl

-- what is none of a command's keys

alone : (b : Bool) → (b || false) ≡ false → b ≡ false
alone true e = e
alone false e = refl

turned : (k l : List ℕ) → same_list k l ≡ false → same_list l k ≡ false
turned k l n = go (same_list l k) refl
  where
    go : (b : Bool) → same_list l k ≡ b → b ≡ false
    go true e = absurd (false≢true (sym n ∙ same_key k l (sym ((Decides-same_list l k).0 e))))
    go false e = refl

write_swap : (m : Contents) (k : List ℕ) (p : TwoKeys) (o : Option (List ℕ)) → same_list k p.first ≡ false → same_list k p.second ≡ false → written (with_key m k o) (Swap p) ≡ with_key (written m (Swap p)) k o
write_swap m k p o a b =
    let x : Option (List ℕ) = value_at m p.second in
    let y : Option (List ℕ) = value_at m p.first in
    ap (λ (z : Option (List ℕ)). with_key (with_key (with_key m k o) p.first z) p.second (value_at (with_key m k o) p.first)) (unseen_key m k p.second o b)
    ∙ ap (λ (z : Option (List ℕ)). with_key (with_key (with_key m k o) p.first x) p.second z) (unseen_key m k p.first o a)
    ∙ ap (λ (n : Contents). with_key n p.second y) (keys_commute m k p.first o x a)
    ∙ keys_commute (with_key m p.first x) k p.second o y b

unseen_swap : (m : Contents) (p : TwoKeys) (k : List ℕ) → same_list p.first k ≡ false → same_list p.second k ≡ false → value_at (written m (Swap p)) k ≡ value_at m k
unseen_swap m p k a b =
    unseen_key (with_key m p.first (value_at m p.second)) p.second k (value_at m p.first) b ∙ unseen_key m p.first k (value_at m p.second) a

-- items of which none is of a key: what is written there is of no matter to them

item_past : (m : Contents) (k l : List ℕ) (o : Option (List ℕ)) (w : Option (Option (List ℕ))) → same_list k l ≡ false → with_write (with_key m k o) l w ≡ with_key (with_write m l w) k o
item_past m k l o None n = refl
item_past m k l o (Some p) n = keys_commute m k l o p n

writes_past : (m : Contents) (k : List ℕ) (o : Option (List ℕ)) (is : List Item) → has_key k (item_keys is) ≡ false → with_writes (with_key m k o) is ≡ with_key (with_writes m is) k o
writes_past m k o [] e = refl
writes_past m k o (i ∷ is) e =
    let n = or_parts (same_list k i.key) (has_key k (item_keys is)) e in
    ap (λ (x : Contents). with_writes x is) (item_past m k i.key o i.write n.0) ∙ writes_past (with_write m i.key i.write) k o is n.1

holds_past : (m : Contents) (k : List ℕ) (o : Option (List ℕ)) (is : List Item) → has_key k (item_keys is) ≡ false → all_hold (with_key m k o) is ≡ all_hold m is
holds_past m k o [] e = refl
holds_past m k o (i ∷ is) e =
    let n = or_parts (same_list k i.key) (has_key k (item_keys is)) e in
    let had = unseen_key m k i.key o n.0 in
    let rest = holds_past m k o is n.1 in
    λ t. holds_of i.guard (had t) && rest t

reported_past : (m : Contents) (k : List ℕ) (o : Option (List ℕ)) (is : List Item) → has_key k (item_keys is) ≡ false → reply_values (with_key m k o) is ≡ reply_values m is
reported_past m k o [] e = refl
reported_past m k o (i ∷ is) e =
    let n = or_parts (same_list k i.key) (has_key k (item_keys is)) e in
    let had = unseen_key m k i.key o n.0 in
    let rest = reported_past m k o is n.1 in
    λ t. cond i.reported (had t ∷ rest t) (rest t)

item_untouched : (m : Contents) (l k : List ℕ) (w : Option (Option (List ℕ))) → same_list l k ≡ false → value_at (with_write m l w) k ≡ value_at m k
item_untouched m l k None n = refl
item_untouched m l k (Some p) n = unseen_key m l k p n

writes_untouched : (m : Contents) (is : List Item) (k : List ℕ) → has_key k (item_keys is) ≡ false → value_at (with_writes m is) k ≡ value_at m k
writes_untouched m [] k e = refl
writes_untouched m (i ∷ is) k e =
    let n = or_parts (same_list k i.key) (has_key k (item_keys is)) e in
    writes_untouched (with_write m i.key i.write) is k n.1 ∙ item_untouched m i.key k i.write (turned k i.key n.0)

abbrev answered : Bool → List (Option (List ℕ)) → Reply
answered held reported = cond held (Done reported) (Undone reported)

-- a key that a command doesn't name: what is written there is of no matter to it

write_past : (m : Contents) (k : List ℕ) (o : Option (List ℕ)) (b : Command) → has_key k (keys_of b) ≡ false → written (with_key m k o) b ≡ with_key (written m b) k o
write_past m k o Noop e = refl
write_past m k o (Get l) e = refl
write_past m k o (Put l w) e = keys_commute m k l o (Some w) (alone (same_list k l) e)
write_past m k o (Del l) e = keys_commute m k l o None (alone (same_list k l) e)
write_past m k o (Swap p) e = let n = or_parts (same_list k p.first) (same_list k p.second || false) e in write_swap m k p o n.0 (alone (same_list k p.second) n.1)
write_past m k o (Cas l x n) e =
    ap (λ (z : Option (List ℕ)). cond (same_option z x) (with_key (with_key m k o) l n) (with_key m k o)) (unseen_key m k l o (alone (same_list k l) e))
    ∙ go (same_option (value_at m l) x)
  where
    go : (b : Bool) → cond b (with_key (with_key m k o) l n) (with_key m k o) ≡ with_key (cond b (with_key m l n) m) k o
    go true = keys_commute m k l o n (alone (same_list k l) e)
    go false = refl
write_past m k o (Seal v) e = refl
write_past m k o (Opaque q w) e = refl
write_past m k o (Tx is) e =
    ap (λ t. cond t (with_writes (with_key m k o) is) (with_key m k o)) (holds_past m k o is e) ∙ go (all_hold m is)
  where
    go : (t : Bool) → cond t (with_writes (with_key m k o) is) (with_key m k o) ≡ with_key (cond t (with_writes m is) m) k o
    go true = writes_past m k o is e
    go false = refl

read_past : (m : Contents) (k : List ℕ) (o : Option (List ℕ)) (b : Command) → has_key k (keys_of b) ≡ false → read (with_key m k o) b ≡ read m b
read_past m k o Noop e = refl
read_past m k o (Get l) e = ap reported (unseen_key m k l o (alone (same_list k l) e))
read_past m k o (Put l w) e = ap reported (unseen_key m k l o (alone (same_list k l) e))
read_past m k o (Del l) e = ap reported (unseen_key m k l o (alone (same_list k l) e))
read_past m k o (Swap p) e = ap reported (unseen_key m k p.first o (or_parts (same_list k p.first) (same_list k p.second || false) e).0)
read_past m k o (Cas l x n) e = ap reported (unseen_key m k l o (alone (same_list k l) e))
read_past m k o (Seal v) e = refl
read_past m k o (Opaque q w) e = refl
read_past m k o (Tx is) e = let held = holds_past m k o is e in let reported = reported_past m k o is e in λ t. answered (held t) (reported t)

untouched : (m : Contents) (b : Command) (k : List ℕ) → has_key k (keys_of b) ≡ false → value_at (written m b) k ≡ value_at m k
untouched m Noop k e = refl
untouched m (Get l) k e = refl
untouched m (Put l w) k e = unseen_key m l k (Some w) (turned k l (alone (same_list k l) e))
untouched m (Del l) k e = unseen_key m l k None (turned k l (alone (same_list k l) e))
untouched m (Swap p) k e = let n = or_parts (same_list k p.first) (same_list k p.second || false) e in unseen_swap m p k (turned k p.first n.0) (turned k p.second (alone (same_list k p.second) n.1))
untouched m (Cas l x n) k e = go (same_option (value_at m l) x)
  where
    go : (b : Bool) → value_at (cond b (with_key m l n) m) k ≡ value_at m k
    go true = unseen_key m l k n (turned k l (alone (same_list k l) e))
    go false = refl
untouched m (Seal v) k e = refl
untouched m (Opaque q w) k e = refl
untouched m (Tx is) k e = go (all_hold m is)
  where
    go : (b : Bool) → value_at (cond b (with_writes m is) m) k ≡ value_at m k
    go true = writes_untouched m is k e
    go false = refl

-- the keys of a command that doesn't interfere with one of one key that is no get, or with one of two

apart : (a p : Bool) → (((a || false) && true) || p) ≡ false → a ≡ false
apart true p e = absurd (false≢true (sym e))
apart false p e = refl

apart_both : (a b p : Bool) → (((a || (b || false)) && true) || p) ≡ false → (a ≡ false) × (b ≡ false)
apart_both true b p e = absurd (false≢true (sym e))
apart_both false true p e = absurd (false≢true (sym e))
apart_both false false p e = (refl, refl)

-- A command over many keys that shares none of them with another one.

unshared : (s w q p : Bool) → ((s && not (w && q)) || p) ≡ false → w ≡ false → s ≡ false
unshared true true q p e f = absurd (false≢true (sym f))
unshared true false q p e f = absurd (false≢true (sym e))
unshared false w q p e f = refl

written_past : (m : Contents) (k : List ℕ) (w : Option (Option (List ℕ))) (b : Command) → has_key k (keys_of b) ≡ false → written (with_write m k w) b ≡ with_write (written m b) k w
written_past m k None b e = refl
written_past m k (Some o) b e = write_past m k o b e

all_past : (m : Contents) (is : List Item) (b : Command) → share_key (item_keys is) (keys_of b) ≡ false → written (with_writes m is) b ≡ with_writes (written m b) is
all_past m [] b e = refl
all_past m (i ∷ is) b e =
    let n = or_parts (has_key i.key (keys_of b)) (share_key (item_keys is) (keys_of b)) e in
    all_past (with_write m i.key i.write) is b n.1 ∙ ap (λ (x : Contents). with_writes x is) (written_past m i.key i.write b n.0)

item_unread : (m : Contents) (k : List ℕ) (w : Option (Option (List ℕ))) (b : Command) → has_key k (keys_of b) ≡ false → read (with_write m k w) b ≡ read m b
item_unread m k None b e = refl
item_unread m k (Some o) b e = read_past m k o b e

all_unread : (m : Contents) (is : List Item) (b : Command) → share_key (item_keys is) (keys_of b) ≡ false → read (with_writes m is) b ≡ read m b
all_unread m [] b e = refl
all_unread m (i ∷ is) b e =
    let n = or_parts (has_key i.key (keys_of b)) (share_key (item_keys is) (keys_of b)) e in
    all_unread (with_write m i.key i.write) is b n.1 ∙ item_unread m i.key i.write b n.0

-- its guards hold of what the other one leaves where they held before
all_held : (m : Contents) (is : List Item) (b : Command) → share_key (item_keys is) (keys_of b) ≡ false → all_hold m is ≡ all_hold (written m b) is
all_held m [] b e = refl
all_held m (i ∷ is) b e =
    let n = or_parts (has_key i.key (keys_of b)) (share_key (item_keys is) (keys_of b)) e in
    let had = sym (untouched m b i.key n.0) in
    let rest = all_held m is b n.1 in
    λ t. holds_of i.guard (had t) && rest t

-- one that only reads leaves the map as it is

item_reads : (m : Contents) (k : List ℕ) (w : Option (Option (List ℕ))) (r : Bool) → (is_none w && r) ≡ true → (with_write m k w ≡ m) × (r ≡ true)
item_reads m k None r e = (refl, e)
item_reads m k (Some o) r e = absurd (false≢true e)

all_read : (m : Contents) (is : List Item) → none_writes is ≡ true → with_writes m is ≡ m
all_read m [] e = refl
all_read m (i ∷ is) e =
    let n = item_reads m i.key i.write (none_writes is) e in
    ap (λ (x : Contents). with_writes x is) n.0 ∙ all_read m is n.1

pub tx_reads : (m : Contents) (is : List Item) → none_writes is ≡ true → written m (Tx is) ≡ m
tx_reads m is e = go (all_hold m is)
  where
    go : (t : Bool) → cond t (with_writes m is) m ≡ m
    go true = all_read m is e
    go false = refl

tx_commutes : (m : Contents) (is : List Item) (b : Command) → share_key (item_keys is) (keys_of b) ≡ false → written (written m (Tx is)) b ≡ written (written m b) (Tx is)
tx_commutes m is b e =
    go (all_hold m is) ∙ ap (λ t. cond t (with_writes (written m b) is) (written m b)) (all_held m is b e)
  where
    go : (t : Bool) → written (cond t (with_writes m is) m) b ≡ cond t (with_writes (written m b) is) (written m b)
    go true = all_past m is b e
    go false = refl

tx_unread : (m : Contents) (is : List Item) (b : Command) → share_key (item_keys is) (keys_of b) ≡ false → read (written m (Tx is)) b ≡ read m b
tx_unread m is b e = go (all_hold m is)
  where
    go : (t : Bool) → read (cond t (with_writes m is) m) b ≡ read m b
    go true = all_unread m is b e
    go false = refl

-- two commands that don't interfere write one open map in either order
commutes_open : (m : Contents) (a b : Command) → interfere a b ≡ false → written (written m a) b ≡ written (written m b) a
commutes_open m Noop b e = refl
commutes_open m (Get k) b e = refl
commutes_open m (Put k v) b e = write_past m k (Some v) b (apart (has_key k (keys_of b)) (meet_seal (Put k v) b) e)
commutes_open m (Del k) b e = write_past m k None b (apart (has_key k (keys_of b)) (meet_seal (Del k) b) e)
commutes_open m (Swap p) b e =
    let n = apart_both (has_key p.first (keys_of b)) (has_key p.second (keys_of b)) (meet_seal (Swap p) b) e in
    let x : Option (List ℕ) = value_at m p.second in
    let y : Option (List ℕ) = value_at m p.first in
    write_past (with_key m p.first x) p.second y b n.1
    ∙ ap (λ (z : Contents). with_key z p.second y) (write_past m p.first x b n.0)
    ∙ ap (λ (z : Option (List ℕ)). with_key (with_key (written m b) p.first z) p.second y) (sym (untouched m b p.second n.1))
    ∙ ap (λ (z : Option (List ℕ)). with_key (with_key (written m b) p.first (value_at (written m b) p.second)) p.second z) (sym (untouched m b p.first n.0))
commutes_open m (Cas k x n) b e =
    go (same_option (value_at m k) x)
    ∙ ap (λ (z : Option (List ℕ)). cond (same_option z x) (with_key (written m b) k n) (written m b)) (sym (untouched m b k (apart (has_key k (keys_of b)) (meet_seal (Cas k x n) b) e)))
  where
    go : (t : Bool) → written (cond t (with_key m k n) m) b ≡ cond t (with_key (written m b) k n) (written m b)
    go true = write_past m k n b (apart (has_key k (keys_of b)) (meet_seal (Cas k x n) b) e)
    go false = refl
commutes_open m (Seal v) b e = refl
commutes_open m (Opaque q w) b e = refl
commutes_open m (Tx is) b e = go (none_writes is) refl
  where
    go : (t : Bool) → none_writes is ≡ t → written (written m (Tx is)) b ≡ written (written m b) (Tx is)
    go true f = ap (λ (x : Contents). written x b) (tx_reads m is f) ∙ sym (tx_reads (written m b) is f)
    go false f = tx_commutes m is b (unshared (share_key (item_keys is) (keys_of b)) (none_writes is) (only_reads b) (meet_seal (Tx is) b) e f)

unseen_open : (m : Contents) (a b : Command) → interfere a b ≡ false → read (written m a) b ≡ read m b
unseen_open m Noop b e = refl
unseen_open m (Get k) b e = refl
unseen_open m (Put k v) b e = read_past m k (Some v) b (apart (has_key k (keys_of b)) (meet_seal (Put k v) b) e)
unseen_open m (Del k) b e = read_past m k None b (apart (has_key k (keys_of b)) (meet_seal (Del k) b) e)
unseen_open m (Swap p) b e =
    let n = apart_both (has_key p.first (keys_of b)) (has_key p.second (keys_of b)) (meet_seal (Swap p) b) e in
    read_past (with_key m p.first (value_at m p.second)) p.second (value_at m p.first) b n.1 ∙ read_past m p.first (value_at m p.second) b n.0
unseen_open m (Cas k x n) b e = go (same_option (value_at m k) x)
  where
    go : (t : Bool) → read (cond t (with_key m k n) m) b ≡ read m b
    go true = read_past m k n b (apart (has_key k (keys_of b)) (meet_seal (Cas k x n) b) e)
    go false = refl
unseen_open m (Seal v) b e = refl
unseen_open m (Opaque q w) b e = refl
unseen_open m (Tx is) b e = go (none_writes is) refl
  where
    go : (t : Bool) → none_writes is ≡ t → read (written m (Tx is)) b ≡ read m b
    go true f = ap (λ (x : Contents). read x b) (tx_reads m is f)
    go false f = tx_unread m is b (unshared (share_key (item_keys is) (keys_of b)) (none_writes is) (only_reads b) (meet_seal (Tx is) b) e f)

-- Seals: only a no-op doesn't interfere with one.

pub no_seal : (c : Command) → (sealed_by c ≡ None) ⊎ (is_seal c ≡ true)
no_seal Noop = inl refl
no_seal (Get k) = inl refl
no_seal (Put k v) = inl refl
no_seal (Del k) = inl refl
no_seal (Swap p) = inl refl
no_seal (Cas k x n) = inl refl
no_seal (Seal v) = inr refl
no_seal (Opaque q w) = inl refl
no_seal (Tx is) = inl refl

-- the value of a seal
pub seal_value : (c : Command) → is_seal c ≡ true → (v : List ℕ) × (c ≡ Seal v)
seal_value Noop e = absurd (false≢true e)
seal_value (Get k) e = absurd (false≢true e)
seal_value (Put k v) e = absurd (false≢true e)
seal_value (Del k) e = absurd (false≢true e)
seal_value (Swap p) e = absurd (false≢true e)
seal_value (Cas k x n) e = absurd (false≢true e)
seal_value (Seal v) e = (v, refl)
seal_value (Opaque q w) e = absurd (false≢true e)
seal_value (Tx is) e = absurd (false≢true e)

pub before_seal : (v : List ℕ) (a : Command) → interfere a (Seal v) ≡ false → a ≡ Noop
before_seal v Noop e = refl
before_seal v (Get k) e = absurd (false≢true (sym e))
before_seal v (Put k w) e = absurd (false≢true (sym e))
before_seal v (Del k) e = absurd (false≢true (sym e))
before_seal v (Swap p) e = absurd (false≢true (sym e))
before_seal v (Cas k x n) e = absurd (false≢true (sym e))
before_seal v (Seal w) e = absurd (false≢true (sym e))
before_seal v (Opaque q w) e = absurd (false≢true (sym e ∙ or_true (meet (Opaque q w) (Seal v))))
before_seal v (Tx is) e = absurd (false≢true (sym e ∙ or_true (meet (Tx is) (Seal v))))

after_seal : (v : List ℕ) (b : Command) → interfere (Seal v) b ≡ false → b ≡ Noop
after_seal v Noop e = refl
after_seal v (Get k) e = absurd (false≢true (sym e))
after_seal v (Put k w) e = absurd (false≢true (sym e))
after_seal v (Del k) e = absurd (false≢true (sym e))
after_seal v (Swap p) e = absurd (false≢true (sym e))
after_seal v (Cas k x n) e = absurd (false≢true (sym e))
after_seal v (Seal w) e = absurd (false≢true (sym e))
after_seal v (Opaque q w) e = absurd (false≢true (sym e))
after_seal v (Tx is) e = absurd (false≢true (sym e))

-- a no-op leaves the map as it is
under_noop : (o : Option (List ℕ)) (m : Contents) → after_under o m Noop ≡ record { contents = m; seal = o }
under_noop None m = refl
under_noop (Some v) m = refl

pub after_noop : (s : Store) → after s Noop ≡ s
after_noop s = under_noop s.seal s.contents

pub noop_passes : (s : Store) (c : Command) → after (after s Noop) c ≡ after (after s c) Noop
noop_passes s c = ap (λ t. after t c) (after_noop s) ∙ sym (after_noop (after s c))

abbrev pub map_of : Contents → Option (List ℕ) → Store
map_of m o = record { contents = m; seal = o }

store_from : (m n : Contents) (o p : Option (List ℕ)) → m ≡ n → o ≡ p → map_of m o ≡ map_of n p
store_from m n o p e f = λ t. record { contents = e t; seal = f t }

two_open : (m : Contents) (a b : Command) → sealed_by a ≡ None → sealed_by b ≡ None → written (written m a) b ≡ written (written m b) a → after (after_under None m a) b ≡ after (after_under None m b) a
two_open m a b ea eb e =
    ap (λ o. after_under o (written m a) b) ea
    ∙ store_from (written (written m a) b) (written (written m b) a) (sealed_by b) (sealed_by a) e (eb ∙ sym ea)
    ∙ sym (ap (λ o. after_under o (written m b) a) eb)

commutes_under : (o : Option (List ℕ)) (m : Contents) (a b : Command) → interfere a b ≡ false → after (after_under o m a) b ≡ after (after_under o m b) a
commutes_under (Some v) m a b e = refl
commutes_under None m a b e = elim (no_seal a) [
  | inl ea ↦ elim (no_seal b) [
    | inl eb ↦ two_open m a b ea eb (commutes_open m a b e)
    | inr sb ↦ last (seal_value b sb)
  ]
  | inr sa ↦ first (seal_value a sa)
]
  where
    last : (v : List ℕ) × (b ≡ Seal v) → after (after_under None m a) b ≡ after (after_under None m b) a
    last s =
        let n : a ≡ Noop = before_seal s.0 a (subst (λ d. interfere a d ≡ false) s.1 e) in
        subst (λ d. after (after_under None m d) b ≡ after (after_under None m b) d) (sym n) (noop_passes (record { contents = m; seal = None }) b)

    first : (v : List ℕ) × (a ≡ Seal v) → after (after_under None m a) b ≡ after (after_under None m b) a
    first s =
        let n : b ≡ Noop = after_seal s.0 b (subst (λ d. interfere d b ≡ false) s.1 e) in
        subst (λ d. after (after_under None m a) d ≡ after (after_under None m d) a) (sym n) (sym (noop_passes (record { contents = m; seal = None }) a))

-- two commands that don't interfere leave one map in either order
pub commutes : (s : Store) (a b : Command) → interfere a b ≡ false → after (after s a) b ≡ after (after s b) a
commutes s a b e = commutes_under s.seal s.contents a b e

noop_reply : (s : Store) → reply s Noop ≡ Absent
noop_reply s = go s.seal
  where
    go : (o : Option (List ℕ)) → reply_under o s.contents Noop ≡ Absent
    go None = refl
    go (Some v) = refl

unseen_under : (o : Option (List ℕ)) (m : Contents) (a b : Command) → interfere a b ≡ false → reply (after_under o m a) b ≡ reply_under o m b
unseen_under (Some v) m a b e = refl
unseen_under None m a b e = elim (no_seal a) [
  | inl ea ↦ ap (λ o. reply_under o (written m a) b) ea ∙ unseen_open m a b e
  | inr sa ↦ first (seal_value a sa)
]
  where
    first : (v : List ℕ) × (a ≡ Seal v) → reply (after_under None m a) b ≡ reply_under None m b
    first s =
        let n : b ≡ Noop = after_seal s.0 b (subst (λ d. interfere d b ≡ false) s.1 e) in
        subst (λ d. reply (after_under None m a) d ≡ reply_under None m d) (sym n) (noop_reply (after_under None m a))

-- and the one has the reply that it has without the other
pub unseen : (s : Store) (a b : Command) → interfere a b ≡ false → reply (after s a) b ≡ reply s b
unseen s a b e = unseen_under s.seal s.contents a b e
