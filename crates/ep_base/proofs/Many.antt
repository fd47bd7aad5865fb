-- Commands over many keys, and their bodies.
use Rattle.std.proofs.Common.{◌≡◌, ℕ, zero, suc, ◌+◌, ◌-◌, ◌*◌, ◌/◌, ◌%◌, ◌<◌, ◌≤◌, List, [], ◌∷◌, ◌++◌, length, drop, take, Option, Some, None, Result, Ok, Err, Bool, true, false, cond, refl, sym, ap, subst, ◌∙◌, true≢false, arith}
use Rattle.std.specs.Cmp.{both_ways}
use Rattle.std.specs.Cmp.Derive.{both_true}
use Rattle.std.specs.Prelude.{◌≢◌, ◌&&◌, IfOk, nat_le, slice_index}
use Rattle.std.proofs.lemmas.Bool.{eq-eqb, and_parts, le-leb, leb-true}
use Rattle.std.proofs.lemmas.List.{take_rest}
use Rattle.ep_base.specs.Commands.{Command, Noop, Get, Put, Del, Swap, Cas, Seal, Opaque, Tx}
use Rattle.ep_base.specs.Interference.{is_many}
use Rattle.ep_base.specs.Attributes.{same_list}
use Rattle.ep_base.specs.Items.{Item, reported_count, rise_above}
use Rattle.ep_base.specs.Ops.{is_items_len}
use Rattle.ep_base.specs.CommandParts.{parts_of, items_of, items_in, items_at, item_at, item_bytes, items_bytes, tx_bytes, all_items, are_items, are_items_at, are_counted, is_tx, part_at, guard_in, guard_bytes, is_short_in, are_parts, body_said, command_of, IsPartLen, IsGuardLen, IsInRange}
use Rattle.ep_base.proofs.Bodies.{tx_again, tx_there, tx_parts}
use Rattle.ep_base.proofs.Same.{Decides-same_list}
use Rattle.ep_base.proofs.Partitions.{fits, of_then, short_there}
use Rattle.ep_base.specs.declared.command_fault.CommandFault.{CommandFault}
use Rattle.ep_base.specs.declared.op.Op.TheVariants as op

pub many_body : (c : Command) → IsInRange c → is_many c ≡ true → is_tx (parts_of c).body ≡ true
many_body Noop h e = absurd (true≢false (sym e))
many_body (Get k) h e = absurd (true≢false (sym e))
many_body (Put k v) h e = absurd (true≢false (sym e))
many_body (Del k) h e = absurd (true≢false (sym e))
many_body (Swap p) h e = absurd (true≢false (sym e))
many_body (Cas k x n) h e = absurd (true≢false (sym e))
many_body (Seal v) h e = absurd (true≢false (sym e))
many_body (Opaque p b) h e = absurd (true≢false (sym e))
many_body (Tx is) h e = tx_there is h

pub many_items : (c : Command) → is_many c ≡ true → items_in (parts_of c).body ≡ items_of c
many_items Noop e = absurd (true≢false (sym e))
many_items (Get k) e = absurd (true≢false (sym e))
many_items (Put k v) e = absurd (true≢false (sym e))
many_items (Del k) e = absurd (true≢false (sym e))
many_items (Swap p) e = absurd (true≢false (sym e))
many_items (Cas k x n) e = absurd (true≢false (sym e))
many_items (Seal v) e = absurd (true≢false (sym e))
many_items (Opaque p b) e = absurd (true≢false (sym e))
many_items (Tx is) e = tx_again is

pub no_items : (c : Command) → is_many c ≡ false → items_of c ≡ []
no_items Noop e = refl
no_items (Get k) e = refl
no_items (Put k v) e = refl
no_items (Del k) e = refl
no_items (Swap p) e = refl
no_items (Cas k x n) e = refl
no_items (Seal v) e = refl
no_items (Opaque p b) e = refl
no_items (Tx is) e = absurd (true≢false e)

-- the body of a command of this op is such
pub tx_body : (c : Command) → are_parts (parts_of c) ≡ true → (parts_of c).op ≡ op.Tx → is_tx (parts_of c).body ≡ true
tx_body c e is = let p = parts_of c in let f = fits p.op p.first p.second p.body e in subst (λ o. body_said o p.body ≡ true) is f.said

pub tx_ranged : (c : Command) → are_parts (parts_of c) ≡ true → (parts_of c).op ≡ op.Tx → are_items (items_in (parts_of c).body) ≡ true
tx_ranged c e is = (tx_parts (parts_of c).body (tx_body c e is)).1

-- making one
pub tx_made : (k l b : List ℕ) (r : Result Command CommandFault) → IfOk r (λ c. command_of (record { op = op.Tx; first = k; second = l; body = b }) ≡ Some c) → IfOk r (λ c. c ≡ Tx (items_in b))
tx_made k l b (Ok c) h = sym (of_then (record { op = op.Tx; first = k; second = l; body = b }) c h).1
tx_made k l b (Err fault) h = h

-- Guards.

abbrev NoGuard : List ℕ → Option (Option (List ℕ)) → Type 0
NoGuard b g = is_short_in g ≡ true → (rest : List ℕ) → b ≢ guard_bytes g ++ rest

-- flags that have a guard, and bytes that don't begin with one
pub guard_none : (f : ℕ) (b : List ℕ) → f / 2 % 2 ≡ 1 → IsPartLen b None → IsGuardLen f b None
guard_none f b is none =
    let guard : guard_in f b ≡ Some (part_at b) = ap (λ t. cond t (Some (part_at b)) None) (eq-eqb (f / 2 % 2) 1 is) in
    subst (NoGuard b) (sym guard) (λ short rest. none (short_there (part_at b) short) rest)

-- Whether bytes are a body.

pub items_len : (n : ℕ) (b : List ℕ) → length (items_at n b) ≡ n
items_len zero b = refl
items_len (suc n) b = ap suc (items_len n (drop (length (item_bytes (item_at b))) b))

-- what the test of items says
record Counted (is : List Item) : Type 0 where
  some : (nat_le 1 (length is) && nat_le (length is) 1024) ≡ true
  all : all_items is ≡ true
  rise : rise_above [] is ≡ true
  few : nat_le (reported_count is) 16 ≡ true

counted : (is : List Item) → are_items is ≡ true → Counted is
counted is h =
    let long = is_items_len (length (tx_bytes is)) in
    let some = and_parts (nat_le 1 (length is) && nat_le (length is) 1024) (all_items is && (rise_above [] is && (nat_le (reported_count is) 16 && long))) h in
    let all = and_parts (all_items is) (rise_above [] is && (nat_le (reported_count is) 16 && long)) some.1 in
    let rise = and_parts (rise_above [] is) (nat_le (reported_count is) 16 && long) all.1 in
    record { some = some.0; all = all.0; rise = rise.0; few = (and_parts (nat_le (reported_count is) 16) long rise.1).0 }

abbrev within : ℕ → Bool
within n = nat_le 1 n && nat_le n 1024

counted_from : (n : ℕ) (x : List ℕ) → Counted (items_at n x) → x ≡ items_bytes (items_at n x) → are_counted n x ≡ true
counted_from n x c e =
    both_true (ap within (sym (items_len n x)) ∙ c.some) (both_true (both_true ((Decides-same_list x (items_bytes (items_at n x))).1 e) c.all) (both_true c.rise c.few))

tx_from : (a c : ℕ) (x : List ℕ) → c < 256 → 5 ≤ length (a ∷ c ∷ x) → length (a ∷ c ∷ x) ≤ 131080 → are_counted (a * 256 + c) x ≡ true → is_tx (a ∷ c ∷ x) ≡ true
tx_from a c x small low high h =
    let n = a * 256 + c in
    let is = items_at n x in
    let p = and_parts (within n) (are_items_at n x && (rise_above [] is && nat_le (reported_count is) 16)) h in
    let q = and_parts (are_items_at n x) (rise_above [] is && nat_le (reported_count is) 16) p.1 in
    let r = and_parts (same_list x (items_bytes is)) (all_items is) q.0 in
    let s = and_parts (rise_above [] is) (nat_le (reported_count is) 16) q.1 in
    let bytes : x ≡ items_bytes is = (Decides-same_list x (items_bytes is)).0 r.0 in
    let len : length is ≡ n = items_len n x in
    let first : a ≡ length is / 256 = omega (arith, len, small) in
    let second : c ≡ length is % 256 = omega (arith, len, small) in
    let whole : (a ∷ c ∷ x) ≡ tx_bytes is = λ i. first i ∷ second i ∷ bytes i in
    let total : length (a ∷ c ∷ x) ≡ length (tx_bytes is) = ap length whole in
    let long : is_items_len (length (tx_bytes is)) ≡ true = ap is_items_len (sym total) ∙ both_true (le-leb 5 (length (a ∷ c ∷ x)) low) (le-leb (length (a ∷ c ∷ x)) 131080 high) in
    both_true ((Decides-same_list (a ∷ c ∷ x) (tx_bytes is)).1 whole) (both_true (ap within len ∙ p.0) (both_true r.1 (both_true s.0 (both_true s.1 long))))

tx_then : (a c : ℕ) (x : List ℕ) → is_tx (a ∷ c ∷ x) ≡ true → are_counted (a * 256 + c) x ≡ true
tx_then a c x h =
    let p = tx_parts (a ∷ c ∷ x) h in
    let n = a * 256 + c in
    counted_from n x (counted (items_at n x) p.1) (ap (λ b. drop 2 b) p.0)

pub tx_counted : (b : List ℕ) (n : ℕ) (r : List ℕ) → 5 ≤ length b → length b ≤ 131080 → slice_index b 1 < 256 → n ≡ slice_index b 0 * 256 + slice_index b 1 → r ≡ take (length b - 2) (drop 2 b) → are_counted n r ≡ is_tx b
tx_counted [] n r low high small e f = absurd (omega (arith, low))
tx_counted (a ∷ []) n r low high small e f = absurd (omega (arith, low))
tx_counted (a ∷ c ∷ x) n r low high small e f =
    let rest : r ≡ x = f ∙ take_rest (a ∷ c ∷ x) 2 in
    (λ i. are_counted (e i) (rest i)) ∙ both_ways (are_counted (a * 256 + c) x) (is_tx (a ∷ c ∷ x)) (tx_from a c x small low high) (tx_then a c x)

-- a body isn't shorter or longer
tx_length : (b : List ℕ) → is_tx b ≡ true → is_items_len (length b) ≡ true
tx_length b h =
    let p = tx_parts b h in
    let is = items_in b in
    let long = is_items_len (length (tx_bytes is)) in
    let some = and_parts (nat_le 1 (length is) && nat_le (length is) 1024) (all_items is && (rise_above [] is && (nat_le (reported_count is) 16 && long))) p.1 in
    let all = and_parts (all_items is) (rise_above [] is && (nat_le (reported_count is) 16 && long)) some.1 in
    let rise = and_parts (rise_above [] is) (nat_le (reported_count is) 16 && long) all.1 in
    ap (λ x. is_items_len (length x)) p.0 ∙ (and_parts (nat_le (reported_count is) 16) long rise.1).1

not_then : (t : Bool) → (t ≡ true → ⊥) → false ≡ t
not_then true h = absurd (h refl)
not_then false h = refl

pub tx_short : (b : List ℕ) → length b < 5 → false ≡ is_tx b
tx_short b s = not_then (is_tx b) (λ h. let p = and_parts (nat_le 5 (length b)) (nat_le (length b) 131080) (tx_length b h) in let le = leb-true 5 (length b) p.0 in omega (arith, le, s))

pub tx_long : (b : List ℕ) → 131080 < length b → false ≡ is_tx b
tx_long b s = not_then (is_tx b) (λ h. let p = and_parts (nat_le 5 (length b)) (nat_le (length b) 131080) (tx_length b h) in let le = leb-true (length b) 131080 p.1 in omega (arith, le, s))
