-- What a command over many keys reports.
use Rattle.std.proofs.Common.{◌≡◌, ◌≤◌, ℕ, suc, length, List, [], ◌∷◌, Option, Bool, true, false, cond, ◌&&◌, refl}
use Rattle.std.proofs.Common.{sym, ap, subst, true≢false}
use Rattle.std.specs.Prelude.{nat_le}
use Rattle.std.proofs.lemmas.Bool.{and_parts, leb-true}
use Rattle.ep_base.specs.Commands.{Command, Noop, Get, Put, Del, Swap, Cas, Seal, Opaque, Tx}
use Rattle.ep_base.specs.Interference.{is_many}
use Rattle.ep_base.specs.Items.{Item, rise_above, reported_count}
use Rattle.ep_base.specs.Ops.{is_items_len}
use Rattle.ep_base.specs.CommandParts.{IsInRange, all_items, are_items, items_of, tx_bytes}
use Rattle.ep_rules.specs.OneMap.{Contents, value_at, reply_values}

-- as many values are reported as items are
pub reported_length : (m : Contents) (is : List Item) → length (reply_values m is) ≡ reported_count is
reported_length m [] = refl
reported_length m (i ∷ is) = go i.reported (reply_values m is) (reported_count is) (reported_length m is)
  where
    go : (b : Bool) (vs : List (Option (List ℕ))) (n : ℕ) → length vs ≡ n
        → length (cond b (value_at m i.key ∷ vs) vs) ≡ cond b (suc n) n
    go true vs n e = ap suc e
    go false vs n e = e

few : (is : List Item) → are_items is ≡ true → reported_count is ≤ 16
few is h =
    let long = is_items_len (length (tx_bytes is)) in
    let few_and_long = nat_le (reported_count is) 16 && long in
    let counted = nat_le 1 (length is) && nat_le (length is) 1024 in
    let some = and_parts counted (all_items is && (rise_above [] is && few_and_long)) h in
    let all = and_parts (all_items is) (rise_above [] is && few_and_long) some.1 in
    let rise = and_parts (rise_above [] is) few_and_long all.1 in
    leb-true (reported_count is) 16 (and_parts (nat_le (reported_count is) 16) long rise.1).0

-- at most 16
pub few_reported : (m : Contents) (c : Command) → is_many c ≡ true → IsInRange c → length (reply_values m (items_of c)) ≤ 16
few_reported m Noop e h = absurd (true≢false (sym e))
few_reported m (Get k) e h = absurd (true≢false (sym e))
few_reported m (Put k v) e h = absurd (true≢false (sym e))
few_reported m (Del k) e h = absurd (true≢false (sym e))
few_reported m (Swap p) e h = absurd (true≢false (sym e))
few_reported m (Cas k x n) e h = absurd (true≢false (sym e))
few_reported m (Seal v) e h = absurd (true≢false (sym e))
few_reported m (Opaque p b) e h = absurd (true≢false (sym e))
few_reported m (Tx is) e h = subst (λ n. n ≤ 16) (sym (reported_length m is)) (few is h)
