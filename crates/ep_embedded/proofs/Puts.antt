-- A put whose key and value stand in one run of bytes.
use Rattle.std.proofs.Common.{◌≡◌, ℕ, ◌+◌, ◌≤◌, true, Some, List, [], ◌++◌, length, take, drop, refl, sym, ap, ◌∙◌, arith}
use Rattle.std.proofs.lemmas.List.{take_at, drop_at}
use Rattle.ep_base.specs.Commands.{Put}
use Rattle.ep_base.specs.CommandParts.{are_parts, command_in, cut}
use Rattle.ep_base.specs.Values.{most_value}
use Rattle.ep_base.specs.declared.op.Op.TheVariants as op
use Rattle.ep_base.proofs.Partitions.{fits_from, key_from, short_from}

cut_is : (k v run : List ℕ) (n : ℕ) → run ≡ k ++ v → n ≡ length k → cut op.Put run n 0 ≡ record { op = op.Put; first = k; second = []; body = v }
cut_is k v run n is long =
    let first : take n run ≡ k = ap (take n) is ∙ take_at k v n (sym long) in
    let at : length k ≡ n + 0 = omega (arith, long) in
    let body : drop (n + 0) run ≡ v = ap (drop (n + 0)) is ∙ drop_at k v (n + 0) at in
    λ i. record { op = op.Put; first = first i; second = []; body = body i }

pub put_fits : (k v run : List ℕ) (n : ℕ) → run ≡ k ++ v → n ≡ length k → 1 ≤ length k → length k ≤ 255 → length v ≤ most_value → are_parts (cut op.Put run n 0) ≡ true
put_fits k v run n is long some short fits =
    ap are_parts (cut_is k v run n is long) ∙ fits_from op.Put k [] v (record { first = key_from k (some, short); second = refl; body = short_from (Some v) fits; once = refl; said = refl })

pub put_is : (k v run : List ℕ) (n : ℕ) → run ≡ k ++ v → n ≡ length k → command_in (cut op.Put run n 0) ≡ Put k v
put_is k v run n is long = ap command_in (cut_is k v run n is long)
