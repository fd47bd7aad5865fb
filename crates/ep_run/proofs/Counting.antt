-- Numbers from 0 in order, and how many frames nodes have lost.
use Rattle.std.proofs.Common.{◌≡◌, ℕ, ◌+◌, List, [], ◌∷◌, ◌++◌, ◌∙◌, ap, sym, arith, min}
use Rattle.std.specs.List.{range_with_len, sum_by}
use Rattle.std.proofs.lemmas.List.{map-id}
use Rattle.std.proofs.lemmas.List.FromFn.{map-range_with_len_more}
use Rattle.std.proofs.lemmas.List.Sums.{sum_by_push}
use Rattle.ep_host.specs.Node.{Node}
use Rattle.ep_run.specs.Rings.{lost_in}

pub one_more : (n : ℕ) → range_with_len 0 (n + 1) ≡ range_with_len 0 n ++ n ∷ []
one_more n =
    sym (map-id (range_with_len 0 (n + 1))) ∙ map-range_with_len_more (λ (k : ℕ). k) 0 n n (omega arith)
    ∙ ap (λ (l : List ℕ). l ++ n ∷ []) (map-id (range_with_len 0 n))

capped : (s n : ℕ) → min (min s 18446744073709551615 + n) 18446744073709551615 ≡ min (s + n) 18446744073709551615
capped s n = omega arith

pub lost_none : 0 ≡ lost_in []
lost_none = let none : min 0 18446744073709551615 ≡ 0 = omega arith in sym none

pub lost_more : (ys : List Node) (x : Node) → min (lost_in ys + x.lost) 18446744073709551615 ≡ lost_in (ys ++ x ∷ [])
lost_more ys x =
    capped (sum_by (λ (n : Node). n.lost) ys) x.lost
    ∙ ap (λ (k : ℕ). min k 18446744073709551615) (sym (sum_by_push (λ (n : Node). n.lost) ys x))
