-- The open instances that are reported, one more and to their end.
use Rattle.std.proofs.Common.{◌≡◌, ℕ, suc, ◌+◌, ◌-◌, ◌≤◌, ◌<◌, List, [], ◌∷◌, ◌++◌, sym, ap, subst, ◌∙◌, arith, append_assoc, append-nil}
use Rattle.std.specs.Prelude.{Option, Some, None}
use Rattle.ep_replica.specs.Kept.{Kept}
use Rattle.ep_replica.specs.Pending.{state_of}
use Rattle.ep_space.specs.Open.{IsNextOpen}
use Rattle.ep_node.specs.Reporting.{open_as, AreOpen}
use Rattle.ep_node.specs.declared.open_instance.OpenInstance.{OpenInstance}

-- whatever the others give, after so many turns, completes the whole
abbrev pub Completes : Kept → ℕ → ℕ → Option ℕ → List OpenInstance → Type 0
Completes k most turn above reported = (rest : List OpenInstance) → AreOpen k (most - turn) above rest → AreOpen k most None (reported ++ rest)

-- one more
pub one_reported : (k : Kept) (most turn i : ℕ) (above : Option ℕ) (x : OpenInstance) (reported : List OpenInstance) → turn < most → IsNextOpen (state_of k).records above (Some i) → x ≡ open_as k i
    → Completes k most turn above reported → Completes k most (turn + 1) (Some i) (reported ++ x ∷ [])
one_reported k most turn i above x reported lt next is so_far rest r =
    let left : most - turn ≡ suc (most - (turn + 1)) = omega arith in
    let named : x.instance ≡ i = ap (λ (y : OpenInstance). y.instance) is in
    let first : IsNextOpen (state_of k).records above (Some x.instance) = subst (λ (j : ℕ). IsNextOpen (state_of k).records above (Some j)) (sym named) next in
    let here : x ≡ open_as k x.instance = is ∙ ap (λ (j : ℕ). open_as k j) (sym named) in
    let others : AreOpen k (most - (turn + 1)) (Some x.instance) rest = subst (λ (j : ℕ). AreOpen k (most - (turn + 1)) (Some j) rest) (sym named) r in
    let all : AreOpen k (suc (most - (turn + 1))) above (x ∷ rest) = (first, here, others) in
    subst (λ (xs : List OpenInstance). AreOpen k most None xs) (sym (append_assoc reported (x ∷ []) rest)) (so_far (x ∷ rest) (subst (λ (n : ℕ). AreOpen k n above (x ∷ rest)) (sym left) all))

-- there is no other
pub last_reported : (k : Kept) (most turn : ℕ) (above : Option ℕ) (reported : List OpenInstance) → turn < most → IsNextOpen (state_of k).records above None → Completes k most turn above reported → AreOpen k most None reported
last_reported k most turn above reported lt none so_far =
    let left : most - turn ≡ suc (most - (turn + 1)) = omega arith in
    subst (λ (xs : List OpenInstance). AreOpen k most None xs) (append-nil reported) (so_far [] (subst (λ (n : ℕ). AreOpen k n above []) (sym left) none))

-- so many were reported
pub most_reported : (k : Kept) (most turn : ℕ) (above : Option ℕ) (reported : List OpenInstance) → most ≤ turn → Completes k most turn above reported → AreOpen k most None reported
most_reported k most turn above reported le so_far =
    let left : most - turn ≡ 0 = omega arith in
    subst (λ (xs : List OpenInstance). AreOpen k most None xs) (append-nil reported) (so_far [] (subst (λ (n : ℕ). AreOpen k n above []) (sym left) tt))
