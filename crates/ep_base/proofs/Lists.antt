-- What is left of a list at a place.
use Rattle.std.proofs.Common.{◌≡◌, ℕ, suc, ◌+◌, ◌<◌, List, ◌∷◌, length, drop, slice_index_or, Some, sym, ap, ◌∙◌, arith}
use Rattle.std.specs.Prelude.{slice_get}
use Rattle.std.proofs.Math.Seq.{drop-cons}
use Rattle.std.proofs.lemmas.Option.{slice_get_within, get_or_from_slice_get, slice_get-get_or}

pub drop_here : {X : Type 0} (es : List X) (k : ℕ) (x : X) → slice_get es k ≡ Some x → drop k es ≡ x ∷ drop (k + 1) es
drop_here es k x h =
    let cons = drop-cons es k x (slice_get_within es k x h) in
    let place : suc k ≡ k + 1 = omega arith in
    cons ∙ (λ t. get_or_from_slice_get es k x x h t ∷ drop (place t) es)

-- where what stands there is named
pub left_at : (run : List ℕ) (k : ℕ) (i : ℕ) → k < length run → i ≡ slice_index_or run k i → drop k run ≡ i ∷ drop (k + 1) run
left_at run k i inside named = drop_here run k i (slice_get-get_or run k i inside ∙ ap Some (sym named))
