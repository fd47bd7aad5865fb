use Rattle.std.proofs.Common.{◌≡◌, ◌∙◌, ℕ, List, [], ◌∷◌, ◌++◌, map, ap, sym, rules}
use Rattle.std.specs.List.{range_with_len}
use Rattle.std.proofs.lemmas.List.{map_push}
use Rattle.ep_run.specs.declared.lane.Lane.{Lane}
use Rattle.ep_run.proofs.Counting.{one_more}
use Rattle.ep_run.proofs.lane.lanes.Goals as goal

pub loop-index-preserved : goal.loop-index-preserved
loop-index-preserved c =
    let i : ℕ = c.loop-index.index in
    let new : c.new-in-loop-index.result.replica ≡ i = search rules in
    ap (map (λ (l : Lane). l.replica)) c.in_ok-push.ensures.items
    ∙ map_push (λ (l : Lane). l.replica) c.loop-index.lanes.items c.new-in-loop-index.result
    ∙ ap (λ (l : List ℕ). l ++ c.new-in-loop-index.result.replica ∷ []) c.loop-index.invariant
    ∙ ap (λ (k : ℕ). range_with_len 0 i ++ k ∷ []) new ∙ sym (one_more i)
