use Rattle.std.proofs.Common.{◌≡◌, ◌∙◌, sym, ◌-◌, ◌+◌, arith, cond, Some, refl, List, ℕ, Vec}
use Rattle.std.specs.Global.{Global}
use Rattle.std.specs.Prelude.{slice_get}
use Rattle.ep_base.specs.Attributes.{same_list}
use Rattle.ep_space.specs.Index.{Entry}
use Rattle.ep_space.proofs.Entered.{run-from}
use Rattle.ep_space.proofs.index.duplicate_runs.Goals as goal

pub loop-place-preserved : goal.loop-place-preserved
loop-place-preserved c q =
    let es : List Entry = c.args.runs.now.entries in
    let k = c.loop-place.place - 1 in
    let name : Vec ℕ Global = c.unwrap.result.0.now in
    let places : Vec ℕ Global = c.unwrap.result.1.now in
    let at : slice_get es k ≡ Some (name, places) = rw (← c.get_index.ensures.entry, c.unwrap.ensures) refl in
    let next : c.loop-place.place ≡ k + 1 = omega arith in
    c.in_ok-set_run.ensures q
    ∙ (λ d. cond (same_list q (c.as_slice.ensures.value d)) (c.as_slice-in-loop-place.ensures.value d) (c.loop-place.invariant q d))
    ∙ sym (run-from es k c.loop-place.place (name, places) q at next)
