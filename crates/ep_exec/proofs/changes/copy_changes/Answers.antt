use Rattle.std.proofs.Common.{◌≡◌, ◌∙◌, sym, ap, ◌-◌, ◌+◌, drop, arith, Some, refl, Option, List, ℕ, Vec}
use Rattle.std.specs.Global.{Global}
use Rattle.std.specs.Prelude.{slice_get}
use Rattle.ep_rules.specs.OneMap.{with_key}
use Rattle.ep_exec.specs.Table.{Entry, over}
use Rattle.ep_exec.proofs.changes.copy_changes.Goals as goal
use Rattle.ep_base.proofs.Lists.{drop_here}

pub loop-index-preserved : goal.loop-index-preserved
loop-index-preserved c = λ m.
    let es : List Entry = c.args.changes.now.entries in
    let k = c.loop-index.index - 1 in
    let i : Vec ℕ Global = c.unwrap.result.0.now in
    let v : Option (List ℕ) = c.unwrap.result.1.now in
    let at : slice_get es k ≡ Some (i, v) = rw (← c.get_index.ensures.entry, c.unwrap.ensures) refl in
    let place : c.loop-index.index ≡ k + 1 = omega arith in
    c.in_ok-add.ensures m
    ∙ (λ t. with_key (over m c.loop-index.copy.entries) (c.as_slice.ensures.value t) (c.as_ref.ensures.value t))
    ∙ ap (λ n. with_key n i.items v) (c.loop-index.invariant m ∙ ap (λ (n : ℕ). over m (drop n es)) place)
    ∙ sym (ap (over m) (drop_here es k (i, v) at))
