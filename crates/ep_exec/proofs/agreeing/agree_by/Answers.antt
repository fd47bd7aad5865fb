use Rattle.std.proofs.Common.{◌≡◌, ◌∙◌, sym, refl, rules, true, false, Some, Option, List, ℕ, Vec}
use Rattle.std.specs.Global.{Global}
use Rattle.std.specs.Prelude.{slice_get}
use Rattle.ep_exec.specs.Table.{Entry}
use Rattle.ep_exec.proofs.Agreement.{next_agrees}
use Rattle.ep_exec.proofs.agreeing.agree_by.Goals as goal

pub returns-then-not-is_same_at : goal.returns-then-not-is_same_at
returns-then-not-is_same_at c =
    let es : List Entry = c.args.changes.now.entries in
    let k = c.loop-index.index in
    let i : Vec ℕ Global = c.unwrap.result.0.now in
    let v : Option (List ℕ) = c.unwrap.result.1.now in
    let at : slice_get es k ≡ Some (i, v) = rw (← c.get_index.ensures.entry, c.unwrap.ensures) refl in
    let no : c.is_same_at.result ≡ false = search rules in
    next_agrees c.args.one.now c.args.other.now es k i v c.as_slice.result.now false at c.as_slice.ensures.value (sym no ∙ c.is_same_at.ensures) c.loop-index.invariant

pub loop-index-preserved : goal.loop-index-preserved
loop-index-preserved c =
    let es : List Entry = c.args.changes.now.entries in
    let k = c.loop-index.index in
    let i : Vec ℕ Global = c.unwrap.result.0.now in
    let v : Option (List ℕ) = c.unwrap.result.1.now in
    let at : slice_get es k ≡ Some (i, v) = rw (← c.get_index.ensures.entry, c.unwrap.ensures) refl in
    let yes : c.is_same_at.result ≡ true = search rules in
    next_agrees c.args.one.now c.args.other.now es k i v c.as_slice.result.now true at c.as_slice.ensures.value (sym yes ∙ c.is_same_at.ensures) c.loop-index.invariant
