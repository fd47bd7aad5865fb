use Rattle.std.proofs.Common.{◌≡◌, List, ℕ, ◌+◌, [], ◌∷◌, ◌++◌, refl, take, add-one}
use Rattle.std.proofs.Math.Seq.{take-suc}
use Rattle.ep_script.specs.declared.agenda_line.AgendaLine.{AgendaLine}
use Rattle.ep_run.specs.Asking.{proposers_of}
use Rattle.ep_run.proofs.Submitting.{submissions_more, proposers_more}
use Rattle.ep_run.proofs.runner.submissions_of.Goals as goal

pub loop-line-preserved : goal.loop-line-preserved
loop-line-preserved c =
    let all : List (ℕ × AgendaLine) = c.lines-line-items.result.now in
    let i : ℕ = c.loop-line.line-index in
    let line : ℕ × AgendaLine = c.loop-line-item.result in
    let more : take (i + 1) all ≡ take i all ++ line ∷ [] = rw (add-one, take-suc all i line c.loop-line-test.true, ← c.loop-line-item.is) refl in record {
      tasks =
          λ ps ts are. rw (more, c.in_ok-push.ensures.items)
          (submissions_more ps ts (take i all) line c.loop-line.tasks.items c.in_ok-new.field-0 (c.loop-line.invariant.tasks ps ts are)
          (c.in_ok-new.ensures.task (proposers_of ps (take i all)) ts (c.loop-line.invariant.counted ps ts are)));
      counted =
          λ ps ts are. rw (more, proposers_more ps (take i all) line)
          (c.in_ok-new.ensures.counted (proposers_of ps (take i all)) ts (c.loop-line.invariant.counted ps ts are));
    }
