use Rattle.std.proofs.Common.{◌≤◌, ◌∙◌, ℕ, false, [], length, subst}
use Rattle.ep_audit.specs.Tables.{agreed_in}
use Rattle.ep_audit.specs.Turns.{taken_of}
use Rattle.ep_audit.specs.Verdicts.{places_of}
use Rattle.ep_audit.proofs.Lining.{Looked, lines_taken, looked, lined_first, lined_looked, lined_last, never_none, all_placed}
use Rattle.ep_audit.proofs.history.history_of.Goals as goal
use Rattle.ep_audit.proofs.history.history_of.Goals.{in-Some+in_ok-add_executions+in_ok-see_all, in_default}

pub loop-replica-init : goal.loop-replica-init
loop-replica-init c = λ s h. rw (c.new-seen.ensures, c.new-lines.ensures.items) (lined_first (agreed_in c.args.journals.now) (taken_of false s))

pub loop-replica-preserved : goal.loop-replica-preserved
loop-replica-preserved c = λ s h.
    let k : ℕ = c.loop-replica.replica-index in
    let l : Looked c.args.journals.now (taken_of false s) k c.entry_at.result = looked c.args.journals.now false s k c.loop-replica-item.result c.args.executing.now c.entry_at.result c.are_local_runs.ensures h (c.requires s h) c.loop-replica-test.true c.loop-replica-item.is c.entry_at.ensures in
    elim c.match-entry_at.branch [
      | in-Some+in_ok-add_executions+in_ok-see_all w ↦ rw (w.seen-is, w.lines-is) (lined_looked c.args.journals.now (agreed_in c.args.journals.now) (taken_of false s) c.loop-replica.seen.list w.see_all.new.seen.list c.loop-replica.lines.items w.add_executions.new.lines.items k c.entry_at.result w.in-Some.entry w.as_slice-done.result.now
          l w.in-Some.is w.as_slice-done.ensures (c.loop-replica.invariant s h) w.in_ok-add_executions.ensures w.in_ok-see_all.ensures)
      | in_default w ↦ absurd (never_none c.args.journals.now (taken_of false s) k c.entry_at.result l w.in_default.is)
    ]

pub returns : goal.returns
returns c = λ s h.
    let k : ℕ = c.loop-replica.replica-index in
    let le : length (places_of (taken_of false s)) ≤ k = subst (λ xs. length xs ≤ k) (c.requires s h) c.loop-replica-test.false in
    lined_last (agreed_in c.args.journals.now) (taken_of false s) c.loop-replica.seen.list c.loop-replica.lines.items k (all_placed (taken_of false s) k le) (c.loop-replica.invariant s h) ∙ lines_taken (agreed_in c.args.journals.now) [] s
