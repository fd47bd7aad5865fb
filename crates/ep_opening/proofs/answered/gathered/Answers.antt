use Rattle.std.proofs.Common.{[], subst}
use Rattle.ep_opening.specs.Gathering.{Gains, WasAnsweredIn}
use Rattle.ep_opening.proofs.Noted.{gathered_more}
use Rattle.ep_opening.proofs.answered.gathered.Goals as goal

pub loop-entry-preserved : goal.loop-entry-preserved
loop-entry-preserved c =
    gathered_more c.args.entries.now c.loop-entry.entry-index c.entry-item.result [] c.loop-entry.set.list c.note_all.new.set.list c.loop-entry-test.true c.entry-item.is c.loop-entry.invariant
    (subst (λ done. Gains (WasAnsweredIn done) c.loop-entry.set.list c.note_all.new.set.list) c.as_slice.ensures c.in_ok-note_all.ensures)
