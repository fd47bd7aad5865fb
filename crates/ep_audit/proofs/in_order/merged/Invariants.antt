use Rattle.std.proofs.Common.{◌≡◌, List, length}
use Rattle.ep_base.specs.Quorums.{size}
use Rattle.ep_rules.specs.Journals.{Scheduled, IsSchedule}
use Rattle.ep_journal.specs.Entries.{journals_of}
use Rattle.ep_audit.specs.Turns.{rests, taken_of, AreFirst}
use Rattle.ep_audit.proofs.Turning.{Remains, left_below}
use Rattle.ep_audit.proofs.in_order.merged.Given as goal

abbrev pub invariant-loop-turn : goal.invariant-loop-turn
invariant-loop-turn l = record {
  replicas : length l.done.items ≡ size l.journals.faults;
  firsts : AreFirst (size l.journals.faults) (rests l.all (journals_of l.journals) l.done.items) l.turns.items;
  remains : (s : List Scheduled) → IsSchedule (journals_of l.journals) s → Remains l.all (journals_of l.journals) l.done.items l.order.items (taken_of l.all s);
}

abbrev pub decreases-loop-turn : goal.decreases-loop-turn
decreases-loop-turn l = left_below (size l.journals.faults) (rests l.all (journals_of l.journals) l.done.items)
