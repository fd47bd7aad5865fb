use Rattle.ep_ending.proofs.Listing.{left_after}
use Rattle.ep_trace.proofs.Opening.{Listed}
use Rattle.ep_trace.proofs.left.push_all_open.Given as goal

abbrev pub invariant-loop-next : goal.invariant-loop-next
invariant-loop-next l = Listed l.replica l.next l.initial.text.items l.text.items

abbrev pub decreases-loop-next : goal.decreases-loop-next
decreases-loop-next l = left_after l.next
