use Rattle.ep_ending.proofs.Cutting.{Counted}
use Rattle.ep_ending.proofs.Listing.{left_after}
use Rattle.ep_ending.proofs.opened.push_all_open.Given as goal

abbrev pub invariant-loop-next : goal.invariant-loop-next
invariant-loop-next l = Counted l.journals l.next l.reported l.initial.text.items l.text.items

abbrev pub decreases-loop-next : goal.decreases-loop-next
decreases-loop-next l = left_after l.next
