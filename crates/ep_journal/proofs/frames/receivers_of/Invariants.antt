use Rattle.std.proofs.Common.{◌≡◌, ◌≤◌, length}
use Rattle.ep_base.specs.declared.message.Message.{Message}
use Rattle.ep_rules.specs.Counting.{to_those}
use Rattle.ep_journal.specs.Inputs.{receives}
use Rattle.ep_journal.specs.Several.{to_each}
use Rattle.ep_journal.proofs.frames.receivers_of.Given as goal

abbrev pub invariant-loop-r : goal.invariant-loop-r
invariant-loop-r l = record {
  few : length l.chosen ≤ l.r;
  sent : (m : Message) → to_each l.chosen m ≡ to_those (receives l.cell l.multicast.to) l.r m;
}
