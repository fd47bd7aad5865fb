use Rattle.ep_node.proofs.Noting.{noted_in}
use Rattle.ep_node.proofs.first_entries.FirstEntries.note_one.Goals as goal

pub returns-clause-noted : goal.returns-clause-noted
returns-clause-noted c = λ i is. noted_in _ i _ _ _ _ _ c.self.view_is c.slot_of.ensures.value c.slot_of.ensures.named is c.put_first.ensures.here c.put_first.ensures.others
