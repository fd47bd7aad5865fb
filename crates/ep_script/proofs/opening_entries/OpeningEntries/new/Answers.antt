use Rattle.ep_script.proofs.KeySets.{none_kept}
use Rattle.ep_script.proofs.opening_entries.OpeningEntries.new.Goals as goal

pub invariant_of-result : goal.invariant_of-result
invariant_of-result c = none_kept c.new-2.result c.new.result.items c.new-2.ensures.empty c.new.ensures.items
