use Rattle.ep_rules.proofs.ClosedJournals.{closed_entries_lem}
use Rattle.ep_rules.proofs.generations.closed_entries.Goals as goal

pub returns : goal.returns
returns c = closed_entries_lem
