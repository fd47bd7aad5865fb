use Rattle.ep_exec.proofs.Rising.{maps_are}
use Rattle.ep_exec.proofs.listing.Listing.is_same.Goals as goal

pub returns : goal.returns
returns c = maps_are c.args.self.now c.args.other.now c.entries.result.now c.entries-2.result.now c.are_same.result c.entries.ensures c.entries-2.ensures c.are_same.ensures
