use Rattle.ep_rules.specs.Maps.{get}
use Rattle.ep_space.specs.Settled.{as_settled}
use Rattle.ep_space.proofs.FirstTaken.{taken-kept}
use Rattle.ep_space.proofs.Kept.{kept-written}
use Rattle.ep_space.proofs.Settling.{keys_settled, settled_there}
use Rattle.ep_space.proofs.SeqsKept.{seqs-kept, seq_settled}
use Rattle.ep_space.proofs.keyed.Keyed.settle.Goals as goal

pub invariant_of-self : goal.invariant_of-self
invariant_of-self c =
    let h = c.self.inside.table.held in (
      rw c.settle.ensures (kept-written h c.args.id (as_settled (get h c.args.id)) c.self.inside.table.places c.self.inside.index (keys_settled (get h c.args.id)) c.self.invariant.0),
      rw c.settle.ensures (seqs-kept h c.self.inside.table.places c.args.id (as_settled (get h c.args.id)) c.self.inside.seqs.items c.self.invariant.1 (seq_settled (get h c.args.id))),
      rw c.settle.ensures (taken-kept h c.args.id (as_settled (get h c.args.id)) c.self.inside.taken c.self.invariant.2 (settled_there (get h c.args.id))),
    )
