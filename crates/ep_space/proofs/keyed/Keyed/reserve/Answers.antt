use Rattle.ep_space.proofs.FirstTaken.{taken-at}
use Rattle.ep_space.proofs.Kept.{kept-at}
use Rattle.ep_space.proofs.SeqsKept.{longer-seqs, seqs-at}
use Rattle.ep_space.proofs.keyed.Keyed.reserve.Goals as goal

pub invariant_of-self : goal.invariant_of-self
invariant_of-self c = (
  c.self.invariant.0,
  longer-seqs c.self.inside.table c.self.inside.seqs.items c.widen.new.seqs.items c.self.invariant.1 c.widen.ensures.longer c.widen.ensures.same,
  c.self.invariant.2,
)

pub invariant_of-self-2 : goal.invariant_of-self-2
invariant_of-self-2 c = (
  kept-at c.reserve.result c.self.inside.table c.reserve.new.self c.self.inside.index c.args.id c.self.invariant.0 c.reserve.ensures.ok c.reserve.ensures.err,
  seqs-at c.self.inside.table c.reserve.new.self c.args.id c.self.inside.seqs.items c.widen.new.seqs.items c.self.invariant.1 c.widen.ensures.longer c.widen.ensures.same c.reserve.result c.in_ok-widen.ensures.slot c.reserve.ensures.ok c.reserve.ensures.err,
  taken-at c.reserve.result c.self.inside.table c.reserve.new.self c.args.id c.self.inside.taken c.self.invariant.2 c.reserve.ensures.ok c.reserve.ensures.err,
)
