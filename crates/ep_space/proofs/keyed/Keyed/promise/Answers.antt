use Rattle.std.proofs.Common.{Some, ap, is_some, sym}
use Rattle.ep_rules.specs.Cells.{record_or_fresh}
use Rattle.ep_rules.specs.Maps.{get}
use Rattle.ep_space.proofs.FirstTaken.{taken-written}
use Rattle.ep_space.proofs.Kept.{get-own, kept-written, keys_promised}
use Rattle.ep_space.proofs.SeqsKept.{seqs-kept, seq_promised}
use Rattle.ep_space.proofs.keyed.Keyed.promise.Goals as goal

pub note-requires-clause-but : goal.note-requires-clause-but
note-requires-clause-but c =
    rw c.write_promise.ensures
    (taken-written c.self.inside.table.held c.args.id (Some (record { promised = c.args.ballot; vote = (record_or_fresh c.args.id (get c.self.inside.table.held c.args.id)).vote })) c.self.inside.taken c.self.invariant.2)

pub note-requires-clause-there : goal.note-requires-clause-there
note-requires-clause-there c =
    rw c.write_promise.ensures
    (sym (ap is_some (get-own c.self.inside.table.held c.args.id (Some (record { promised = c.args.ballot; vote = (record_or_fresh c.args.id (get c.self.inside.table.held c.args.id)).vote })))))

pub invariant_of-self : goal.invariant_of-self
invariant_of-self c = (
  rw c.write_promise.ensures
      (kept-written c.self.inside.table.held c.args.id (Some (record { promised = c.args.ballot; vote = (record_or_fresh c.args.id (get c.self.inside.table.held c.args.id)).vote })) c.self.inside.table.places c.self.inside.index
      (keys_promised c.args.id (get c.self.inside.table.held c.args.id)) c.self.invariant.0),
  rw c.write_promise.ensures
      (seqs-kept c.self.inside.table.held c.self.inside.table.places c.args.id (Some (record { promised = c.args.ballot; vote = (record_or_fresh c.args.id (get c.self.inside.table.held c.args.id)).vote })) c.self.inside.seqs.items c.self.invariant.1
      (seq_promised c.args.id (get c.self.inside.table.held c.args.id))),
  c.note.ensures,
)
