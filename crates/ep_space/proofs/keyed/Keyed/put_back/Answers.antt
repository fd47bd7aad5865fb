use Rattle.std.proofs.Common.{◌∙◌, ◌<◌, ap, is_some, length, rules, subst, sym}
use Rattle.ep_space.specs.Entries.{slot}
use Rattle.ep_space.specs.Indexed.{Indexed}
use Rattle.ep_space.specs.Keys.{recorded_keys, keys_at, HasRoom}
use Rattle.ep_space.specs.Seqs.{AreSeqs}
use Rattle.ep_space.proofs.FirstTaken.{taken-written}
use Rattle.ep_space.proofs.Kept.{get-own}
use Rattle.ep_space.proofs.Room.{has_runs}
use Rattle.ep_space.proofs.SeqsKept.{seqs-written}
use Rattle.ep_space.proofs.keyed.Keyed.put_back.Goals as goal

pub exchange-earlier-requires-clause-room : goal.exchange-earlier-requires-clause-room
exchange-earlier-requires-clause-room c =
    has_runs c.self.inside.index (keys_at c.self.inside.table.held c.args.id) (recorded_keys c.args.value)
    (subst (λ (x : Indexed). HasRoom x.room (keys_at x.held c.args.id) (recorded_keys c.args.value)) (sym c.self.view_is) c.requires.room)

pub note-requires-clause-but : goal.note-requires-clause-but
note-requires-clause-but c = rw c.exchange-earlier.ensures.new (taken-written c.self.inside.table.held c.args.id c.args.value c.self.inside.taken c.self.invariant.2)

pub note-requires-clause-there : goal.note-requires-clause-there
note-requires-clause-there c = rw c.exchange-earlier.ensures.new (c.is_some-is_there.ensures ∙ sym (ap is_some (get-own c.self.inside.table.held c.args.id c.args.value)))

pub invariant_of-self : goal.invariant_of-self
invariant_of-self c =
    let t = c.self.inside.table in
    let ns = c.self.inside.seqs.items in
    let within : slot c.args.id < length ns = search rules in (
      c.exchange-earlier.ensures.kept,
      subst (λ qs. AreSeqs c.exchange-earlier.new.table qs) (sym c.note_seq.ensures.written)
          (rw c.exchange-earlier.ensures.new (seqs-written t.held t.places c.args.id c.seq_of-seq.result c.args.value ns c.self.invariant.1 c.note_seq.ensures.in_range within c.seq_of-seq.ensures)),
      c.note.ensures,
    )
