use Rattle.std.proofs.Common.{rules, arith, ◌≡◌, ◌≤◌, ◌==◌, length, take, take_all, refl, ◌∙◌}
use Rattle.std.specs.Io.Buffered.{reader_buffer, reader_capacity}
use Rattle.ep_cli.proofs.Pulling.{gives_ahead}
use Rattle.ep_cli.proofs.buffered.BufferedSource.pull.Goals as goal

pub returns-clause-bytes : goal.returns-clause-bytes
returns-clause-bytes g c =
    let reader = c.args.self.now.reader in
    let len : length c.copy_from_slice.new.self ≡ length c.args.buf.now = c.copy_from_slice.ensures.len in
    let room : length c.args.buf.now ≤ length (reader_buffer reader) = search rules in
    let after : c.copy_from_slice.new.self ≡ take (length c.args.buf.now) (reader_buffer reader) = search rules in
    let all : take (length c.args.buf.now) c.copy_from_slice.new.self ≡ c.copy_from_slice.new.self = take_all (length c.args.buf.now) c.copy_from_slice.new.self (omega arith) in (
      gives_ahead (reader_capacity reader == 0) (reader_buffer reader) (g.R.Read.remaining reader.inner) _ _ (length c.args.buf.now) room (all ∙ after) c.consume.ensures.bytes,
      λ none some. absurd (omega arith),
      refl,
    )
