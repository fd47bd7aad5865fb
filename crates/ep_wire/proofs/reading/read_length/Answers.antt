use Rattle.std.proofs.Common.{sym, ◌∙◌}
use Rattle.ep_bundle.proofs.Readings.{bytes_number}
use Rattle.ep_wire.proofs.Lengths.{over, cut_length, bad_length, good_length}
use Rattle.ep_wire.proofs.reading.read_length.Goals as goal

pub returns-then-count-eq0-clause-bytes : goal.returns-then-count-eq0-clause-bytes
returns-then-count-eq0-clause-bytes g c = λ zs h. over c.in_ok-count.count _ zs c.gather.new.buf _ _ c.if-count-eq0.true c.gather.ensures.long (c.in_ok-count.ensures.bytes zs h)

pub returns-then-count-lt4-clause-bytes : goal.returns-then-count-lt4-clause-bytes
returns-then-count-lt4-clause-bytes g c = λ zs h. cut_length c.args.version c.in_ok-count.count _ zs c.gather.new.buf _ c.if-count-eq0.false c.if-count-lt4.true c.gather.ensures.long (c.in_ok-count.ensures.bytes zs h)

pub returns-then-not-is_length-clause-bytes : goal.returns-then-not-is_length-clause-bytes
returns-then-not-is_length-clause-bytes g c = λ zs h.
    bad_length c.args.version c.in_ok-count.count _ c.read_u32-length.result zs c.gather.new.buf _ c.if-count-lt4.false c.in_ok-count.ensures.within c.gather.ensures.long (c.in_ok-count.ensures.bytes zs h)
    (bytes_number 4 c.read_u32-length.result c.gather.new.buf c.read_u32-length.ensures) (sym c.is_length.ensures.test ∙ c.if-not-is_length.true)

pub returns-clause-bytes : goal.returns-clause-bytes
returns-clause-bytes g c = λ zs h.
    good_length c.args.version c.in_ok-count.count _ c.saturating_add.result c.read_u32-length.result zs c.gather.new.buf _ c.if-count-lt4.false c.in_ok-count.ensures.within c.gather.ensures.long (c.in_ok-count.ensures.bytes zs h)
    c.saturating_add.ensures (bytes_number 4 c.read_u32-length.result c.gather.new.buf c.read_u32-length.ensures) (sym c.is_length.ensures.test ∙ c.if-not-is_length.false)
