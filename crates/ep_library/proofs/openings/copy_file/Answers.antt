use Rattle.std.proofs.Common.{inl, inr, refl}
use Rattle.ep_library.proofs.openings.copy_file.Goals as goal

pub returns-then-copy_out : goal.returns-then-copy_out
returns-then-copy_out c =
    let copied = c.copy_out.ensures.copied c.if-copy_out.true in
    inl (c.in-Ok.ensures.ok.0, c.in-Ok.ensures.ok.1, (c.copy_out.ensures.reported, inl (refl, copied)), refl)

pub returns-else-copy_out : goal.returns-else-copy_out
returns-else-copy_out c =
    let short = c.copy_out.ensures.short c.if-copy_out.false in
    inl (c.in-Ok.ensures.ok.0, c.in-Ok.ensures.ok.1, (c.copy_out.ensures.reported, inr (refl, short.0, short.1)), refl)
