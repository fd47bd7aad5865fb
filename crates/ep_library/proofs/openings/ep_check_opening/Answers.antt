use Rattle.std.proofs.Common.{inl, refl}
use Rattle.ep_library.proofs.openings.ep_check_opening.Goals as goal

pub returns-in-Ok : goal.returns-in-Ok
returns-in-Ok c = inl (c.in-Ok.ensures.ok.0, c.in-Ok.ensures.ok.1, refl, refl)
