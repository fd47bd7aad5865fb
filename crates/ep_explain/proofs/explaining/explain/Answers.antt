use Rattle.std.proofs.Common.{◌≡◌, Some, drop, sym, subst}
use Rattle.std.specs.Prelude.{List, ℕ}
use Rattle.ep_explain.specs.Kept.{followed}
use Rattle.ep_explain.specs.Magic.{MayBegin}
use Rattle.ep_explain.proofs.Fronts.{taken_if}
use Rattle.ep_explain.proofs.Reporting.{kept_known}
use Rattle.ep_explain.proofs.explaining.explain.Goals as goal

pub returns-in-Some-clause-reported : goal.returns-in-Some-clause-reported
returns-in-Some-clause-reported g c bytes known =
    let left = kept_known _ _ bytes c.in_ok-look_ahead.ensures.left known in
    let source = c.look_ahead.new.self in
    taken_if source.is_over (drop source.at source.bytes) _ bytes _ _ left
    (λ (m : MayBegin (drop source.at source.bytes)). c.in-Some.ensures (subst MayBegin (sym c.ahead.ensures) m))
    (c.explain_as.ensures.reported bytes left)

pub returns-in-None-clause-reported : goal.returns-in-None-clause-reported
returns-in-None-clause-reported g c bytes known = c.explain_bytes.ensures.reported bytes (kept_known _ _ bytes c.in_ok-look_ahead.ensures.left known)
