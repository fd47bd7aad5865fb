use Rattle.std.proofs.Common.{◌≡◌, true, false, subst}
use Rattle.ep_bundle.specs.Filling.{Fills}
use Rattle.ep_bundle.proofs.Readings.{cut, taken}
use Rattle.ep_bundle.proofs.fields.take.Goals as goal

pub returns-then-not-branch-clause-bytes : goal.returns-then-not-branch-clause-bytes
returns-then-not-branch-clause-bytes g c = λ zs h.
    cut _ zs c.fill.new.buf _ _ (g.S.Source.left c.fill.new.source) c.fill.ensures.long (rw c.if-not-branch.true at (c.in_ok-fill.ensures.bytes zs h))

pub returns-clause-bytes : goal.returns-clause-bytes
returns-clause-bytes g c = λ zs h.
    taken _ zs c.fill.new.buf _ _ c.saturating_add.result (g.S.Source.left c.fill.new.source) c.fill.ensures.long (rw c.if-not-branch.false at (c.in_ok-fill.ensures.bytes zs h))
    c.saturating_add.ensures
