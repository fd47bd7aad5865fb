use Rattle.std.proofs.Common.{◌≡◌, subst}
use Rattle.std.proofs.lemmas.Bool.{false≢true}
use Rattle.ep_world.specs.Played.{Played, collected}
use Rattle.ep_world.proofs.Kept.{in_order, collects}
use Rattle.ep_world.proofs.world.World.into_journals.Goals as goal

pub unreachable-requires : goal.unreachable-requires
unreachable-requires c =
    let ks = c.self.inside.replicas.items in
    let ls = c.in_ok-into_journals.field-0.items in
    false≢true (c.in-Err.ensures.in_order.1 (in_order c.self.inside.size ks ls c.self.invariant.1.journals.opens c.self.invariant.0 c.in_ok-into_journals.ensures))

pub returns : goal.returns
returns c =
    let ks = c.self.inside.replicas.items in
    let ls = c.in_ok-into_journals.field-0.items in
    subst (λ (w : Played). c.in-Ok.journals ≡ collected w) c.self.view_is
    (collects c.self.inside.size ks c.self.inside.notes.steps.items c.self.inside.notes.messages.items ls c.in-Ok.journals c.self.invariant.0 c.in_ok-into_journals.ensures c.in-Ok.ensures.of_one c.in-Ok.ensures.ok)
