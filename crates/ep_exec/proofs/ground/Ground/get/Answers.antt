use Rattle.std.proofs.Common.{◌∙◌, ap}
use Rattle.ep_rules.specs.OneMap.{value_at}
use Rattle.ep_exec.specs.Layers.{said_or}
use Rattle.ep_exec.proofs.Layered.{reported_in}
use Rattle.ep_exec.proofs.ground.Ground.get.Goals as goal

pub returns-in-Some : goal.returns-in-Some
returns-in-Some c =
    let m = c.self.inside.listing in
    let k = c.args.key.now in
    c.as_ref.ensures.value
    ∙ ap (λ t. said_or t (value_at m k)) c.in-Some.ensures
    ∙ reported_in m c.args.self.now k c.deref.result.now c.self.inside.older.items c.deref.ensures.value c.self.view_is

pub returns-in-None : goal.returns-in-None
returns-in-None c =
    let m = c.self.inside.listing in
    let k = c.args.key.now in
    c.get.ensures
    ∙ ap (λ t. said_or t (value_at m k)) c.in-None.ensures
    ∙ reported_in m c.args.self.now k c.deref.result.now c.self.inside.older.items c.deref.ensures.value c.self.view_is
