use Rattle.std.proofs.Common.{◌∙◌, sym, ap}
use Rattle.ep_rules.specs.OneMap.{value_at}
use Rattle.ep_exec.proofs.Layered.{bare_is}
use Rattle.ep_exec.proofs.Rising.{nothing_said}
use Rattle.ep_exec.proofs.ground.Ground.is_bare.Goals as goal

pub returns-then-is_empty : goal.returns-then-is_empty
returns-then-is_empty c k t =
    let m = c.self.inside.listing in
    let layers = c.self.inside.older in
    ap (λ x. value_at x k) (sym (bare_is m c.args.self.now layers.items layers.len c.is_empty.result c.is_empty.ensures layers.ok.0 c.if-is_empty.true c.self.view_is))
    ∙ nothing_said m c.entries.result.now c.is_empty-then-is_empty.result c.entries.ensures c.is_empty-then-is_empty.ensures k t
