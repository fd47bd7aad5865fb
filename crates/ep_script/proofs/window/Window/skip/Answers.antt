use Rattle.std.proofs.Common.{drop, ap, ◌∙◌}
use Rattle.ep_script.proofs.LineLemmas.{skipped}
use Rattle.ep_script.proofs.window.Window.skip.Goals as goal

pub returns : goal.returns
returns c =
    skipped c.self.inside.bytes c.self.inside.start c.self.inside.end c.args.count c.self.invariant.0 (rw (← c.self.view_is) at c.requires)
    ∙ ap (drop c.args.count) c.self.view_is
