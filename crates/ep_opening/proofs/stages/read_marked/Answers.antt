use Rattle.std.proofs.Common.{sym, ◌∙◌}
use Rattle.ep_opening.proofs.Steps.{none_marked, some_marked}
use Rattle.ep_opening.proofs.stages.read_marked.Goals as goal

pub returns-then-is_first : goal.returns-then-is_first
returns-then-is_first g c = λ zs h. none_marked c.args.generation c.args.place.now zs (g.S.Source.left c.args.source.now) (sym c.is_first.ensures ∙ c.if-is_first.true) h

pub returns : goal.returns
returns g c = λ zs h.
    some_marked c.args.generation (record { at = c.args.place.now; bytes = zs }) c.read_some.result c.read_some.new.place (g.S.Source.left c.read_some.new.source) (sym c.is_first.ensures ∙ c.if-is_first.false) (c.read_some.ensures zs h)
