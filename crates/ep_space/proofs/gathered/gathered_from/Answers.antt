use Rattle.std.proofs.Common.{◌∙◌, ap, sym}
use Rattle.std.specs.Option.{option_copied}
use Rattle.ep_rules.specs.States.{or_zero}
use Rattle.ep_space.specs.Gathering.{next_attrs}
use Rattle.ep_space.proofs.Gathering.{gathered-none, keyless}
use Rattle.ep_space.proofs.gathered.gathered_from.Goals as goal

pub returns-in-None-default : goal.returns-in-None-default
returns-in-None-default c =
    ap next_attrs c.nothing.ensures
    ∙ gathered-none c.args.command.now (or_zero c.args.except) c.args.records.now.held
    (keyless c.args.command.now (sym c.is_seal.ensures ∙ c.if-is_seal.false) (sym c.is_many.ensures.value ∙ c.if-is_many.false) (sym c.keys.ensures.first ∙ ap option_copied c.in-None-default.is-0))
