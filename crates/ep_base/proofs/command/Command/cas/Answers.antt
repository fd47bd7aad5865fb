use Rattle.std.proofs.Common.{◌∙◌, sym}
use Rattle.std.specs.Option.{option_copied}
use Rattle.ep_base.proofs.Runs.{cas_range, cas_fits, cas_made}
use Rattle.ep_base.proofs.command.Command.cas.Goals as goal

pub invariant_of-result : goal.invariant_of-result
invariant_of-result c =
    let k = c.args.key.now in
    let e = option_copied c.args.expected in
    let n = option_copied c.args.new in
    cas_fits k c.in-Ok.run' e n (cas_range k e n (sym c.is_cas.ensures ∙ c.if-not-is_cas.false)) c.in-Ok.ensures

pub returns-in-Ok-clause-ok : goal.returns-in-Ok-clause-ok
returns-in-Ok-clause-ok c =
    let k = c.args.key.now in
    let e = option_copied c.args.expected in
    let n = option_copied c.args.new in
    cas_made k c.in-Ok.run' e n (cas_range k e n (sym c.is_cas.ensures ∙ c.if-not-is_cas.false)) c.in-Ok.ensures
