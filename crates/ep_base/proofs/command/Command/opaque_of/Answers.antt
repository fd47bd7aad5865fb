use Rattle.std.proofs.Common.{◌≡◌, Err}
use Rattle.ep_base.specs.Views.{touched}
use Rattle.ep_base.specs.declared.command_fault.CommandFault.TheVariants.{OutOfRange}
use Rattle.ep_base.proofs.Runs.{opaque_ok, opaque_err}
use Rattle.ep_base.proofs.command.Command.opaque_of.Goals as goal

pub returns-clause-ok : goal.returns-clause-ok
returns-clause-ok c =
    let p = touched c.args.touching.now in
    opaque_ok p c.args.second.now c.args.body.now c.asked_or_done-op.result c.asked_or_done-op.ensures c.requires c.of_parts.result c.of_parts.ensures.ok

pub returns-clause-out_of_range : goal.returns-clause-out_of_range
returns-clause-out_of_range c =
    let p = touched c.args.touching.now in
    opaque_err p c.args.second.now c.args.body.now c.asked_or_done-op.result c.asked_or_done-op.ensures c.requires (c.of_parts.result ≡ Err OutOfRange) c.of_parts.ensures.out_of_range
