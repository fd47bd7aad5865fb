use Rattle.std.proofs.Common.{◌∙◌}
use Rattle.ep_frame.proofs.Runs.{same_there}
use Rattle.ep_frame.proofs.handled.has_command_in.Goals as goal

pub returns : goal.returns
returns c = c.has_parts_in.ensures.test ∙ same_there c.args.bytes.now c.args.command.now c.requires.whole c.requires.readable.command c.has_parts_in.ensures.command
