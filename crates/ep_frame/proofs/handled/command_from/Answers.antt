use Rattle.std.proofs.Common.{ap, ◌∙◌}
use Rattle.ep_base.specs.CommandParts.{are_parts, command_in}
use Rattle.ep_frame.specs.Faults.{op_of}
use Rattle.ep_frame.proofs.Runs.{cut_there, cut_long}
use Rattle.ep_frame.proofs.handled.command_from.Goals as goal

pub from_valid_parts-requires-clause-long : goal.from_valid_parts-requires-clause-long
from_valid_parts-requires-clause-long c = cut_long c.args.bytes.now c.args.run c.u8_at-2.result c.second_len_at.result c.requires.whole c.requires.run c.u8_at-2.ensures c.second_len_at.ensures

pub from_valid_parts-requires-clause-parts : goal.from_valid_parts-requires-clause-parts
from_valid_parts-requires-clause-parts c =
    ap are_parts (cut_there c.args.bytes.now c.args.run c.made_op-op.result c.u8_at-2.result c.second_len_at.result c.requires.whole (c.made_op-op.ensures ∙ ap op_of c.u8_at.ensures) c.requires.run c.u8_at-2.ensures c.second_len_at.ensures) ∙ c.requires.readable.command

pub returns : goal.returns
returns c =
    c.from_valid_parts.ensures
    ∙ ap command_in (cut_there c.args.bytes.now c.args.run c.made_op-op.result c.u8_at-2.result c.second_len_at.result c.requires.whole (c.made_op-op.ensures ∙ ap op_of c.u8_at.ensures) c.requires.run c.u8_at-2.ensures c.second_len_at.ensures)
