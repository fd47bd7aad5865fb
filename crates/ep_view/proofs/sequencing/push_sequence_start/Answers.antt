use Rattle.std.proofs.Common.{◌≡◌, ◌++◌}
use Rattle.std.specs.Prelude.{codes}
use Rattle.ep_view.specs.Sequences.{participants, sequence_start}
use Rattle.ep_view.proofs.Joining.{two}
use Rattle.ep_view.proofs.sequencing.push_sequence_start.Goals as goal

pub returns : goal.returns
unfolding sequence_start
returns c =
    two c.push_participants.result c.args.text.now.items (codes "sequenceDiagram\n") (participants c.args.count) c.extend_from_slice.new.self.items
    c.push_participants.new.text.items c.in_ok-extend_from_slice.ensures.items c.push_participants.ensures
