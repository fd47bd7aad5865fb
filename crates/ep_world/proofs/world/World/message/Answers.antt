use Rattle.std.proofs.Common.{rules, ◌≡◌, option_copied, subst}
use Rattle.ep_frame.specs.Spelling.{IsFrame}
use Rattle.ep_world.specs.Played.{message_in, IsWorld}
use Rattle.ep_world.proofs.Kept.{if_copied, none_copied}
use Rattle.ep_world.proofs.Sent.{no_message, message_frame}
use Rattle.ep_world.proofs.world.World.message.Goals as goal

pub returns-clause-none : goal.returns-clause-none
returns-clause-none c = λ none.
    let w = c.args.self.now in
    let value : option_copied c.frame_at.result ≡ message_in w c.args.message = search rules in
    no_message w (subst IsWorld c.self.view_is c.self.invariant.1) c.args.message (none_copied c.frame_at.result (message_in w c.args.message) value none)

pub returns-clause-frame : goal.returns-clause-frame
returns-clause-frame c =
    let w = c.args.self.now in
    let value : option_copied c.frame_at.result ≡ message_in w c.args.message = search rules in
    if_copied IsFrame c.frame_at.result (message_in w c.args.message) value (λ b is. (message_frame w (subst IsWorld c.self.view_is c.self.invariant.1) c.args.message b is).0)
