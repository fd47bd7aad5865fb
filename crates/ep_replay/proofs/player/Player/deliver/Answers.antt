use Rattle.std.proofs.Common.{List, ℕ, subst}
use Rattle.ep_replay.specs.Replays.{Gives}
use Rattle.ep_replay.specs.Tables.{LeadsTo}
use Rattle.ep_replay.proofs.Leading.{starts, gives, gave_more, gave_all}
use Rattle.ep_replay.proofs.player.Player.deliver.Goals as goal

pub loop-message-init : goal.loop-message-init
loop-message-init c = starts (gives c.args.line) c.as_slice-message-items.result.now c.args.self.now

pub loop-message-preserved : goal.loop-message-preserved
loop-message-preserved c =
    gave_more c.args.line c.as_slice-message-items.result.now c.loop-message.message-index c.from.result c.args.self.now c.loop-message.self c.give.new.self c.loop-message-test.true c.from.ensures c.loop-message.invariant c.in_ok-give.ensures

pub returns : goal.returns
returns c =
    subst (λ (ms : List ℕ). LeadsTo (λ p q. Gives p c.args.line ms q) c.args.self.now c.loop-message.self) c.as_slice-message-items.ensures
    (gave_all c.args.line c.as_slice-message-items.result.now c.loop-message.message-index c.args.self.now c.loop-message.self c.loop-message-test.false c.loop-message.invariant)
