use Rattle.std.proofs.Common.{List, ℕ, sym, subst}
use Rattle.ep_replay.specs.Replays.{AreUngiven}
use Rattle.ep_replay.proofs.Leading.{flushed}
use Rattle.ep_replay.proofs.player.Player.give_left.Goals as goal

pub returns : goal.returns
returns c =
    flushed c.args.self.now c.give_all.new.self c.ungiven.new.self c.args.line c.args.sent c.as_slice.result.now
    c.requires c.in_ok-messages.ensures.flags
    (λ gs are. subst (λ (ms : List ℕ). AreUngiven gs c.args.sent ms) (sym c.as_slice.ensures.value)
    (c.in_ok-messages.ensures.value gs are))
    c.in_ok-give_all.ensures
