use Rattle.ep_replay.proofs.Leading.{proposed}
use Rattle.ep_replay.proofs.player.Player.propose.Goals as goal

pub returns : goal.returns
returns c =
    proposed c.args.self.now c.attempt.new.self c.count.new.self c.in_ok-known.known c.args.line c.args.replica c.args.client c.args.command.now c.in_ok-command.command c.args.spared c.in_ok-known.ensures.requests c.in_ok-known.ensures.seen c.in_ok-known.ensures.counted
    c.in_ok-command.ensures c.in_ok-attempt.ensures
