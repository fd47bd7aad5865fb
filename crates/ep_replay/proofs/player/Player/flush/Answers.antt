use Rattle.std.proofs.Common.{◌-◌, ℕ, length, ap}
use Rattle.ep_script.specs.declared.line.Line.TheVariants as asked
use Rattle.ep_replay.specs.Replays.{Plays, above}
use Rattle.ep_replay.proofs.Leading.{flushed, readied}
use Rattle.ep_replay.proofs.player.Player.flush.Goals as goal

pub returns-in_ok-give_above-in-Some : goal.returns-in_ok-give_above-in-Some
returns-in_ok-give_above-in-Some c =
    flushed c.args.self.now c.give_above.new.self c.prefix.new.self c.args.line (length c.messages-sent.result.now)
    (above c.in-Some.from (length c.messages-sent.result.now - c.in-Some.from)) (ap length c.messages-sent.ensures.value)
    c.prefix.ensures.flags c.in-Some.ensures.value c.in_ok-give_above-in-Some.ensures

pub returns-in_ok-give_left-in-None : goal.returns-in_ok-give_left-in-None
returns-in_ok-give_left-in-None c =
    readied (λ p q. Plays p c.args.line asked.Flush q) c.args.self.now c.give_left.new.self c.prefix.new.self
    c.prefix.ensures.flags c.in_ok-give_left-in-None.ensures
