use Rattle.ep_replay.proofs.Leading.{have_played}
use Rattle.ep_replay.proofs.player.played.Goals as goal

pub returns : goal.returns
returns c =
    have_played c.args.script.now c.in_ok-player.player c.play_all.new.self c.args.keeps c.head.result.now c.lines.result.now c.head.ensures c.lines.ensures c.in_ok-player.ensures.opening c.in_ok-player.ensures.reports c.in_ok-player.ensures.keeps c.in_ok-play_all.ensures
