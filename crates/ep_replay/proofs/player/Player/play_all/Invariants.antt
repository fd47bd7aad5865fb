use Rattle.ep_replay.specs.Replays.{PlayAll}
use Rattle.ep_replay.proofs.Leading.{Completes}
use Rattle.ep_replay.proofs.player.Player.play_all.Given as goal

-- whatever completes the rest completes the whole
abbrev pub invariant-loop-line : goal.invariant-loop-line
invariant-loop-line l = Completes PlayAll l.lines l.line-index l.fn.self l.self
