use Rattle.std.proofs.Common.{◌-◌}
use Rattle.ep_replay.specs.Replays.{Gives, above}
use Rattle.ep_replay.specs.Tables.{LeadsTo}
use Rattle.ep_replay.proofs.player.Player.give_above.Given as goal

-- those before this place were given
abbrev pub invariant-loop-place : goal.invariant-loop-place
invariant-loop-place l = LeadsTo (λ p q. Gives p l.line (above l.from (l.place - l.from)) q) l.fn.self l.self
