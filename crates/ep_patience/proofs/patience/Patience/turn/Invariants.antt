use Rattle.std.proofs.Common.{take}
use Rattle.ep_patience.specs.Turning.{Turns}
use Rattle.ep_patience.proofs.patience.Patience.turn.Given as goal

-- a turn for the instances so far
abbrev pub invariant-loop-one : goal.invariant-loop-one
invariant-loop-one l = Turns l.self l.time (take l.one-index l.seen) l.all.entries l.first l.asked.items
