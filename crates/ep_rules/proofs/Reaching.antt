-- What is reached from what is reached is reached.
use Rattle.std.proofs.Common.{ℕ}
use Rattle.ep_rules.specs.Graph.{Graph, Reaches}
use Rattle.ep_rules.specs.Graph.Reaches.{itself, onward}

pub reach_trans : {g : Graph} {i j k : ℕ} → Reaches g i j → Reaches g j k → Reaches g i k
reach_trans h itself = h
reach_trans h (onward a r is has) = onward a (reach_trans h r) is has
