use Rattle.std.proofs.Common.{◌≡◌, ℕ, ◌≤◌, ◌<◌, ◌-◌, true, false, length}
use Rattle.std.proofs.Common.{slice_index_or as get_or}
use Rattle.ep_replay.proofs.given.Given.advance.Given as goal

abbrev pub invariant-loop-self : goal.invariant-loop-self
invariant-loop-self l = record {
  same : l.self.flags.items ≡ l.initial.self.flags.items;
  set : (place : ℕ) → l.initial.self.floor ≤ place → place < l.self.floor → get_or l.initial.self.flags.items place false ≡ true;
}

abbrev pub decreases-loop-self : goal.decreases-loop-self
decreases-loop-self l = length l.self.flags.items - l.self.floor
