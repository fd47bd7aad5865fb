-- Instances and ballots as the numbers in a frame, both ways.
use Rattle.std.proofs.Common.{◌≡◌, ℕ, ◌<◌, arith}
use Rattle.ep_base.specs.Instances.{instance_of, leader_of, number_of}
use Rattle.ep_base.specs.Ballots.{ballot_of, counter_of, owner_of}

pub leader_again : (r n : ℕ) → n < 65536 → leader_of (instance_of r n) ≡ r
leader_again r n h = omega arith

pub number_again : (r n : ℕ) → n < 65536 → number_of (instance_of r n) ≡ n
number_again r n h = omega arith

pub instance_again : (i : ℕ) → instance_of (leader_of i) (number_of i) ≡ i
instance_again i = omega arith

pub counter_again : (c r : ℕ) → r < 256 → counter_of (ballot_of c r) ≡ c
counter_again c r h = omega arith

pub owner_again : (c r : ℕ) → r < 256 → owner_of (ballot_of c r) ≡ r
owner_again c r h = omega arith

pub ballot_again : (b : ℕ) → ballot_of (counter_of b) (owner_of b) ≡ b
ballot_again b = omega arith
