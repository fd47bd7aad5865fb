-- A ballot is an ordered pair: a counter, and the replica that leads the ballot. The ballot of counter 0 is the one that the instance's leader begins with.
-- Definitions see the pair as one number, which is ordered as the pair is. Only this module knows how it is packed.
use Rattle.std.specs.Prelude.{ℕ, ◌+◌, ◌*◌, ◌/◌, ◌%◌}

abbrev pub ballot_of : ℕ → ℕ → ℕ
ballot_of counter replica = counter * 256 + replica

abbrev pub counter_of : ℕ → ℕ
counter_of b = b / 256

abbrev pub owner_of : ℕ → ℕ
owner_of b = b % 256

abbrev pub highest_counter : ℕ
highest_counter = 60000
