-- An instance is an ordered pair: the replica that leads it, and its number among those that this one leads (EPaxos, section 4.1).
-- Definitions see the pair as one number, which is ordered as the pair is. Only this module knows how it is packed.
use Rattle.std.specs.Prelude.{ℕ, ◌+◌, ◌*◌, ◌/◌, ◌%◌, ◌≤◌}

abbrev pub instance_of : ℕ → ℕ → ℕ
instance_of leader number = leader * 65536 + number

abbrev pub leader_of : ℕ → ℕ
leader_of i = i / 65536

abbrev pub number_of : ℕ → ℕ
number_of i = i % 65536

-- the numbers of a replica's own instances are 1 to 9,000; versions 1 and 2 have fewer
abbrev pub highest_number : ℕ
highest_number = 9000

abbrev pub IsInstance : ℕ → Type 0
IsInstance i = (leader_of i ≤ 6) × (1 ≤ number_of i) × (number_of i ≤ highest_number)
