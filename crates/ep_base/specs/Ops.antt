-- The ops of commands: their numbers, and how long the keys and the body of each may be.
use Rattle.std.specs.Prelude.{ℕ, Bool, true, false, ◌&&◌, ◌==◌, nat_le}
use Rattle.ep_base.specs.declared.op.Op.{Op}
use Rattle.ep_base.specs.declared.op.Op.TheVariants.{Noop, Get, Put, Del, Swap, Cas, Ask, Act, Seal, Tx}
use Rattle.ep_base.specs.Values.{most_value}

abbrev pub op_number : Op → ℕ
op_number Noop = 1
op_number Get = 2
op_number Put = 3
op_number Del = 4
op_number Swap = 5
op_number Cas = 6
op_number Ask = 7
op_number Act = 8
op_number Seal = 9
op_number Tx = 10

-- a command of this op only reads; one over many keys does where no item writes
abbrev pub reads : Op → Bool
reads Noop = false
reads Get = true
reads Put = false
reads Del = false
reads Swap = false
reads Cas = false
reads Ask = true
reads Act = false
reads Seal = false
reads Tx = false

abbrev pub is_key_len : ℕ → Bool
is_key_len n = nat_le 1 n && nat_le n 255

-- a comparison's body is two parts, of 1 byte or 5 and a value
abbrev pub is_comparison_len : ℕ → Bool
is_comparison_len n = nat_le 2 n && nat_le n 131080

-- the items of a command over many keys: their count, and at least one of 3 bytes
abbrev pub is_items_len : ℕ → Bool
is_items_len n = nat_le 5 n && nat_le n 131080

-- the first key may have so many bytes; none says that there is none
abbrev pub first_fits : Op → ℕ → Bool
first_fits Noop n = n == 0
first_fits Get n = is_key_len n
first_fits Put n = is_key_len n
first_fits Del n = is_key_len n
first_fits Swap n = is_key_len n
first_fits Cas n = is_key_len n
first_fits Ask n = is_key_len n
first_fits Act n = is_key_len n
first_fits Seal n = n == 0
first_fits Tx n = n == 0

-- the second key may; a machine's command has it or not
abbrev pub second_fits : Op → ℕ → Bool
second_fits Noop n = n == 0
second_fits Get n = n == 0
second_fits Put n = n == 0
second_fits Del n = n == 0
second_fits Swap n = is_key_len n
second_fits Cas n = n == 0
second_fits Ask n = nat_le n 255
second_fits Act n = nat_le n 255
second_fits Seal n = n == 0
second_fits Tx n = n == 0

-- the body may
abbrev pub body_fits : Op → ℕ → Bool
body_fits Noop n = n == 0
body_fits Get n = n == 0
body_fits Put n = nat_le n most_value
body_fits Del n = n == 0
body_fits Swap n = n == 0
body_fits Cas n = is_comparison_len n
body_fits Ask n = nat_le n most_value
body_fits Act n = nat_le n most_value
body_fits Seal n = nat_le n most_value
body_fits Tx n = is_items_len n
