-- What words of the command line spell.
use Rattle.std.specs.Prelude.{ℕ, ◌==◌, Bool, List, Option, option_and_then, option_map}
use Rattle.std.specs.List.{after_first, before_first}
use Rattle.ep_base.specs.Instances.{highest_number, instance_of}
use Rattle.ep_script.specs.Grammar.{number_in, replica_of}

abbrev pub is_dot : ℕ → Bool
is_dot b = b == 46

-- `R.N`: a replica, and a number of one of its instances
abbrev pub instance_word : List ℕ → Option ℕ
instance_word w =
    option_and_then (λ leader. option_map (instance_of leader) (number_in 1 highest_number (after_first is_dot w)))
    (replica_of 7 (before_first is_dot w))
