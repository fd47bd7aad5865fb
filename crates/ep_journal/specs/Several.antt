-- One message to several replicas.
use Rattle.std.specs.Prelude.{ℕ, List, [], ◌∷◌}
use Rattle.ep_base.specs.declared.message.Message.{Message}

-- the message to each of these replicas, in order
abbrev pub to_each : List ℕ → Message → List (ℕ × Message)
to_each [] m = []
to_each (r ∷ rs) m = (r, m) ∷ to_each rs m
