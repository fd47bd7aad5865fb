-- Fields in bytes.
use Rattle.std.specs.Prelude.{ℕ, ◌+◌, ◌*◌, List, [], ◌∷◌, Option, Some, None, if◌then◌else◌}
use Rattle.ep_base.specs.Instances.{instance_of}
use Rattle.ep_frame.specs.Faults.{is_instance}

abbrev pub if_instance : ℕ → Option ℕ
if_instance i = if is_instance i then Some i else None

-- the instance that three bytes name: its leader, and its number, the highest byte first
abbrev pub instance_named : List ℕ → Option ℕ
instance_named (leader ∷ high ∷ low ∷ []) = if_instance (instance_of leader (256 * high + low))
instance_named _ = None
