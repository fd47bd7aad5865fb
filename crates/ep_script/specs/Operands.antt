-- What words of lines may be, by the cluster's size and the version.
use Rattle.std.specs.Prelude.{ℕ, ◌-◌, Option, Some, None}
use Rattle.ep_base.specs.Quorums.{size}
use Rattle.ep_base.specs.Values.{most_value}
use Rattle.ep_base.specs.Versions.{highest_in}
use Rattle.ep_base.specs.declared.version.Version.{Version}
use Rattle.ep_base.specs.declared.version_kind.VersionKind.TheVariants.{V1, V2, V3}
use Rattle.ep_script.specs.declared.operand.Operand.{Operand}
use Rattle.ep_script.specs.declared.operand.Operand.TheVariants as may

-- the last replica of a cluster in which so many may fail; 0 before its size is said
abbrev pub highest_replica : Option ℕ → ℕ
highest_replica None = 0
highest_replica (Some f) = size f - 1

-- how many bytes a value has at most
abbrev pub most_value_in : Version → ℕ
most_value_in V1 = 1024
most_value_in V2 = 1024
most_value_in (V3 g) = most_value

-- the least and the most that a number may be, or how many bytes may be spelled
abbrev pub range_of : Operand → Option ℕ → Version → ℕ × ℕ
range_of may.Generation s v = (1, 4294967295)
range_of may.Client s v = (1, 4294967295)
range_of may.Message s v = (1, 4294967295)
range_of may.Place s v = (1, 4294967295)
range_of may.Stamp s v = (0, 281474976710654)
range_of may.Instance s v = (1, highest_in v)
range_of may.Number s v = (1, highest_in v)
range_of may.Key s v = (1, 255)
range_of may.OtherKey s v = (1, 255)
range_of may.Value s v = (0, most_value_in v)
range_of may.MaybeValue s v = (0, most_value_in v)
range_of may.Body s v = (0, most_value_in v)
range_of _ s v = (0, highest_replica s)
