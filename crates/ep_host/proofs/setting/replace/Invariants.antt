use Rattle.std.proofs.Common.{◌≡◌, ◌≤◌, length, take}
use Rattle.std.specs.Vec.{vec_len, vec_capacity}
use Rattle.ep_host.proofs.setting.replace.Given as goal

abbrev pub invariant-loop-it : goal.invariant-loop-it
invariant-loop-it l = record { items : l.weather.items ≡ take l.it-index l.list; len : vec_len l.weather ≡ l.it-index; room : length l.list ≤ vec_capacity l.weather }
