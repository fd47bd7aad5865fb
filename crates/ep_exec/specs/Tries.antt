-- Several commands that are all kept or all taken back.
use Rattle.std.specs.Prelude.{refl}
use Rattle.std.specs.Coded.{Coded, code_by, coded×}
use Rattle.ep_base.specs.Commands.{Command}
use Rattle.ep_rules.specs.OneMap.{Store, after}
use Rattle.ep_exec.specs.Table.{store_code}

-- the map at the start, and the one that the commands so far leave
pub record Tried : Type 0 where
  pub start : Store
  pub current : Store

abbrev pub tried_code : Coded Tried
tried_code = code_by (Store × Store) (coded× store_code store_code) (λ t. (t.start, t.current)) (λ p. record { start = p.0; current = p.1 }) (λ _. refl)

-- one more command
abbrev pub tried : Tried → Command → Tried
tried t c = record { start = t.start; current = after t.current c }
