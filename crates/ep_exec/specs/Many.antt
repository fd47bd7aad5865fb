-- What a command over many keys writes to a table.
use Rattle.std.specs.Prelude.{◌≡◌, List, [], ◌∷◌, true}
use Rattle.ep_exec.specs.Table.{Entry, has_place}
use Rattle.ep_exec.specs.declared.many.Write.{Write}
use Rattle.ep_rules.specs.OneMap.{Contents, with_key}

-- each of these is written, the first one first
abbrev pub put_all : List Write → Contents → Contents
put_all [] m = m
put_all (w ∷ ws) m = put_all ws (with_key m w.key.items w.value)

-- each key has a place, and is noted
abbrev pub AreRoomy : List Entry → List Write → Type 0
AreRoomy es [] = Unit {0}
AreRoomy es (w ∷ ws) = (has_place es w.key.items ≡ true) × (w.noted.items ≡ w.key.items) × AreRoomy es ws
