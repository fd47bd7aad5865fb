-- Entries that several contents share.
use Rattle.std.specs.Prelude.{List, [], Option, Some, None, Vec}
use Rattle.std.specs.declared.sync.Arc.{Arc}
use Rattle.std.specs.Arc.{arc_value}
use Rattle.std.specs.Global.{Global}

-- the entries: none where there is no list
abbrev pub items_of : {E : Type 0} → Option (Arc (Vec E Global) Global) → List E
items_of None = []
items_of (Some list) = (arc_value list).items
