-- What a table says of its keys.
use Rattle.ep_rules.specs.OneMap.{Contents}
use Rattle.ep_exec.specs.Table.{over}
use Rattle.ep_exec.specs.declared.table.Table.{Table}

-- what the keys have
abbrev pub held : Table → Contents
held t = over t.base t.changes.entries
