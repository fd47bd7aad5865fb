use Rattle.std.proofs.Common.{◌≡◌, length, map, string_bytes, take}
use Rattle.ep_server.specs.NamedFiles.{paths_in}
use Rattle.ep_server.proofs.generation_collecting.paths_of.Given as goal

abbrev pub invariant-loop-folder : goal.invariant-loop-folder
invariant-loop-folder l =
    (map string_bytes l.paths.items ≡ paths_in l.generation l.name (map string_bytes (take l.folder-index l.folders))) × (length l.paths.items ≡ l.folder-index)
