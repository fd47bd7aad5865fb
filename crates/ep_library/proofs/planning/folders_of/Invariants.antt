use Rattle.std.proofs.Common.{◌≡◌, ◌++◌, map, drop}
use Rattle.ep_library.specs.Planning.{folder_of}
use Rattle.ep_library.proofs.planning.folders_of.Given as goal

abbrev pub invariant-loop-one : goal.invariant-loop-one
invariant-loop-one l = l.all.items ++ map folder_of (drop l.one-index l.held) ≡ map folder_of l.held
