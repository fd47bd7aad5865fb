use Rattle.std.proofs.Common.{◌≡◌, ◌++◌, drop, map, string_bytes}
use Rattle.ep_assemble.specs.Lines.{torn_lines}
use Rattle.ep_assemble.proofs.lines.push_torn.Given as goal

abbrev pub invariant-loop-place : goal.invariant-loop-place
invariant-loop-place l =
    l.out.items ++ torn_lines l.place (map string_bytes l.names) (drop l.place l.ends) ≡ l.fn.out.items ++ torn_lines 0 (map string_bytes l.names) l.ends
