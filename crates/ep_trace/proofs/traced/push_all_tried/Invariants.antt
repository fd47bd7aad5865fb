use Rattle.std.proofs.Common.{◌≡◌, ◌++◌, drop}
use Rattle.ep_trace.specs.Traced.{tried_lines}
use Rattle.ep_trace.proofs.traced.push_all_tried.Given as goal

abbrev pub invariant-loop-one : goal.invariant-loop-one
invariant-loop-one l = l.text.items ++ tried_lines l.world (drop l.one-index l.tried) ≡ l.initial.text.items ++ tried_lines l.world l.tried
