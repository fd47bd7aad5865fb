use Rattle.std.proofs.Common.{◌≡◌, ℕ, List, Some}
use Rattle.ep_script.specs.Window.{HasLeft}
use Rattle.ep_script.specs.RawLines.{raw_lines}
use Rattle.ep_script.specs.Plan.{reads, read_of}
use Rattle.ep_script.proofs.reader.read.Given as goal

abbrev pub invariant-loop-number : goal.invariant-loop-number
invariant-loop-number g l = record {
  bytes : (zs : List ℕ) → g.S.Source.left l.initial.source ≡ Some zs
      → (ws : List ℕ) × HasLeft l.window (g.S.Source.left l.source) ws × (read_of g.P.ScriptKind.begins g.P.ScriptKind.takes zs ≡ reads g.P.ScriptKind.begins g.P.ScriptKind.takes l.number l.draft.stage (raw_lines ws));
  failed : g.S.Source.has_failed l.source ≡ g.S.Source.has_failed l.initial.source;
}
