use Rattle.std.proofs.Common.{arith, ◌≡◌, Err, refl, ap, ◌∙◌, ◌≤◌, ◌<◌}
use Rattle.ep_script.specs.RawLines.{raw_lines}
use Rattle.ep_script.specs.Plan.{read_of, reads, ended}
use Rattle.ep_script.proofs.Steps.{got_past, long_none, reads_none, reads_some}
use Rattle.ep_script.proofs.reader.read.Goals as goal

pub loop-number-init : goal.loop-number-init
loop-number-init g c = record {
  bytes = λ zs h. (zs, (zs, h, rw c.new-window.ensures refl), rw c.new-draft.ensures refl);
  failed = refl;
}

pub returns-in-End-clause-bytes : goal.returns-in-End-clause-bytes
returns-in-End-clause-bytes g c = λ zs h.
    let i = c.loop-number.invariant.bytes zs h in
    let none = rw c.in-End.is at (c.in_ok-line.ensures.bytes i.0 i.1) in
    let is : read_of g.P.ScriptKind.begins g.P.ScriptKind.takes zs ≡ ended g.P.ScriptKind.begins c.loop-number.number c.loop-number.draft.stage = i.2 ∙ ap (λ ws. reads g.P.ScriptKind.begins g.P.ScriptKind.takes c.loop-number.number c.loop-number.draft.stage (raw_lines ws)) none in
    rw is c.end.ensures.script

pub returns-in-TooLong-clause-bytes : goal.returns-in-TooLong-clause-bytes
returns-in-TooLong-clause-bytes g c = λ zs h.
    let i = c.loop-number.invariant.bytes zs h in
    let long = rw c.in-TooLong.is at (c.in_ok-line.ensures.bytes i.0 i.1) in
    let few : c.loop-number.number ≤ 100000 = omega arith in
    i.2 ∙ ap (reads g.P.ScriptKind.begins g.P.ScriptKind.takes c.loop-number.number c.loop-number.draft.stage) long.2 ∙ reads_none g.P.ScriptKind.begins g.P.ScriptKind.takes c.loop-number.number c.loop-number.draft.stage long.0 long.1 few (long_none g.P.ScriptKind.begins g.P.ScriptKind.takes c.loop-number.number c.loop-number.draft.stage long.0 long.3)

pub returns-then-not-branch-clause-bytes : goal.returns-then-not-branch-clause-bytes
returns-then-not-branch-clause-bytes g c = λ zs h.
    let i = c.loop-number.invariant.bytes zs h in
    let got = rw c.in-Line.is at (c.in_ok-line.ensures.bytes i.0 i.1) in
    let few : c.loop-number.number ≤ 100000 = omega arith in
    i.2 ∙ ap (reads g.P.ScriptKind.begins g.P.ScriptKind.takes c.loop-number.number c.loop-number.draft.stage) got.1 ∙ reads_none g.P.ScriptKind.begins g.P.ScriptKind.takes c.loop-number.number c.loop-number.draft.stage c.line.new.line.items (raw_lines got.0) few
    (let e = rw c.if-not-branch.true at c.in_ok-take_line-in-Line.ensures in rw (← c.as_slice.ensures.value) e)

pub loop-number-preserved : goal.loop-number-preserved
loop-number-preserved g c = record {
  bytes = λ zs h.
      let i = c.loop-number.invariant.bytes zs h in
      let got = rw c.in-Line.is at (c.in_ok-line.ensures.bytes i.0 i.1) in
      let few : c.loop-number.number ≤ 100000 = omega arith in (
        got.0,
        got.3,
        i.2 ∙ ap (reads g.P.ScriptKind.begins g.P.ScriptKind.takes c.loop-number.number c.loop-number.draft.stage) got.1 ∙ reads_some g.P.ScriptKind.begins g.P.ScriptKind.takes c.loop-number.number c.loop-number.draft.stage c.take_line.new.self.stage c.line.new.line.items (raw_lines got.0) few
            (let e = rw c.if-not-branch.false at c.in_ok-take_line-in-Line.ensures in rw (← c.as_slice.ensures.value) e),
      );
  failed = c.in_ok-line.ensures.failed ∙ c.loop-number.invariant.failed;
}

pub returns-in-End-2-clause-bytes : goal.returns-in-End-2-clause-bytes
returns-in-End-2-clause-bytes g c = λ zs h.
    let i = c.loop-number.invariant.bytes zs h in
    let none = rw c.in-End-2.is at (c.in_ok-line-2.ensures.bytes i.0 i.1) in
    let last : c.loop-number.number ≡ 100001 = omega arith in
    let is : read_of g.P.ScriptKind.begins g.P.ScriptKind.takes zs ≡ ended g.P.ScriptKind.begins 100001 c.loop-number.draft.stage = i.2 ∙ ap (λ ws. reads g.P.ScriptKind.begins g.P.ScriptKind.takes c.loop-number.number c.loop-number.draft.stage (raw_lines ws)) none ∙ ap (λ n. ended g.P.ScriptKind.begins n c.loop-number.draft.stage) last in
    rw is c.end-in-End-2.ensures.script

pub returns-clause-bytes : goal.returns-clause-bytes
returns-clause-bytes g c = λ zs h.
    let i = c.loop-number.invariant.bytes zs h in
    let past : 100000 < c.loop-number.number = omega arith in
    let last : c.loop-number.number ≡ 100001 = omega arith in
    i.2 ∙ got_past g.P.ScriptKind.begins g.P.ScriptKind.takes c.in_ok-line-2.field-0 c.loop-number.number c.loop-number.draft.stage i.0 c.line-2.new.line.items c.line-2.new.self _ (c.in_ok-line-2.ensures.bytes i.0 i.1) c.in_default.not-End past
    ∙ ap (λ n. Err n) last
