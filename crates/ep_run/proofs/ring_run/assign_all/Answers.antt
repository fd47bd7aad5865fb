use Rattle.std.proofs.Common.{◌≡◌, ◌∙◌, ℕ, ◌+◌, List, [], ◌∷◌, ◌++◌, length, take, add-one, refl, ap, subst, arith}
use Rattle.std.proofs.Math.Seq.{take-suc, take-length}
use Rattle.ep_script.specs.declared.agenda_line.AgendaLine.{AgendaLine}
use Rattle.ep_run.specs.Asking.{asked_by, proposers_of}
use Rattle.ep_run.specs.Rings.{AreAssigned}
use Rattle.ep_run.proofs.Submitting.{proposers_more}
use Rattle.ep_run.proofs.Running.{asked_by_both, assigned_both}
use Rattle.ep_run.proofs.ring_run.assign_all.Goals as goal

pub assign_line-requires-clause-counted : goal.assign_line-requires-clause-counted
assign_line-requires-clause-counted c =
    let k = c.requires.counted in
    (proposers_of k.0 (take c.loop-line.line-index c.args.lines.now), k.1, c.loop-line.invariant.counted k.0 k.1 k.2)

pub returns-in_err-assign_line-clause-host : goal.returns-in_err-assign_line-clause-host
returns-in_err-assign_line-clause-host c = λ f host. c.assign_line.ensures.host f (c.loop-line.invariant.host f host)

pub loop-line-preserved : goal.loop-line-preserved
loop-line-preserved c =
    let all : List (ℕ × AgendaLine) = c.args.lines.now in
    let i : ℕ = c.loop-line.line-index in
    let line : ℕ × AgendaLine = c.loop-line-item.result in
    let more : take (i + 1) all ≡ take i all ++ line ∷ [] = rw (add-one, take-suc all i line c.loop-line-test.true, ← c.loop-line-item.is) refl in record {
      host = λ f host. c.assign_line.ensures.host f (c.loop-line.invariant.host f host);
      assigned =
          λ ps ts are. rw (more, asked_by_both ps ts (take i all) (line ∷ []))
          (assigned_both (asked_by ps ts (take i all)) (asked_by (proposers_of ps (take i all)) ts (line ∷ [])) c.args.nodes.now c.loop-line.nodes c.assign_line.new.nodes (c.loop-line.invariant.assigned ps ts are)
          (c.in_ok-assign_line.ensures.assigned (proposers_of ps (take i all)) ts line.0 (c.loop-line.invariant.counted ps ts are)));
      counted =
          λ ps ts are. rw (more, proposers_more ps (take i all) line)
          (c.in_ok-assign_line.ensures.counted (proposers_of ps (take i all)) ts (c.loop-line.invariant.counted ps ts are));
    }

pub returns-clause-assigned : goal.returns-clause-assigned
returns-clause-assigned c = λ ps ts are.
    let all : List (ℕ × AgendaLine) = c.args.lines.now in
    let at : c.loop-line.line-index ≡ length all = omega arith in
    subst (λ (ls : List (ℕ × AgendaLine)). AreAssigned (asked_by ps ts ls) c.args.nodes.now c.loop-line.nodes) (ap (λ (n : ℕ). take n all) at ∙ take-length all) (c.loop-line.invariant.assigned ps ts are)
