use Rattle.std.proofs.Common.{◌≡◌, ◌∙◌, List, ℕ, ◌+◌, ◌<◌, [], ◌∷◌, ◌++◌, length, refl, sym, ap, subst, take, add-one, arith, slice_index_or}
use Rattle.std.proofs.Math.Seq.{take-suc}
use Rattle.std.proofs.lemmas.List.{take_all, length-take-le}
use Rattle.ep_host.specs.declared.task.Task.{Task}
use Rattle.ep_rules.specs.declared.receipt.Receipt.{Receipt}
use Rattle.ep_script.specs.Plan.{SectionPlan}
use Rattle.ep_run.specs.Asking.{asked_by, asked_in}
use Rattle.ep_run.specs.Rings.{proposers_in}
use Rattle.ep_run.specs.Walks.{Lists}
use Rattle.ep_run.proofs.Walking.{lists_both, asked_in_more}
use Rattle.ep_run.proofs.refusals.list_all.Goals as goal

pub loop-section-preserved : goal.loop-section-preserved
loop-section-preserved c = λ before sectioned.
    let all : List SectionPlan = c.args.sections.now in
    let i : ℕ = c.loop-section.section-index in
    let section : SectionPlan = c.section-item.result in
    let first : List SectionPlan = take i all in
    let within : i < length all = c.loop-section-test.true in
    let more : take (i + 1) all ≡ first ++ section ∷ [] = rw (add-one, take-suc all i section within, ← c.section-item.is) refl in
    let short : length first < length before = (let long : length first ≡ i = length-take-le i all (omega arith) in omega arith) in
    let asked : List (ℕ × (ℕ × Task)) = asked_in [] first before in
    let ps : List ℕ = proposers_in [] first in
    let given : List Receipt = slice_index_or before (length first) [] in
    let both : asked ++ asked_by ps given section.lines ≡ asked_in [] (take (i + 1) all) before = sym (ap (λ (ss : List SectionPlan). asked_in [] ss before) more ∙ asked_in_more [] first section before short) in
    subst (λ (xs : List (ℕ × (ℕ × Task))). Lists xs c.args.nodes.now c.args.cursors.now c.list_section.new.cursors c.args.refused.now.items c.list_section.new.refused.items) both
    (lists_both asked (asked_by ps given section.lines) c.args.nodes.now c.args.cursors.now c.loop-section.cursors c.list_section.new.cursors c.args.refused.now.items c.loop-section.refused.items c.list_section.new.refused.items
    (c.loop-section.invariant before sectioned) (c.in_ok-list_section.ensures ps given))

pub returns : goal.returns
returns c = λ before sectioned.
    let all : List SectionPlan = c.args.sections.now in
    let i : ℕ = c.loop-section.section-index in
    let whole : take i all ≡ all = take_all i all (omega arith) in
    subst (λ (ss : List SectionPlan). Lists (asked_in [] ss before) c.args.nodes.now c.args.cursors.now c.loop-section.cursors c.args.refused.now.items c.loop-section.refused.items) whole (c.loop-section.invariant before sectioned)
