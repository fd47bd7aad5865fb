use Rattle.std.proofs.Common.{◌≡◌, ◌∙◌, List, ℕ, ◌+◌, ◌≤◌, [], ◌∷◌, ◌++◌, length, refl, sym, ap, subst, take, add-one, arith}
use Rattle.std.proofs.Math.Seq.{take-suc}
use Rattle.std.proofs.lemmas.List.{take_all}
use Rattle.ep_host.specs.declared.task.Task.{Task}
use Rattle.ep_script.specs.declared.agenda_line.AgendaLine.{AgendaLine}
use Rattle.ep_run.specs.Asking.{asked_of, proposers_of, asked_by}
use Rattle.ep_run.specs.Walks.{Lists}
use Rattle.ep_run.proofs.Running.{asked_by_both}
use Rattle.ep_run.proofs.Walking.{lists_both}
use Rattle.ep_run.proofs.refusals.list_section.Goals as goal

pub loop-number-preserved : goal.loop-number-preserved
loop-number-preserved c = λ ps ts.
    let all : List (ℕ × AgendaLine) = c.lines-number-items.result.now in
    let i : ℕ = c.loop-number.number-index in
    let line : ℕ × AgendaLine = c.loop-number-item.result in
    let more : take (i + 1) all ≡ take i all ++ line ∷ [] = rw (add-one, take-suc all i line c.loop-number-test.true, ← c.loop-number-item.is) refl in
    let asked : List (ℕ × (ℕ × Task)) = asked_by ps ts (take i all) in
    let now : List (ℕ × (ℕ × Task)) = (line.0, asked_of (proposers_of ps (take i all)) ts line.1) ∷ [] in
    let both : asked ++ now ≡ asked_by ps ts (take (i + 1) all) = sym (ap (asked_by ps ts) more ∙ asked_by_both ps ts (take i all) (line ∷ [])) in
    subst (λ (xs : List (ℕ × (ℕ × Task))). Lists xs c.args.nodes.now c.args.cursors.now c.list_line.new.cursors c.args.refused.now.items c.list_line.new.refused.items) both
    (lists_both asked now c.args.nodes.now c.args.cursors.now c.loop-number.cursors c.list_line.new.cursors c.args.refused.now.items c.loop-number.refused.items c.list_line.new.refused.items
    (c.loop-number.invariant ps ts) (c.in_ok-list_line.ensures (proposers_of ps (take i all)) ts))

pub returns : goal.returns
returns c = λ ps ts.
    let all : List (ℕ × AgendaLine) = c.lines-number-items.result.now in
    let i : ℕ = c.loop-number.number-index in
    let long : length all ≤ i = omega arith in
    let whole : take i all ≡ c.args.section.now.lines = take_all i all long ∙ c.lines-number-items.ensures in
    subst (λ (ls : List (ℕ × AgendaLine)). Lists (asked_by ps ts ls) c.args.nodes.now c.args.cursors.now c.loop-number.cursors c.args.refused.now.items c.loop-number.refused.items) whole (c.loop-number.invariant ps ts)
