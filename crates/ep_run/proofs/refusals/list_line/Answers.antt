use Rattle.std.proofs.Common.{◌∙◌, ℕ, List, [], ◌∷◌, ◌++◌, Option, sym, ap}
use Rattle.std.proofs.lemmas.List.{append-nil}
use Rattle.ep_journal.specs.declared.step_fault.StepFault.{StepFault}
use Rattle.ep_journal.specs.declared.refusal.Refusal.{Refusal}
use Rattle.ep_run.specs.Lines.{refusal_of}
use Rattle.ep_run.specs.Rings.{fate_of}
use Rattle.ep_run.proofs.Walking.{lists_line}
use Rattle.ep_run.proofs.refusals.list_line.Goals as goal

pub returns-in_ok-push : goal.returns-in_ok-push
returns-in_ok-push c = λ ps ts.
    let number : ℕ = c.args.number in
    let listed : List (ℕ × Refusal) = c.args.refused.now.items in
    let fault : Option StepFault = c.in_ok-fault.fault in
    lists_line number c.args.line.now c.replica.result ps ts c.args.nodes.now c.args.cursors.now c.pass.new.cursors listed c.push.new.self.items fault c.replica.ensures c.in_ok-fault.ensures.fault c.in_ok-fault.ensures.rest
    (c.in_ok-push.ensures.items ∙ ap (λ (o : Option StepFault). listed ++ refusal_of number (fate_of o)) (sym c.in-Some.is))

pub returns-in_default : goal.returns-in_default
returns-in_default c = λ ps ts.
    let number : ℕ = c.args.number in
    let listed : List (ℕ × Refusal) = c.args.refused.now.items in
    let fault : Option StepFault = c.in_ok-fault.fault in
    lists_line number c.args.line.now c.replica.result ps ts c.args.nodes.now c.args.cursors.now c.pass.new.cursors listed listed fault c.replica.ensures c.in_ok-fault.ensures.fault c.in_ok-fault.ensures.rest
    (sym (append-nil listed) ∙ ap (λ (o : Option StepFault). listed ++ refusal_of number (fate_of o)) (sym c.in_default.is))
