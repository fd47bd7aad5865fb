use Rattle.std.proofs.Common.{[], List, sym, subst, ◌∙◌}
use Rattle.ep_script.specs.Plan.{SectionPlan}
use Rattle.ep_run.specs.Lines.{AreDone}
use Rattle.ep_run.specs.Rings.{HasRun, begun_of}
use Rattle.ep_run.specs.Sections.{AreSections}
use Rattle.ep_rules.specs.declared.receipt.Receipt.{Receipt}
use Rattle.ep_script.specs.Heads.{Head}
use Rattle.ep_run.proofs.rings.run_rings.Goals as goal

pub run_all-requires-clause-run : goal.run_all-requires-clause-run
run_all-requires-clause-run g c = λ lifetimes lives. (begun_of c.args.script.now.head, subst (λ (h : Head). HasRun (begun_of h) c.args.limits.now.turns [] c.in_ok-run.run') c.head.ensures (c.in_ok-run.ensures.run c.args.limits.now.turns))

pub run_all-requires-clause-size : goal.run_all-requires-clause-size
run_all-requires-clause-size g c = λ lifetimes lives.
    let h = subst (λ (h : Head). HasRun (begun_of h) c.args.limits.now.turns [] c.in_ok-run.run') c.head.ensures (c.in_ok-run.ensures.run c.args.limits.now.turns) in h.host.count

pub end-requires : goal.end-requires
end-requires g c =
    let b = begun_of c.args.script.now.head in
    let turns = c.args.limits.now.turns in
    let h = subst (λ (h : Head). HasRun (begun_of h) turns [] c.in_ok-run.run') c.head.ensures (c.in_ok-run.ensures.run turns) in
    (b, turns, subst (λ (ss : List SectionPlan). HasRun b turns ss c.run_all.new.self) (sym c.sections.ensures.value) (c.in-Ok.ensures.run b h))

pub returns-in_ok-end-in-Ok-clause-lines : goal.returns-in_ok-end-in-Ok-clause-lines
returns-in_ok-end-in-Ok-clause-lines g c =
    let b = begun_of c.args.script.now.head in
    let turns = c.args.limits.now.turns in
    let h = subst (λ (h : Head). HasRun (begun_of h) turns [] c.in_ok-run.run') c.head.ensures (c.in_ok-run.ensures.run turns) in
    let e : HasRun b turns c.sections.result.now c.run_all.new.self = subst (λ (ss : List SectionPlan). HasRun b turns ss c.run_all.new.self) (sym c.sections.ensures.value) (c.in-Ok.ensures.run b h) in
    subst (λ (ss : List SectionPlan). AreDone turns ss c.in_ok-end-in-Ok.field-0) c.sections.ensures.value (c.in_ok-end-in-Ok.ensures.lines b turns e)

pub returns-in_ok-end-in-Ok-clause-begun : goal.returns-in_ok-end-in-Ok-clause-begun
returns-in_ok-end-in-Ok-clause-begun g c =
    let b = begun_of c.args.script.now.head in
    let turns = c.args.limits.now.turns in
    let h = subst (λ (h : Head). HasRun (begun_of h) turns [] c.in_ok-run.run') c.head.ensures (c.in_ok-run.ensures.run turns) in
    c.in_ok-end-in-Ok.ensures.begun b turns (subst (λ (ss : List SectionPlan). HasRun b turns ss c.run_all.new.self) (sym c.sections.ensures.value) (c.in-Ok.ensures.run b h))

pub returns-in_ok-end-in-Ok-clause-run : goal.returns-in_ok-end-in-Ok-clause-run
returns-in_ok-end-in-Ok-clause-run g c =
    let head = c.args.script.now.head in
    let b = begun_of head in
    let turns = c.args.limits.now.turns in
    let sections = c.args.script.now.sections in
    let run = c.in_ok-run.run' in
    let new = c.run_all.new.self in
    let h : HasRun b turns [] run = subst (λ (h : Head). HasRun (begun_of h) turns [] run) c.head.ensures (c.in_ok-run.ensures.run turns) in
    let left = c.in_ok-end-in-Ok.ensures in
    let came : AreSections turns sections [] run.receipts.items new.receipts.items run.nodes.items new.nodes.items = c.in-Ok.ensures.sections b h in
    let from : AreSections turns sections [] [] new.receipts.items run.nodes.items new.nodes.items = subst (λ (l : List Receipt). AreSections turns sections [] l new.receipts.items run.nodes.items new.nodes.items) c.in_ok-run.ensures.none came in record {
      first = run.nodes.items;
      last = new.nodes.items;
      host = h.host;
      fresh = c.in_ok-run.ensures.fresh;
      starts = h.start;
      sections_run = subst (λ (l : List Receipt). AreSections turns sections [] [] l run.nodes.items new.nodes.items) (sym left.receipts) from;
      journals = left.journals;
    }
