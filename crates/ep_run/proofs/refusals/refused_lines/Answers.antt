use Rattle.std.proofs.Common.{◌∙◌, List, ℕ, [], ◌++◌, ap}
use Rattle.ep_host.specs.Node.{Node}
use Rattle.ep_journal.specs.declared.refusal.Refusal.{Refusal}
use Rattle.ep_run.specs.Asking.{asked_in}
use Rattle.ep_run.specs.Lines.{refused_in}
use Rattle.ep_run.specs.Rings.{lines_of}
use Rattle.ep_run.proofs.Walking.{at_start}
use Rattle.ep_run.proofs.refusals.refused_lines.Goals as goal

pub returns : goal.returns
returns c = λ before uses sectioned refusals none.
    let nodes : List Node = c.args.nodes.now in
    let all : List (ℕ × Refusal) = refused_in (lines_of (asked_in [] c.args.sections.now before) uses) in
    (c.in_ok-list_all.ensures before sectioned).reported uses (at_start c.deref_mut.result.now nodes uses (c.deref_mut.ensures.value ∙ c.in_ok-cursors.ensures) refusals none) ∙ ap (λ (listed : List (ℕ × Refusal)). listed ++ all) c.new-refused.ensures.items
