use Rattle.std.proofs.Common.{subst}
use Rattle.ep_view.specs.Graphs.{IsGraph}
use Rattle.ep_view.specs.declared.selection.Selection.{Selection}
use Rattle.ep_viewer.proofs.viewing.graph_of.Goals as goal

pub returns-clause-reports : goal.returns-clause-reports
returns-clause-reports c = subst (λ (p : Selection). IsGraph c.args.journals.now p c.in_ok-text.text.items) c.in_ok-part.ensures c.in_ok-text.ensures
