use Rattle.std.proofs.Common.{subst}
use Rattle.ep_view.specs.declared.selection.Selection.{Selection}
use Rattle.ep_viewer.specs.Views.{IsOwnPage}
use Rattle.ep_viewer.proofs.viewing.page_of.Goals as goal

pub returns-clause-reports : goal.returns-clause-reports
unfolding IsOwnPage
returns-clause-reports c = subst (λ (p : Selection). IsOwnPage c.args.journals.now p c.in_ok-text.text.items) c.in_ok-part.ensures c.in_ok-text.ensures
