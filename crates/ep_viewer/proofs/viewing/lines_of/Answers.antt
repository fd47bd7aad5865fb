use Rattle.std.proofs.Common.{subst}
use Rattle.ep_view.specs.Shown.{IsShown}
use Rattle.ep_view.specs.declared.selection.Selection.{Selection}
use Rattle.ep_viewer.proofs.viewing.lines_of.Goals as goal

pub returns-clause-reports : goal.returns-clause-reports
returns-clause-reports c = subst (λ (p : Selection). IsShown c.args.journals.now p c.in_ok-text.text.items) c.in_ok-part.ensures c.in_ok-text.ensures
