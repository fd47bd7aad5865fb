use Rattle.std.proofs.Common.{rules, ◌≡◌, IfOk, subst, sym}
use Rattle.ep_viewer.proofs.Ending.{any_text}
use Rattle.ep_viewer.specs.Views.{Displays}
use Rattle.ep_viewer.specs.declared.view.View.{View}
use Rattle.ep_viewer.specs.declared.view.View.TheVariants.{Show, Columns, Page, Sequence, Graph, Events}
use Rattle.ep_viewer.proofs.viewing.text_of.Goals as goal

pub returns-in-Show-clause-reports : goal.returns-in-Show-clause-reports
returns-in-Show-clause-reports c =
    let is : c.args.view.now ≡ Show c.in-Show.wanted = search rules in
    subst (λ (v : View). IfOk c.lines_of.result (λ t. Displays v c.args.journals.now t.items)) (sym is) c.lines_of.ensures.reports

pub returns-in-Page-clause-reports : goal.returns-in-Page-clause-reports
returns-in-Page-clause-reports c =
    let is : c.args.view.now ≡ Page c.in-Page.wanted = search rules in
    subst (λ (v : View). IfOk c.page_of.result (λ t. Displays v c.args.journals.now t.items)) (sym is) c.page_of.ensures.reports

pub returns-in-Sequence-clause-reports : goal.returns-in-Sequence-clause-reports
returns-in-Sequence-clause-reports c =
    let is : c.args.view.now ≡ Sequence c.in-Sequence.wanted = search rules in
    subst (λ (v : View). IfOk c.sequence_of.result (λ t. Displays v c.args.journals.now t.items)) (sym is) c.sequence_of.ensures.reports

pub returns-in-Graph-clause-reports : goal.returns-in-Graph-clause-reports
returns-in-Graph-clause-reports c =
    let is : c.args.view.now ≡ Graph c.in-Graph.wanted = search rules in
    subst (λ (v : View). IfOk c.graph_of.result (λ t. Displays v c.args.journals.now t.items)) (sym is) c.graph_of.ensures.reports

pub returns-in-Events-clause-reports : goal.returns-in-Events-clause-reports
returns-in-Events-clause-reports c =
    let is : c.args.view.now ≡ Events c.in-Events.wanted = search rules in
    subst (λ (v : View). IfOk c.events_of.result (λ t. Displays v c.args.journals.now t.items)) (sym is) c.events_of.ensures.reports

pub returns-in-Columns-clause-reports : goal.returns-in-Columns-clause-reports
returns-in-Columns-clause-reports c =
    let is : c.args.view.now ≡ Columns c.in-Columns.wanted = search rules in
    subst (λ (v : View). IfOk c.columns_of.result (λ t. Displays v c.args.journals.now t.items)) (sym is) (any_text c.in-Columns.wanted c.args.journals.now c.columns_of.result)
