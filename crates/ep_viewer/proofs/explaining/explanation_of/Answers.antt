use Rattle.ep_viewer.proofs.Ending.{not_explained, explained_read, explained_unwritten}
use Rattle.ep_viewer.proofs.explaining.explanation_of.Goals as goal

pub returns-in_err-reported-clause-made : goal.returns-in_err-reported-clause-made
returns-in_err-reported-clause-made g c zs known = not_explained c.in_err-reported.field-0.0 _ zs c.from_residual.ensures.1

pub returns-in_err-reported-clause-read : goal.returns-in_err-reported-clause-read
returns-in_err-reported-clause-read g c = explained_read c.in_err-reported.field-0.0 _ _ _ c.from_residual.ensures.1 c.in_err-reported.ensures.failed

pub returns-in_err-reported-clause-unwritten : goal.returns-in_err-reported-clause-unwritten
returns-in_err-reported-clause-unwritten g c = explained_unwritten c.in_err-reported.field-0.0 _ c.from_residual.ensures.1

pub returns-clause-made : goal.returns-clause-made
returns-clause-made g c zs known out wrote = record {
  finding = c.in_ok-reported.reported.finding;
  text = c.in_ok-reported.reported.text.items;
  explained = c.in_ok-reported.ensures.reported zs known;
  is = c.status_found-status.ensures;
  wrote = wrote;
}
