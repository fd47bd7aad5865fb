use Rattle.ep_laws.proofs.Naming.{can_survey_lem}
use Rattle.ep_laws.proofs.progress.can_survey.Goals as goal

pub returns : goal.returns
returns c = can_survey_lem
