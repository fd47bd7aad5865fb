use Rattle.ep_folder.proofs.Planned.{never_goes_back}
use Rattle.ep_folder.proofs.planning.plan_for.Goals as goal

pub returns-clause-never : goal.returns-clause-never
returns-clause-never c = never_goes_back _ _ _ c.chosen.ensures
