use Rattle.ep_main.proofs.Rewriting.{two_is_late}
use Rattle.ep_main.proofs.upgrading.upgrade.Goals as goal

pub returns-clause-journals : goal.returns-clause-journals
returns-clause-journals c = λ early. c.in_ok-journals.ensures.upgraded early

pub returns-clause-same : goal.returns-clause-same
returns-clause-same c = λ is. c.in_ok-journals.ensures.same (two_is_late c.args.bundle.journals.version is)
