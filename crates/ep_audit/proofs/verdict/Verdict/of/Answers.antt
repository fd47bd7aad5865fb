use Rattle.ep_journal.specs.Entries.{journals_of}
use Rattle.ep_journal.specs.Openings.{opens}
use Rattle.ep_audit.proofs.Saying.{verdict_is}
use Rattle.ep_audit.proofs.verdict.Verdict.of.Goals as goal

pub returns : goal.returns
returns c =
    verdict_is (opens c.args.journals.now.opening) c.args.journals.now.faults (journals_of c.args.journals.now) _ c.in_ok-schedule.ensures c.in_ok-committed.ensures.says
