use Rattle.std.proofs.Common.{sym, subst}
use Rattle.ep_rules.specs.Audits.{IsAccepted}
use Rattle.ep_journal.specs.Entries.{Collected, journals_of}
use Rattle.ep_journal.specs.Openings.{opens}
use Rattle.ep_replay.proofs.player.Player.into_replayed.Goals as goal

pub returns-clause-accepted : goal.returns-clause-accepted
returns-clause-accepted c = λ own.
    subst (λ (j : Collected). IsAccepted (opens j.opening) j.faults (journals_of j) c.args.self.receipts.items) (sym c.in_ok-journals.ensures) (c.journals_are_accepted.ensures c.args.self.receipts.items own)
