use Rattle.std.proofs.Common.{◌≤◌, ◌∙◌, ℕ, false, subst}
use Rattle.ep_journal.specs.Entries.{journals_of}
use Rattle.ep_journal.specs.Openings.{opens}
use Rattle.ep_rules.proofs.OnceDone.{as_once}
use Rattle.ep_replay.specs.Reported.{instances_of}
use Rattle.ep_replay.proofs.Keeping.{replay_version, replay_opening}
use Rattle.ep_replay.proofs.Leading.{replayed}
use Rattle.ep_replay.proofs.OneReceipt.{few_receipts}
use Rattle.ep_replay.proofs.ReceiptsOnce.{replay_once}
use Rattle.ep_replay.proofs.player.replay.Goals as goal

pub returns-clause-value : goal.returns-clause-value
returns-clause-value c = replayed c.args.script.now false c.in_ok-player.player c.in_ok-left.left c.in_ok-player.ensures c.in_ok-left.ensures.journals c.in_ok-left.ensures.receipts c.in_ok-left.ensures.refused

pub returns-clause-version : goal.returns-clause-version
returns-clause-version c = replay_version c.args.script.now c.in_ok-left.left (returns-clause-value c)

pub returns-clause-opening : goal.returns-clause-opening
returns-clause-opening c = replay_opening c.args.script.now c.in_ok-left.left (returns-clause-value c)

pub returns-clause-accepted : goal.returns-clause-accepted
returns-clause-accepted c = c.in_ok-left.ensures.accepted c.in_ok-player.ensures.reports.own

pub returns-clause-once : goal.returns-clause-once
returns-clause-once c = as_once (instances_of c.in_ok-left.left.receipts.items) (replay_once c.args.script.now c.in_ok-left.left (returns-clause-value c))

pub returns-clause-few : goal.returns-clause-few
returns-clause-few c =
    few_receipts (opens c.in_ok-left.left.journals.opening) c.in_ok-left.left.journals.faults (journals_of c.in_ok-left.left.journals) c.in_ok-left.left.receipts.items (subst (λ n. n ≤ 3) (c.faults-faults.ensures.value ∙ c.size.ensures) c.faults-faults.ensures.in_range.1) c.are_local_runs.ensures (returns-clause-accepted c)
    (replay_once c.args.script.now c.in_ok-left.left (returns-clause-value c))
