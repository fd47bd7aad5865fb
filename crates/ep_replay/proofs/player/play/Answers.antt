use Rattle.std.proofs.Common.{List, sym, subst}
use Rattle.ep_rules.specs.declared.receipt.Receipt.{Receipt}
use Rattle.ep_world.specs.Played.{Played}
use Rattle.ep_replay.specs.Tables.{AreOwn}
use Rattle.ep_replay.proofs.Keeping.{ended_version, ended_opening}
use Rattle.ep_replay.proofs.Leading.{ended}
use Rattle.ep_replay.proofs.player.play.Goals as goal

pub returns-clause-value : goal.returns-clause-value
returns-clause-value c =
    ended c.args.script.now c.in_ok-player.player c.in_ok-ended.ended c.in_ok-player.ensures c.in_ok-ended.ensures.world c.in_ok-ended.ensures.receipts c.in_ok-ended.ensures.tried c.in_ok-ended.ensures.ungiven

pub returns-clause-version : goal.returns-clause-version
returns-clause-version c = ended_version c.args.script.now c.in_ok-ended.ended (returns-clause-value c)

pub returns-clause-opening : goal.returns-clause-opening
returns-clause-opening c = ended_opening c.args.script.now c.in_ok-ended.ended (returns-clause-value c)

pub returns-clause-own : goal.returns-clause-own
returns-clause-own c =
    subst (λ (w : Played). AreOwn w c.in_ok-ended.ended.receipts.items) (sym c.in_ok-ended.ensures.world)
    (subst (λ (ts : List Receipt). AreOwn c.in_ok-player.player.world ts) (sym c.in_ok-ended.ensures.receipts) c.in_ok-player.ensures.reports.own)
