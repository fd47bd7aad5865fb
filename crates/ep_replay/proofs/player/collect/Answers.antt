use Rattle.std.proofs.Common.{◌∙◌, ap, sym, subst, append-nil, List, ◌++◌}
use Rattle.ep_rules.specs.declared.receipt.Receipt.{Receipt as Reported}
use Rattle.ep_replay.specs.Tables.{AreOwn}
use Rattle.ep_replay.proofs.Receiving.{own_all}
use Rattle.ep_replay.proofs.player.collect.Goals as goal

pub returns-then-not-has_executed-clause-receipts : goal.returns-then-not-has_executed-clause-receipts
returns-then-not-has_executed-clause-receipts c = λ w event h.
    let had : List Reported = c.args.receipts.now.items in
    sym (ap (λ (ts : List Reported). had ++ ts) (c.has_executed.ensures c.if-not-has_executed.true w event h) ∙ append-nil had)

pub returns-clause-receipts : goal.returns-clause-receipts
returns-clause-receipts c = λ w event h. c.in_ok-append.ensures.items ∙ ap (λ (ts : List Reported). c.args.receipts.now.items ++ ts) (c.in_ok-new.ensures.exact w event h)

pub returns-clause-own : goal.returns-clause-own
returns-clause-own c = λ own. subst (λ (ts : List Reported). AreOwn c.args.world.now ts) (sym c.in_ok-append.ensures.items) (own_all c.args.world.now c.args.receipts.now.items c.in_ok-new.new.items own c.in_ok-new.ensures.own)
