use Rattle.std.proofs.Common.{sym}
use Rattle.ep_host.proofs.Mailing.{own_more, own_past}
use Rattle.ep_host.proofs.weather.own_of.Goals as goal
use Rattle.ep_host.proofs.weather.own_of.Goals.{then-eq+in_ok-push, else-eq}

pub loop-it-preserved : goal.loop-it-preserved
loop-it-preserved c = let it = c.it-item in
    elim c.if-eq.branch [
      | then-eq+in_ok-push w ↦ rw w.own-is (own_more c.args.me c.loop-it.own.items w.push.new.self.items c.args.weather.now c.loop-it.it-index it.result c.loop-it-test.true it.is c.loop-it.invariant (sym w.if-eq.ensures) w.in_ok-push.ensures.items)
      | else-eq w ↦ rw w.own-is (own_past c.args.me c.loop-it.own.items c.args.weather.now c.loop-it.it-index it.result c.loop-it-test.true it.is c.loop-it.invariant (sym w.if-eq.ensures))
    ]
