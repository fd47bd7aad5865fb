use Rattle.std.proofs.Common.{ℕ, List, [], ◌∷◌, subst}
use Rattle.ep_host.specs.Fates.{fate}
use Rattle.ep_host.specs.Outboxes.{Mails}
use Rattle.ep_host.proofs.Mailing.{mailed_none, mailed_one}
use Rattle.ep_host.proofs.sender.Sender.send_all.Goals as goal

pub loop-frame-init : goal.loop-frame-init
loop-frame-init g c = mailed_none c.args.self.now

pub loop-frame-preserved : goal.loop-frame-preserved
loop-frame-preserved g c =
    mailed_one c.loop-frame.yielded c.in-Some.frame c.send_one.result c.args.self.now c.loop-frame.self c.send_one.new.self c.loop-frame.invariant
    (subst (λ (b : List ℕ). Mails (fate b c.send_one.result ∷ []) 0 c.loop-frame.self c.send_one.new.self) c.new.ensures c.send_one.ensures)
