use Rattle.std.proofs.Common.{◌∷◌, [], ◌∙◌, ap, arith}
use Rattle.ep_host.specs.Fates.{fate, counted_up}
use Rattle.ep_host.proofs.Following.{counts}
use Rattle.ep_host.proofs.Mailing.{outbox, mails_one, passed_addressed}
use Rattle.ep_host.proofs.sender.Sender.send_one.Goals as goal

pub invariant_of-self : goal.invariant_of-self
invariant_of-self g c = let i = c.self.inside in let d = c.deliver-delivery in
    passed_addressed c.as_slice-weather.result.now (fate c.args.frame d.result ∷ []) i.outlets.items d.new.outlets.items d.ensures.outlets c.self.invariant

pub returns : goal.returns
returns g c = let i = c.self.inside in let d = c.deliver-delivery in rw (← c.self.view_is)
    (mails_one c.as_slice-weather.result.now c.args.frame d.result (outbox i.me i.weather.items i.outlets.items i.inbox i.lost) d.new.outlets.items c.saturating_add-self-inside.result c.as_slice-weather.ensures.value d.ensures.outlets d.ensures.stray
    (c.saturating_add-self-inside.ensures ∙ counts i.lost c.lost.result (omega arith) ∙ ap (counted_up i.lost) c.lost.ensures))
