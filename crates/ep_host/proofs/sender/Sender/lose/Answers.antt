use Rattle.std.proofs.Common.{ℕ, ◌∙◌, ap, arith}
use Rattle.ep_host.proofs.Following.{counts}
use Rattle.ep_host.proofs.Mailing.{outbox}
use Rattle.ep_host.proofs.sender.Sender.lose.Goals as goal

pub returns : goal.returns
returns c = let i = c.self.inside in rw (← c.self.view_is)
    (ap (λ (n : ℕ). outbox i.me i.weather.items i.outlets.items i.inbox n) (c.saturating_add-self-inside.ensures ∙ counts i.lost c.args.more (omega arith)))
