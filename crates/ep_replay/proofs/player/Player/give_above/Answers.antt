use Rattle.std.proofs.Common.{◌≡◌, ℕ, ◌+◌, ◌-◌, subst, arith}
use Rattle.ep_replay.specs.Replays.{Gives, above}
use Rattle.ep_replay.specs.Tables.{LeadsTo}
use Rattle.ep_replay.proofs.Leading.{above_begins, above_goes_on}
use Rattle.ep_replay.proofs.player.Player.give_above.Goals as goal

pub loop-place-init : goal.loop-place-init
loop-place-init c = above_begins c.args.line c.args.from (c.args.from - c.args.from) c.args.self.now (omega arith)

pub loop-place-preserved : goal.loop-place-preserved
loop-place-preserved c =
    above_goes_on c.args.line c.args.from (c.loop-place.place - c.args.from) (c.loop-place.place + 1 - c.args.from)
    (c.loop-place.place + 1) c.args.self.now c.loop-place.self c.give.new.self (omega arith) (omega arith)
    c.loop-place.invariant c.in_ok-give.ensures

pub returns : goal.returns
returns c =
    let end : c.loop-place.place ≡ c.args.sent = omega arith in
    let from : ℕ = c.args.from in
    subst (λ n. LeadsTo (λ p q. Gives p c.args.line (above from (n - from)) q) c.args.self.now c.loop-place.self) end
    c.loop-place.invariant
