use Rattle.std.proofs.Common.{arith, ℕ, ◌+◌, List, [], ◌∷◌, ◌++◌, take, add-one, subst, sym}
use Rattle.std.proofs.Math.Seq.{take-suc}
use Rattle.ep_host.specs.Fates.{fate, Sends, Carries, IsSent}
use Rattle.ep_host.proofs.Booking.{peers_still, carried_keep}
use Rattle.ep_host.proofs.Fated.{sends_carries}
use Rattle.ep_host.proofs.Places.{each_weaker}
use Rattle.ep_host.proofs.Turning.{one_sent, lost_few}
use Rattle.ep_host.proofs.putting.send.Goals as goal

pub loop-frame-preserved : goal.loop-frame-preserved
loop-frame-preserved c =
    let ws = c.args.weather.now in let o : List ℕ = c.frame-item.result in let done = take c.loop-frame.frame-index c.args.frames.now in
    let first = c.args.links.now.items in let before = c.loop-frame.links.items in let after = c.send_one.new.links.items in
    let fates = fate o c.send_one.result ∷ [] in
    let peers = peers_still c.args.me before after (carried_keep ws fates before after (each_weaker (Sends ws fates) (Carries ws fates) (sends_carries ws fates) before after c.send_one.ensures)) c.loop-frame.invariant.peers in
    rw (add-one, take-suc c.args.frames.now c.loop-frame.frame-index o c.loop-frame-test.true, ← c.frame-item.is)
    record {
      sent = subst (λ (n : ℕ). IsSent ws (done ++ o ∷ []) (c.loop-frame.lost + n) first after) (sym c.lost-lost.ensures) (one_sent ws done o c.send_one.result c.loop-frame.lost first before after c.loop-frame.invariant.sent c.send_one.ensures);
      few = (let few = lost_few c.send_one.result in omega (arith, c.loop-frame.invariant.few, few, c.lost-lost.ensures));
      peers = peers;
    }
