use Rattle.std.proofs.Common.{◌≡◌, ◌∷◌, [], ℕ, List, ap, arith, length, length-append, subst, sym, ◌∙◌}
use Rattle.ep_replica.specs.Kept.{Kept}
use Rattle.ep_host.specs.Fates.{IsSent}
use Rattle.ep_host.specs.Rings.{ArePeers}
use Rattle.ep_host.proofs.acting.act.Goals as goal

pub last_frames-requires : goal.last_frames-requires
last_frames-requires c =
    let made = c.in_ok-take.ensures.ok in
    let e = ap (λ (k : Kept). length k.entries) made.1.appended in
    omega (arith, e, length-append c.args.replica.now.entries (made.0 ∷ []))

pub send-requires-clause-peers : goal.send-requires-clause-peers
send-requires-clause-peers c =
    let me : c.me.result ≡ c.args.replica.now.me = c.me.ensures ∙ ap (λ (k : Kept). k.me) c.in_ok-take.ensures.ok.1.appended in
    subst (λ (r : ℕ). ArePeers r c.args.links.now.items) (sym me) c.requires

pub returns-clause-ok : goal.returns-clause-ok
returns-clause-ok c =
    let made = c.in_ok-take.ensures.ok in
    let is : c.last_frames.result.now ≡ made.0.frames = c.last_frames.ensures.frames c.args.replica.now.entries made.0 (ap (λ (k : Kept). k.entries) made.1.appended) in record {
      entry = made.0;
      applied = made.1;
      sent = subst (λ (fs : List (List ℕ)). IsSent c.args.weather.now fs c.send.result c.args.links.now.items c.send.new.links.items) is c.send.ensures;
    }
