use Rattle.std.proofs.Common.{arith, false, ◌≡◌, ◌<◌, ◌∙◌, ℕ, length, sym, ap, subst, get_or}
use Rattle.std.proofs.lemmas.List.{get_or_default}
use Rattle.ep_frame.specs.Meaning.{origin_at}
use Rattle.ep_host.specs.Fates.{Delivers, counted_up}
use Rattle.ep_host.specs.Rings.{place}
use Rattle.ep_host.specs.Weathers.{kind_at}
use Rattle.ep_host.specs.declared.delivery.Delivery.TheVariants.{Put}
use Rattle.ep_host.specs.declared.link.Link.{Link}
use Rattle.ep_host.proofs.Following.{counts}
use Rattle.ep_host.proofs.Naming.{same_by, apart_by}
use Rattle.ep_host.proofs.Turning.{each_sends, each_passes}
use Rattle.ep_host.proofs.putting.send_one.Goals as goal
use Rattle.ep_host.proofs.putting.send_one.Goals.{then-place-len-via-then-place-len, then-place-len-via-else-place-len+then-ne}

pub returns : goal.returns
returns c =
    let ws = c.args.weather.now in let b = c.args.frame.now in let xs = c.args.links.now.items in let p = c.place-place.result in let was : Link = c.index_mut.result.now in
    let low : p < length xs = omega (arith, c.if-place-len.false, c.len.ensures) in
    let to : c.origin-peer.result.to ≡ (origin_at b).to = ap (λ o. o.to) c.origin-peer.ensures in
    let here : c.index.result.now ≡ get_or xs p was = c.index.ensures ∙ get_or_default xs p c.index.result.now was low in
    let here' : c.index-2.result.now ≡ get_or xs p was = c.index-2.ensures ∙ get_or_default xs p c.index-2.result.now was low in
    let peer : (get_or xs p was).peer ≡ (origin_at b).to = ap (λ (l : Link). l.peer) (sym here) ∙ same_by c.index.result.now.peer c.origin-peer.result.to c.if-ne.ensures ∙ to in
    each_sends ws b c.send.result c.kind_at.result c.args.me xs p c.send.new.self was c.requires.peers (c.place-place.ensures ∙ ap (place c.args.me) to) low peer
    (c.kind_at.ensures ∙ ap (λ (q : ℕ). kind_at ws q c.saturating_add-count.result) (to ∙ sym peer) ∙ ap (kind_at ws (get_or xs p was).peer) (c.saturating_add-count.ensures ∙ counts c.index-2.result.now.count 1 (omega arith) ∙ ap (λ (l : Link). counted_up l.count 1) here'))
    (subst (λ (a : Link). Delivers c.kind_at.result b c.send.result a c.send.new.self) c.index_mut.ensures.value c.send.ensures)

pub returns-then-place-len : goal.returns-then-place-len
returns-then-place-len c =
    let ws = c.args.weather.now in let b = c.args.frame.now in let xs = c.args.links.now.items in let p = c.place-place.result in
    let to : c.origin-peer.result.to ≡ (origin_at b).to = ap (λ o. o.to) c.origin-peer.ensures in
    each_passes ws b (Put false) c.args.me xs p c.requires.peers (c.place-place.ensures ∙ ap (place c.args.me) to)
    (λ f low same. elim c.then-place-len.branch [
      | then-place-len-via-then-place-len w ↦ omega (arith, w.if-place-len.true, c.len.ensures, low)
      | then-place-len-via-else-place-len+then-ne w ↦ (let here : w.index.result.now ≡ get_or xs p f = w.index.ensures ∙ get_or_default xs p w.index.result.now f low in
          apart_by w.index.result.now.peer c.origin-peer.result.to w.if-ne.ensures (ap (λ (l : Link). l.peer) here ∙ same ∙ sym to))
    ])
