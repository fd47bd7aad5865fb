use Rattle.std.proofs.Common.{arith, ◌≡◌, ◌<◌, ◌∙◌, ℕ, length, sym, ap, subst, get_or}
use Rattle.std.proofs.lemmas.List.{get_or_default}
use Rattle.ep_frame.specs.Meaning.{origin_at}
use Rattle.ep_host.specs.Fates.{counted_up}
use Rattle.ep_host.specs.Outboxes.{Posts}
use Rattle.ep_host.specs.Weathers.{kind_at}
use Rattle.ep_host.specs.declared.outlet.Outlet.{Outlet}
use Rattle.ep_host.proofs.Following.{counts}
use Rattle.ep_host.proofs.Mailing.{passes_at}
use Rattle.ep_host.proofs.outlets.deliver.Goals as goal

pub returns-clause-outlets : goal.returns-clause-outlets
returns-clause-outlets g c =
    let ws = c.args.weather.now in let b = c.args.frame in let xs = c.args.outlets.now.items in let p = c.index-place.result in let was : Outlet = c.index_mut.result.now in
    let low : p < length xs = omega (arith, c.if-place-len.false, c.len.ensures) in
    let to : p ≡ (origin_at b).to = c.index-place.ensures.value ∙ ap (λ o. o.to) c.origin-to.ensures in
    let here : c.index.result.now ≡ get_or xs p was = c.index.ensures ∙ get_or_default xs p c.index.result.now was low in
    passes_at ws b c.send.result c.kind_at.result xs p c.send.new.self was to low
    (c.kind_at.ensures ∙ ap (λ (q : ℕ). kind_at ws q c.saturating_add-count.result) (sym c.index-place.ensures.value) ∙ ap (kind_at ws p) (c.saturating_add-count.ensures ∙ counts c.index.result.now.count 1 (omega arith) ∙ ap (λ (o : Outlet). counted_up o.count 1) here))
    (subst (λ (a : Outlet). Posts c.kind_at.result b c.send.result a c.send.new.self) c.index_mut.ensures.value c.send.ensures)
