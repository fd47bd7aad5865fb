use Rattle.std.proofs.Common.{arith, ◌≡◌, ◌+◌, ◌<◌, ℕ, length, set, subst, sym, ◌∙◌}
use Rattle.ep_host.specs.Fates.{Releases}
use Rattle.ep_host.specs.Setting.{total}
use Rattle.ep_host.proofs.Following.{counts}
use Rattle.ep_host.proofs.Losing.{LosesFirst, loses_none, loses_more, loses_all}
use Rattle.ep_host.proofs.setting.release_all.Goals as goal

pub loop-place-init : goal.loop-place-init
loop-place-init c = loses_none Releases c.args.lost c.args.links.now

pub loop-place-preserved : goal.loop-place-preserved
loop-place-preserved c =
    let links = c.loop-place.links in let place = c.loop-place.place in let y = c.release.new.self in let m = c.release.result in
    let e = counts c.args.lost (total c.loop-place.invariant.missed) (omega arith) in
    let low : c.loop-place.lost < 18446744073709551616 = omega (arith, e, c.loop-place.invariant.counted) in
    subst (λ (n : ℕ). LosesFirst Releases (place + 1) c.args.lost n c.args.links.now (set links place y)) (sym (c.saturating_add-lost.ensures ∙ counts c.loop-place.lost m low))
    (loses_more Releases place c.args.lost c.loop-place.lost m c.args.links.now links c.index-links-place.result y c.loop-place-test.true c.loop-place.invariant c.release.ensures)

pub returns : goal.returns
returns c = let at : c.loop-place.place ≡ length c.args.links.now = omega (arith, c.loop-place-test.false, c.loop-place.auto.place-end) in
    loses_all Releases c.loop-place.place c.args.lost c.loop-place.lost c.args.links.now c.loop-place.links at c.loop-place.invariant
