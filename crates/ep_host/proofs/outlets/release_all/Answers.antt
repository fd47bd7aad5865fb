use Rattle.std.proofs.Common.{arith, ◌≡◌, ◌+◌, ◌<◌, ℕ, length, set, subst, sym, ◌∙◌}
use Rattle.ep_host.specs.Outboxes.{LetsGo}
use Rattle.ep_host.specs.Setting.{total}
use Rattle.ep_host.proofs.Following.{counts}
use Rattle.ep_host.proofs.Losing.{LosesFirst, loses_none, loses_more, loses_all}
use Rattle.ep_host.proofs.outlets.release_all.Goals as goal

pub loop-place-init : goal.loop-place-init
loop-place-init g c = loses_none LetsGo c.args.lost c.args.outlets.now

pub loop-place-preserved : goal.loop-place-preserved
loop-place-preserved g c =
    let outlets = c.loop-place.outlets in let place = c.loop-place.place in let y = c.release.new.self in let m = c.release.result in
    let e = counts c.args.lost (total c.loop-place.invariant.missed) (omega arith) in
    let low : c.loop-place.lost < 18446744073709551616 = omega (arith, e, c.loop-place.invariant.counted) in
    subst (λ (n : ℕ). LosesFirst LetsGo (place + 1) c.args.lost n c.args.outlets.now (set outlets place y)) (sym (c.saturating_add-lost.ensures ∙ counts c.loop-place.lost m low))
    (loses_more LetsGo place c.args.lost c.loop-place.lost m c.args.outlets.now outlets c.index-outlets-place.result y c.loop-place-test.true c.loop-place.invariant c.release.ensures)

pub returns : goal.returns
returns g c = let at : c.loop-place.place ≡ length c.args.outlets.now = omega (arith, c.loop-place-test.false, c.loop-place.auto.place-end) in
    loses_all LetsGo c.loop-place.place c.args.lost c.loop-place.lost c.args.outlets.now c.loop-place.outlets at c.loop-place.invariant
