use Rattle.std.proofs.Common.{refl, ◌∙◌}
use Rattle.ep_host.proofs.Releasing.{same_held}
use Rattle.ep_host.proofs.setting.make_room.Goals as goal

pub loop-place-init : goal.loop-place-init
loop-place-init c = refl

pub returns-in_err-reserve : goal.returns-in_err-reserve
returns-in_err-reserve c = same_held c.loop-place.links c.loop-place.place c.index-links-place-in-loop-place.result c.reserve.new.self c.reserve.ensures ∙ c.loop-place.invariant

pub loop-place-preserved : goal.loop-place-preserved
loop-place-preserved c = same_held c.loop-place.links c.loop-place.place c.index-links-place-in-loop-place.result c.reserve.new.self c.reserve.ensures ∙ c.loop-place.invariant

pub returns : goal.returns
returns c = c.loop-place.invariant
