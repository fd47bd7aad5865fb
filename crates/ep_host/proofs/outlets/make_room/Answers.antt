use Rattle.std.proofs.Common.{refl, ◌∙◌}
use Rattle.ep_host.proofs.Mailing.{same_held_there}
use Rattle.ep_host.proofs.outlets.make_room.Goals as goal

pub loop-place-init : goal.loop-place-init
loop-place-init c = refl

pub returns-in_err-reserve : goal.returns-in_err-reserve
returns-in_err-reserve c = same_held_there c.loop-place.outlets c.loop-place.place c.index-outlets-place.result c.reserve.new.self c.reserve.ensures ∙ c.loop-place.invariant

pub loop-place-preserved : goal.loop-place-preserved
loop-place-preserved c = same_held_there c.loop-place.outlets c.loop-place.place c.index-outlets-place.result c.reserve.new.self c.reserve.ensures ∙ c.loop-place.invariant

pub returns : goal.returns
returns c = c.loop-place.invariant
