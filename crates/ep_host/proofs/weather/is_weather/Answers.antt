use Rattle.std.proofs.Common.{refl}
use Rattle.ep_host.proofs.Naming.{checked_none, checked_more, checked_all, no_frame, named_twice}
use Rattle.ep_host.proofs.weather.is_weather.Goals as goal
use Rattle.ep_host.proofs.weather.is_weather.Goals.{then-not-is_frame_in-via-then-not-is_frame_in, then-not-is_frame_in-via-else-not-is_frame_in+then-is_named}

pub loop-place-init : goal.loop-place-init
loop-place-init c = checked_none c.args.cluster c.args.weather.now

pub returns-then-not-is_frame_in-clause-no : goal.returns-then-not-is_frame_in-clause-no
returns-then-not-is_frame_in-clause-no c = let w = c.index-weather-place.result in λ is.
    elim c.then-not-is_frame_in.branch [
      | then-not-is_frame_in-via-then-not-is_frame_in b ↦ no_frame c.args.cluster c.args.weather.now c.loop-place.place w c.loop-place-test.true c.index-weather-place.is (b.if-not-is_frame_in.ensures.no refl)
      | then-not-is_frame_in-via-else-not-is_frame_in+then-is_named b ↦ named_twice c.args.cluster c.args.weather.now c.loop-place.place w c.loop-place-test.true c.index-weather-place.is (b.if-is_named.ensures.yes refl)
    ]

pub loop-place-preserved : goal.loop-place-preserved
loop-place-preserved c = checked_more c.args.cluster c.args.weather.now c.loop-place.place c.index-weather-place.result c.loop-place-test.true c.index-weather-place.is c.loop-place.invariant
    (c.if-not-is_frame_in.ensures.yes refl) (c.if-is_named.ensures.no refl)

pub returns-clause-yes : goal.returns-clause-yes
returns-clause-yes c = λ is. checked_all c.args.cluster c.args.weather.now c.loop-place.place c.loop-place-test.false c.loop-place.invariant
