-- The frames that lines of a weather are for, as a set.
use Rattle.std.specs.Prelude.{◌≡◌, ℕ, List}
use Rattle.std.specs.declared.cmp.Ordering.{Ordering}
use Rattle.std.specs.Ordering.{nat_cmp, ordering_then}
use Rattle.std.specs.List.{list_any}
use Rattle.std.specs.BTreeSet.{BTreeSet, contains}
use Rattle.ep_script.specs.Plan.{same_frame}
use Rattle.ep_script.specs.declared.weather_line.WeatherLine.{WeatherLine}

-- the sender, the receiver and the count
abbrev pub frame_of : WeatherLine → ℕ × ℕ × ℕ
frame_of w = (w.from, w.to, w.count)

abbrev pub frame_cmp : ℕ × ℕ × ℕ → ℕ × ℕ × ℕ → Ordering
frame_cmp x y = ordering_then (ordering_then (nat_cmp x.0 y.0) (nat_cmp x.1 y.1)) (nat_cmp x.2 y.2)

-- the set has the frame of a line exactly if one of these lines is for it
abbrev pub HasFrames : BTreeSet (ℕ × ℕ × ℕ) → List WeatherLine → Type 0
HasFrames frames lines = (w : WeatherLine) → contains frame_cmp frames (frame_of w) ≡ list_any (same_frame w) lines
