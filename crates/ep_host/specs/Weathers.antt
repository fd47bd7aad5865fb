-- The weather: what is to become of which frames.
use Rattle.std.specs.Prelude.{◌≡◌, ◌≢◌, ℕ, ◌<◌, ◌≤◌, ◌&&◌, Bool, true, false, eqb, cond, List, [], ◌∷◌, length, All, Option, Some, None, slice_index_or}
use Rattle.ep_base.specs.Quorums.{size}
use Rattle.ep_host.specs.declared.weather.Weather.{Weather}
use Rattle.ep_host.specs.declared.weather_kind.WeatherKind.{WeatherKind}
use Rattle.ep_host.specs.declared.weather_kind.WeatherKind.TheVariants.{Drop, Hold, Repeat}

-- what is to become of the frame for this peer that is counted as this one; none where the weather names no such frame
abbrev pub kind_at : List Weather → ℕ → ℕ → Option WeatherKind
kind_at [] peer count = None
kind_at (w ∷ ws) peer count = cond (eqb w.to peer && eqb w.count count) (Some w.kind) (kind_at ws peer count)

abbrev pub is_hold : WeatherKind → Bool
is_hold Drop = false
is_hold Hold = true
is_hold Repeat = false

-- it is a frame for the replica of this number, and to be held
abbrev pub is_held_for : ℕ → Weather → Bool
is_held_for to w = eqb w.to to && is_hold w.kind

-- those of frames that this replica puts, in order
abbrev pub own_of : ℕ → List Weather → List Weather
own_of me [] = []
own_of me (w ∷ ws) = cond (eqb w.from me) (w ∷ own_of me ws) (own_of me ws)

-- both name one frame
pub record NameOne (v w : Weather) : Type 0 where
  pub from : v.from ≡ w.from
  pub to : v.to ≡ w.to
  pub count : v.count ≡ w.count

-- a frame that a replica of the cluster in which f may fail puts for another one
pub record IsFrameIn (f : ℕ) (w : Weather) : Type 0 where
  pub from : w.from < size f
  pub to : w.to < size f
  pub apart : w.from ≢ w.to
  pub counted : 1 ≤ w.count

-- each names a frame of the cluster, and no two name one
pub record IsWeather (f : ℕ) (ws : List Weather) : Type 0 where
  pub frames : All (IsFrameIn f) ws
  pub apart : (i j : ℕ) (d : Weather) → i < j → j < length ws → NameOne (slice_index_or ws i d) (slice_index_or ws j d) → ⊥

-- the same, of frames that this replica puts
pub record IsWeatherAt (f me : ℕ) (ws : List Weather) : Type 0 where
  pub weather : IsWeather f ws
  pub own : All (λ (w : Weather). w.from ≡ me) ws
