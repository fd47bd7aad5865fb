-- The weather of a section, as a host takes it.
use Rattle.std.specs.Prelude.{◌≡◌, List, [], ◌∷◌}
use Rattle.ep_host.specs.Node.{Node}
use Rattle.ep_host.specs.Setting.{SetsWeather}
use Rattle.ep_host.specs.Weathers.{own_of}
use Rattle.ep_host.specs.declared.weather.Weather.{Weather}
use Rattle.ep_host.specs.declared.weather_kind.WeatherKind.{WeatherKind as HostKind}
use Rattle.ep_host.specs.declared.weather_kind.WeatherKind.TheVariants as host
use Rattle.ep_script.specs.declared.weather_word.WeatherWord.{WeatherWord}
use Rattle.ep_script.specs.declared.weather_word.WeatherWord.TheVariants.{Drop, Hold, Repeat}
use Rattle.ep_script.specs.declared.weather_line.WeatherLine.{WeatherLine}

abbrev pub kind_of : WeatherWord → HostKind
kind_of Drop = host.Drop
kind_of Hold = host.Hold
kind_of Repeat = host.Repeat

abbrev pub weather_of : WeatherLine → Weather
weather_of l = record { from = l.from; to = l.to; count = l.count; kind = kind_of l.kind }

-- what the lines say, in order
abbrev pub weather_in : List WeatherLine → List Weather
weather_in [] = []
weather_in (l ∷ ls) = weather_of l ∷ weather_in ls

-- the node's weather is its own of this from now on, and frames are counted anew
abbrev pub SetsOwn : List Weather → Node → Node → Type 0
SetsOwn ws a b = SetsWeather (own_of a.replica.me ws) a b

-- the node's weather is its own of this
abbrev pub HasOwn : List Weather → Node → Type 0
HasOwn ws n = n.weather ≡ own_of n.replica.me ws
