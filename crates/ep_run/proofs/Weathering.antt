-- The weather of a section is one for its host, each replica's own of it is one for its node, and so it is set.
use Rattle.std.proofs.Common.{◌≡◌, ℕ, zero, suc, ◌+◌, ◌<◌, eqb, cond, Bool, true, false, List, [], ◌∷◌, ◌++◌, length, take, get_or, refl, sym, ap, ◌∙◌, subst, arith, All, eqb-true}
use Rattle.std.specs.List.{IsDistinct, AllByRecursion}
use Rattle.std.proofs.lemmas.Bool.Decides.{nat_tests}
use Rattle.std.proofs.lemmas.List.{take_more, get_or_default}
use Rattle.std.proofs.lemmas.List.Elements.{All-nil, All-cons, All-head, All-tail}
use Rattle.std.proofs.lemmas.Map.Keys.{IsDistinct-head, IsDistinct-tail}
use Rattle.ep_base.specs.Quorums.{size}
use Rattle.ep_host.specs.Host.{IsHost}
use Rattle.ep_host.specs.Node.{Node}
use Rattle.ep_host.specs.Setting.{IsUnset, SetsWeather, SetsWeatherAt}
use Rattle.ep_host.specs.Weathers.{NameOne, IsFrameIn, IsWeather, IsWeatherAt, own_of}
use Rattle.ep_host.specs.declared.weather.Weather.{Weather}
use Rattle.ep_host.specs.declared.host_fault.HostFault.{HostFault}
use Rattle.ep_host.specs.declared.host_fault.HostFault.TheVariants.{Memory, OutOfRange, Replica}
use Rattle.ep_host.proofs.Places.{Firsts, firsts_more}
use Rattle.ep_script.specs.Fits.{FitsWeather, FitsSection}
use Rattle.ep_script.specs.Plan.{SectionPlan, same_frame}
use Rattle.ep_script.specs.declared.weather_line.WeatherLine.{WeatherLine}
use Rattle.ep_run.specs.Weathers.{weather_of, weather_in, SetsOwn}
use Rattle.ep_run.proofs.Running.{blank}

-- one line more

in_both : (xs ys : List WeatherLine) → weather_in (xs ++ ys) ≡ weather_in xs ++ weather_in ys
in_both [] ys = refl
in_both (x ∷ xs) ys = ap (λ (l : List Weather). weather_of x ∷ l) (in_both xs ys)

pub line_more : (ls : List WeatherLine) (i : ℕ) (l : WeatherLine) → i < length ls → l ≡ get_or ls i l → weather_in (take (i + 1) ls) ≡ weather_in (take i ls) ++ weather_of l ∷ []
line_more ls i l low is =
    ap weather_in (take_more ls i l low) ∙ in_both (take i ls) (get_or ls i l ∷ []) ∙ ap (λ (k : WeatherLine). weather_in (take i ls) ++ weather_of k ∷ []) (sym is)

-- a weather's first frame, and the others

weather_none : (f : ℕ) → IsWeather f []
weather_none f = record { frames = All-nil (IsFrameIn f); apart = λ i j d less low. absurd (omega arith) }

weather_rest : (f : ℕ) (w : Weather) (ws : List Weather) → IsWeather f (w ∷ ws) → IsWeather f ws
weather_rest f w ws h = record { frames = All-tail (IsFrameIn f) w ws h.frames; apart = λ i j d less low. h.apart (suc i) (suc j) d (omega arith) (omega arith) }

weather_apart : (f : ℕ) (w : Weather) (ws : List Weather) → IsWeather f (w ∷ ws) → All (λ (v : Weather). NameOne w v → ⊥) ws
weather_apart f w ws h = λ j d low. h.apart 0 (suc j) d (omega arith) (omega arith)

weather_more : (f : ℕ) (w : Weather) (ws : List Weather) → IsFrameIn f w → All (λ (v : Weather). NameOne w v → ⊥) ws → IsWeather f ws → IsWeather f (w ∷ ws)
weather_more f w ws frame apart h = record { frames = All-cons (IsFrameIn f) w ws frame h.frames; apart = go }
  where
    go : (i j : ℕ) (d : Weather) → i < j → j < length (w ∷ ws) → NameOne (get_or (w ∷ ws) i d) (get_or (w ∷ ws) j d) → ⊥
    go i zero d less low = absurd (omega arith)
    go zero (suc j) d less low = apart j d (omega arith)
    go (suc i) (suc j) d less low = h.apart i j d (omega arith) (omega arith)

-- the lines of a section are a weather

frame_in : (f : ℕ) (l : WeatherLine) → FitsWeather (size f) l → IsFrameIn f (weather_of l)
frame_in f l h = record { from = h.from_below; to = h.to_below; apart = h.between_two; counted = h.counted }

not_one : (l m : WeatherLine) → same_frame l m ≡ false → NameOne (weather_of l) (weather_of m) → ⊥
not_one l m other one =
    let from : l.from ≡ m.from = one.from in
    let to : l.to ≡ m.to = one.to in
    let count : l.count ≡ m.count = one.count in grind (arith, nat_tests, from, to, count, other)

lines_apart : (l : WeatherLine) (ls : List WeatherLine) → AllByRecursion (λ (m : WeatherLine). same_frame l m ≡ false) ls → All (λ (v : Weather). NameOne (weather_of l) v → ⊥) (weather_in ls)
lines_apart l [] h = All-nil (λ (v : Weather). NameOne (weather_of l) v → ⊥)
lines_apart l (m ∷ ms) h = All-cons (λ (v : Weather). NameOne (weather_of l) v → ⊥) (weather_of m) (weather_in ms) (not_one l m h.0) (lines_apart l ms h.1)

lines_weather : (f : ℕ) (ls : List WeatherLine) → All (FitsWeather (size f)) ls → IsDistinct same_frame ls → IsWeather f (weather_in ls)
lines_weather f [] fits apart = weather_none f
lines_weather f (l ∷ ls) fits apart =
    weather_more f (weather_of l) (weather_in ls) (frame_in f l (All-head (FitsWeather (size f)) l ls fits)) (lines_apart l ls (IsDistinct-head same_frame l ls apart))
    (lines_weather f ls (All-tail (FitsWeather (size f)) l ls fits) (IsDistinct-tail same_frame l ls apart))

pub section_weather : (f : ℕ) (s : SectionPlan) → FitsSection (size f) s → IsWeather f (weather_in s.weather)
section_weather f s h = lines_weather f s.weather h.weather h.distinct

-- a replica's own of a weather is one

own_all : (r : ℕ) (P : Weather → Type 0) (ws : List Weather) → All P ws → All P (own_of r ws)
own_all r P [] h = h
own_all r P (w ∷ ws) h = go (eqb w.from r) (own_all r P ws (All-tail P w ws h))
  where
    go : (b : Bool) → All P (own_of r ws) → All P (cond b (w ∷ own_of r ws) (own_of r ws))
    go true rest = All-cons P w (own_of r ws) (All-head P w ws h) rest
    go false rest = rest

own_from : (r : ℕ) (ws : List Weather) → All (λ (w : Weather). w.from ≡ r) (own_of r ws)
own_from r [] = All-nil (λ (w : Weather). w.from ≡ r)
own_from r (w ∷ ws) = go (eqb w.from r) refl (own_from r ws)
  where
    go : (b : Bool) → eqb w.from r ≡ b → All (λ (v : Weather). v.from ≡ r) (own_of r ws) → All (λ (v : Weather). v.from ≡ r) (cond b (w ∷ own_of r ws) (own_of r ws))
    go true e rest = All-cons (λ (v : Weather). v.from ≡ r) w (own_of r ws) (eqb-true w.from r e) rest
    go false e rest = rest

own_weather : (f r : ℕ) (ws : List Weather) → IsWeather f ws → IsWeather f (own_of r ws)
own_weather f r [] h = h
own_weather f r (w ∷ ws) h = go (eqb w.from r) (own_weather f r ws (weather_rest f w ws h))
  where
    go : (b : Bool) → IsWeather f (own_of r ws) → IsWeather f (cond b (w ∷ own_of r ws) (own_of r ws))
    go true rest = weather_more f w (own_of r ws) (All-head (IsFrameIn f) w ws h.frames) (own_all r (λ (v : Weather). NameOne w v → ⊥) ws (weather_apart f w ws h)) rest
    go false rest = rest

pub own_is : (f r : ℕ) (ws : List Weather) → IsWeather f ws → IsWeatherAt f r (own_of r ws)
own_is f r ws h = record { weather = own_weather f r ws h; own = own_from r ws }

-- setting it is refused only when out of memory

pub memory_alone : (P : Type 0) (fault : HostFault) → P → IsUnset P fault → fault ≡ Memory
memory_alone P Memory it unset = refl
memory_alone P OutOfRange it unset = absurd (unset it)
memory_alone P (Replica fault) it unset = absurd unset

pub only_memory :
    (f place : ℕ) (nodes : List Node) (ws own : List Weather) (fault : HostFault) → IsHost f nodes → place < length nodes → IsWeather f ws → own ≡ own_of place ws →
    IsUnset (IsWeatherAt (get_or nodes place blank).replica.faults (get_or nodes place blank).replica.me own) fault → fault ≡ Memory
only_memory f place nodes ws own fault host low is same unset =
    let n : Node = get_or nodes place blank in
    let mine : IsWeatherAt f place own = subst (IsWeatherAt f place) (sym same) (own_is f place ws is) in
    let there : IsWeatherAt n.replica.faults n.replica.me own =
    subst (λ (g : ℕ). IsWeatherAt g n.replica.me own) (sym (host.faults place blank low)) (subst (λ (r : ℕ). IsWeatherAt f r own) (sym (host.me place blank low)) mine) in
    memory_alone (IsWeatherAt n.replica.faults n.replica.me own) fault there unset

-- one node more
pub set_more :
    (f : ℕ) (ws : List Weather) (place : ℕ) (xs ys zs : List Node) → place < length xs → IsHost f ys → Firsts (SetsOwn ws) place xs ys → SetsWeatherAt place (own_of place ws) ys zs → Firsts (SetsOwn ws) (place + 1) xs zs
set_more f ws place xs ys zs low host h sets =
    let low' : place < length ys = omega (arith, h.len, low) in
    let was : Node = get_or ys place blank in
    let own : SetsOwn ws was sets.node = subst (λ (r : ℕ). SetsWeather (own_of r ws) was sets.node) (sym (host.me place blank low')) (sets.sets blank) in
    subst (Firsts (SetsOwn ws) (place + 1) xs) (sym sets.is) (firsts_more (SetsOwn ws) (SetsOwn ws) place xs ys was sets.node (λ a b k. k) low h (get_or_default ys place blank was low') own)
