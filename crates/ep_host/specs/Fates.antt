-- What became of frames out: each was put into the ring, or the inbox, of its receiver, or is lost, or what the weather says.
use Rattle.std.specs.Prelude.{◌≡◌, ◌⊎◌, ℕ, ◌+◌, ◌^◌, ◌-◌, ⊤, eqb, zero, suc, cond, List, [], ◌∷◌, ◌++◌, Option, Some, None}
use mathlib.Core.List.{IsPrefix}
use Rattle.ep_frame.specs.Meaning.{origin_at}
use Rattle.rtrb.specs.Ring.{sent, received}
use Rattle.ep_host.specs.Pointwise.{Each}
use Rattle.ep_host.specs.Rings.{KeepsLink}
use Rattle.ep_host.specs.Sent.{IsCopied}
use Rattle.ep_host.specs.Tasks.{next}
use Rattle.ep_host.specs.Weathers.{kind_at}
use Rattle.ep_host.specs.declared.delivery.Delivery.{Delivery}
use Rattle.ep_host.specs.declared.delivery.Delivery.TheVariants.{Put, Short, Dropped, Held, Repeated}
use Rattle.ep_host.specs.declared.link.Link.{Link}
use Rattle.ep_host.specs.declared.weather.Weather.{Weather}
use Rattle.ep_host.specs.declared.weather_kind.WeatherKind.{WeatherKind}
use Rattle.ep_host.specs.declared.weather_kind.WeatherKind.TheVariants as kind

pub record Fate : Type 0 where
  pub frame : List ℕ
  pub delivery : Delivery

abbrev pub fate : List ℕ → Delivery → Fate
fate b delivery = record { frame = b; delivery = delivery }

abbrev pub frames_in : List Fate → List (List ℕ)
frames_in [] = []
frames_in (f ∷ fs) = f.frame ∷ frames_in fs

-- the frame, as often as it was put
abbrev pub put_of : List ℕ → Delivery → List (List ℕ)
put_of b (Put put) = cond put (b ∷ []) []
put_of b Short = []
put_of b Dropped = []
put_of b Held = []
put_of b (Repeated first second) = cond first (b ∷ []) [] ++ cond second (b ∷ []) []

-- the frame, if it is held
abbrev pub held_of : List ℕ → Delivery → List (List ℕ)
held_of b (Put put) = []
held_of b Short = []
held_of b Dropped = []
held_of b Held = b ∷ []
held_of b (Repeated first second) = []

-- how many of it are lost
abbrev pub lost_of : Delivery → ℕ
lost_of (Put put) = cond put 0 1
lost_of Short = 1
lost_of Dropped = 0
lost_of Held = 0
lost_of (Repeated first second) = cond first 0 1 + cond second 0 1

-- whether it counts among the frames for its peer: 1 or 0
abbrev pub count_of : Delivery → ℕ
count_of (Put put) = 1
count_of Short = 0
count_of Dropped = 1
count_of Held = 1
count_of (Repeated first second) = 1

-- what the weather has said; of a frame for which there was no memory, this says nothing
abbrev pub kind_of : Delivery → Option WeatherKind
kind_of (Put put) = None
kind_of Short = None
kind_of Dropped = Some kind.Drop
kind_of Held = Some kind.Hold
kind_of (Repeated first second) = Some kind.Repeat

-- those to one receiver that were put, in order
abbrev pub put_for : ℕ → List Fate → List (List ℕ)
put_for peer [] = []
put_for peer (f ∷ fs) = cond (eqb (origin_at f.frame).to peer) (put_of f.frame f.delivery) [] ++ put_for peer fs

-- those to one receiver that are held, in order
abbrev pub held_for : ℕ → List Fate → List (List ℕ)
held_for peer [] = []
held_for peer (f ∷ fs) = cond (eqb (origin_at f.frame).to peer) (held_of f.frame f.delivery) [] ++ held_for peer fs

-- how many to one receiver count
abbrev pub counted_for : ℕ → List Fate → ℕ
counted_for peer [] = 0
counted_for peer (f ∷ fs) = cond (eqb (origin_at f.frame).to peer) (count_of f.delivery) 0 + counted_for peer fs

-- how many are lost
abbrev pub lost_in : List Fate → ℕ
lost_in [] = 0
lost_in (f ∷ fs) = lost_of f.delivery + lost_in fs

-- so many more: counted up to 2^64 - 1
abbrev pub counted_up : ℕ → ℕ → ℕ
counted_up n zero = n
counted_up n (suc more) = next (2 ^ 64 - 1) (counted_up n more)

-- the weather's word was kept, or there was no memory for the frame
abbrev pub Keeps : Option WeatherKind → Delivery → Type 0
Keeps kind delivery = (delivery ≡ Short) ⊎ (kind_of delivery ≡ kind)

-- each frame to this peer met what the weather says of its count, so many having been counted before
abbrev pub Obeys : List Weather → ℕ → ℕ → List Fate → Type 0
Obeys ws peer count [] = ⊤
Obeys ws peer count (f ∷ fs) =
    ((origin_at f.frame).to ≡ peer → Keeps (kind_at ws peer (next (2 ^ 64 - 1) count)) f.delivery)
    × Obeys ws peer (counted_up count (cond (eqb (origin_at f.frame).to peer) (count_of f.delivery) 0)) fs

-- what a link does with a frame for its peer, of which the weather says this
pub record Delivers (kind : Option WeatherKind) (b : List ℕ) (delivery : Delivery) (a c : Link) : Type 0 where
  pub keeps : KeepsLink a c
  pub put : sent c.to ≡ sent a.to ++ put_of b delivery
  pub taken : received c.from ≡ received a.from
  pub held : c.held ≡ a.held ++ held_of b delivery
  pub count : c.count ≡ counted_up a.count (count_of delivery)
  pub word : Keeps kind delivery

-- the held frames were put, in order, less so many that are lost
pub record Releases (missed : ℕ) (a b : Link) : Type 0 where
  pub keeps : KeepsLink a b
  pub released : List (List ℕ)
  pub copied : IsCopied a.held released missed
  pub put : sent b.to ≡ sent a.to ++ released
  pub taken : received b.from ≡ received a.from
  pub held : b.held ≡ []
  pub count : b.count ≡ a.count

-- a link through which these frames went in this weather, and none was taken
pub record Sends (ws : List Weather) (fates : List Fate) (a b : Link) : Type 0 where
  pub keeps : KeepsLink a b
  pub put : sent b.to ≡ sent a.to ++ put_for a.peer fates
  pub taken : received b.from ≡ received a.from
  pub held : b.held ≡ a.held ++ held_for a.peer fates
  pub count : b.count ≡ counted_up a.count (counted_for a.peer fates)
  pub obeys : Obeys ws a.peer a.count fates

-- of these frames out, in order, each was put, put twice, dropped, held or lost; so many are lost
pub record IsSent (ws : List Weather) (out : List (List ℕ)) (missed : ℕ) (before after : List Link) : Type 0 where
  pub fates : List Fate
  pub frames : frames_in fates ≡ out
  pub lost : missed ≡ lost_in fates
  pub rings : Each (Sends ws fates) before after

-- the same, and more may have been taken
pub record Carries (ws : List Weather) (fates : List Fate) (a b : Link) : Type 0 where
  pub keeps : KeepsLink a b
  pub put : sent b.to ≡ sent a.to ++ put_for a.peer fates
  pub taken : IsPrefix (received a.from) (received b.from)
  pub held : b.held ≡ a.held ++ held_for a.peer fates
  pub count : b.count ≡ counted_up a.count (counted_for a.peer fates)
  pub obeys : Obeys ws a.peer a.count fates
