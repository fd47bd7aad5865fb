-- What a replica behind its lock sends and receives by: its weather, and for each replica of the cluster a port to its inbox, how many frames are counted, and which are held.
-- Other threads put into the same inboxes and take from them; what this replica puts and takes its own ports know.
use Rattle.std.specs.Prelude.{◌≡◌, ℕ, ◌+◌, ◌<◌, ◌≤◌, Bool, false, List, [], ◌∷◌, ◌++◌, cond, All, length, slice_index_or, Option, option_to_list}
use Rattle.ep_frame.specs.Meaning.{origin_at}
use Rattle.ep_host.specs.Fates.{Fate, frames_in, put_of, held_of, count_of, put_for, held_for, counted_for, lost_in, counted_up, Keeps, Obeys}
use Rattle.ep_host.specs.Pointwise.{Each, EachAt}
use Rattle.ep_host.specs.Sent.{IsCopied}
use Rattle.ep_host.specs.Setting.{LosesAll}
use Rattle.ep_host.specs.Weathers.{own_of}
use Rattle.ep_host.specs.Ports.{put_by, taken_by, inbox_capacity, LeadTogether}
use Rattle.ep_host.specs.declared.port.Port.{Port}
use Rattle.ep_host.specs.declared.delivery.Delivery.{Delivery}
use Rattle.ep_host.specs.declared.delivery.Delivery.TheVariants.{Put}
use Rattle.ep_host.specs.declared.outlet.Outlet.{Outlet}
use Rattle.ep_host.specs.declared.weather.Weather.{Weather}
use Rattle.ep_host.specs.declared.weather_kind.WeatherKind.{WeatherKind}

-- a replica's number and weather, its outlets by the receivers' numbers, the port by which it receives, and how many frames are lost
pub record Outbox : Type 0 where
  pub me : ℕ
  pub weather : List Weather
  pub outlets : List Outlet
  pub inbox : Port (List ℕ)
  pub lost : ℕ

-- a port to an inbox for so many frames, by which nothing was put or taken
pub record IsOpen (capacity : ℕ) (port : Port (List ℕ)) : Type 0 where
  pub room : inbox_capacity port ≡ capacity
  pub put : put_by port ≡ []
  pub taken : taken_by port ≡ []

-- a port to the inbox of that one, by which nothing was put or taken
pub record IsNewPort (inbox port : Port (List ℕ)) : Type 0 where
  pub leads : LeadTogether inbox port
  pub put : put_by port ≡ []
  pub taken : taken_by port ≡ []

-- no frame is counted or held
pub record IsNewOutlet (inbox : Port (List ℕ)) (o : Outlet) : Type 0 where
  pub port : IsNewPort inbox o.port
  pub count : o.count ≡ 0
  pub held : o.held ≡ []

-- one for each of these inboxes, in order
pub record AreNew (inboxes : List (Port (List ℕ))) (outlets : List Outlet) : Type 0 where
  pub len : length outlets ≡ length inboxes
  pub at : (k : ℕ) (i : Port (List ℕ)) (o : Outlet) → k < length inboxes → IsNewOutlet (slice_index_or inboxes k i) (slice_index_or outlets k o)

-- the outbox of the replica with this number, of which these are the inboxes of the cluster
pub record IsNewOutbox (inboxes : List (Port (List ℕ))) (me : ℕ) (a : Outbox) : Type 0 where
  pub me_is : a.me ≡ me
  pub weather : a.weather ≡ []
  pub outlets : AreNew inboxes a.outlets
  pub inbox : (i : Port (List ℕ)) → IsNewPort (slice_index_or inboxes me i) a.inbox
  pub lost : a.lost ≡ 0

-- each held frame is in the outlet of its receiver
abbrev pub AreAddressed : List Outlet → Type 0
AreAddressed outlets = (k : ℕ) (d : Outlet) → k < length outlets → All (λ (b : List ℕ). (origin_at b).to ≡ k) (slice_index_or outlets k d).held

-- Sending.

-- the same way to the same inbox, from which it took nothing
pub record KeepsPort (a c : Outlet) : Type 0 where
  pub leads : LeadTogether a.port c.port
  pub taken : taken_by c.port ≡ taken_by a.port

-- the frame was put into the inbox, at the back, or wasn't
pub record PutsIn (b : List ℕ) (put : Bool) (a c : Outlet) : Type 0 where
  pub keeps : KeepsPort a c
  pub put_is : put_by c.port ≡ put_by a.port ++ cond put (b ∷ []) []
  pub held : c.held ≡ a.held
  pub count : c.count ≡ a.count

-- what an outlet does with a frame for its replica, of which the weather says this
pub record Posts (kind : Option WeatherKind) (b : List ℕ) (delivery : Delivery) (a c : Outlet) : Type 0 where
  pub keeps : KeepsPort a c
  pub put : put_by c.port ≡ put_by a.port ++ put_of b delivery
  pub held : c.held ≡ a.held ++ held_of b delivery
  pub count : c.count ≡ counted_up a.count (count_of delivery)
  pub word : Keeps kind delivery

-- the outlet of the replica with this number, through which these frames went in this weather
pub record Passes (ws : List Weather) (fates : List Fate) (to : ℕ) (a c : Outlet) : Type 0 where
  pub keeps : KeepsPort a c
  pub put : put_by c.port ≡ put_by a.port ++ put_for to fates
  pub held : c.held ≡ a.held ++ held_for to fates
  pub count : c.count ≡ counted_up a.count (counted_for to fates)
  pub obeys : Obeys ws to a.count fates

-- a frame for a replica that has no outlet is lost
abbrev pub IsLostPast : ℕ → Fate → Type 0
IsLostPast count f = count ≤ (origin_at f.frame).to → f.delivery ≡ Put false

-- this became of frames, in order, and so many more are lost
pub record Mails (fates : List Fate) (more : ℕ) (a b : Outbox) : Type 0 where
  pub is : b ≡ record a { outlets = b.outlets; lost = b.lost }
  pub outlets : EachAt (Passes a.weather fates) a.outlets b.outlets
  pub strays : All (IsLostPast (length a.outlets)) fates
  pub lost : b.lost ≡ counted_up a.lost (lost_in fates + more)

-- of these frames, in order, each was put, put twice, dropped, held or lost, and so many more are lost
pub record IsMailed (out : List (List ℕ)) (more : ℕ) (a b : Outbox) : Type 0 where
  pub fates : List Fate
  pub frames : frames_in fates ≡ out
  pub mails : Mails fates more a b

-- Setting, and letting go.

-- frames are counted anew, from none
abbrev pub CountsFromNone : Outlet → Outlet → Type 0
CountsFromNone a b = b ≡ record a { count = 0 }

-- the replica's own part of this list is its weather now, and frames are counted anew; what is held stays held
pub record SetsOwn (ws : List Weather) (a b : Outbox) : Type 0 where
  pub outlets : List Outlet
  pub counts : Each CountsFromNone a.outlets outlets
  pub is : b ≡ record a { outlets = outlets; weather = own_of a.me ws }

-- the held frames were put, in order, less so many that are lost
pub record LetsGo (missed : ℕ) (a b : Outlet) : Type 0 where
  pub keeps : KeepsPort a b
  pub released : List (List ℕ)
  pub copied : IsCopied a.held released missed
  pub put : put_by b.port ≡ put_by a.port ++ released
  pub held : b.held ≡ []
  pub count : b.count ≡ a.count

-- the same of each outlet, and what is lost is counted
pub record IsLetGo (a b : Outbox) : Type 0 where
  pub outlets : LosesAll LetsGo a.lost b.lost a.outlets b.outlets
  pub is : b ≡ record a { outlets = b.outlets; lost = b.lost }

-- Receiving.

-- the frame, if there is one, was taken from the front of the replica's own inbox
pub record Receives (frame : Option (List ℕ)) (a b : Outbox) : Type 0 where
  pub is : b ≡ record a { inbox = b.inbox }
  pub leads : LeadTogether a.inbox b.inbox
  pub put : put_by b.inbox ≡ put_by a.inbox
  pub taken : taken_by b.inbox ≡ taken_by a.inbox ++ option_to_list frame
