-- A turn, with all open instances.
use Rattle.std.specs.Prelude.{◌≡◌, ◌≤◌, ◌-◌, ◌⊎◌, ℕ, Bool, true, false, ◌||◌, ◌&&◌, not, leb, ltb, cond, min, max, nat_eq, List, [], length, map, take, filter_map, slice_get, slice_set, Option, Some, None}
use Rattle.std.specs.Map.{lookup}
use Rattle.ep_base.specs.Instances.{leader_of}
use Rattle.ep_base.specs.Quorums.{size}
use Rattle.ep_patience.specs.Peers.{count, distance, peer_of, slowest}
use Rattle.ep_patience.specs.Trips.{measured}
use Rattle.ep_patience.specs.Waiting.{asked, begun, chance, hurried, later, outlook, plus, put_off, put_off_wait, remedy_at, waited_on}
use Rattle.ep_patience.specs.declared.outlook.Outlook.{Outlook}
use Rattle.ep_patience.specs.declared.patience.Patience.{Patience}
use Rattle.ep_patience.specs.declared.remedy.Remedy.{Remedy}
use Rattle.ep_patience.specs.declared.seen.Seen.{Seen}
use Rattle.ep_patience.specs.declared.waiting.Waiting.{Waiting}
use Rattle.ep_patience.specs.declared.waits.Waits.{Waits}

-- how the instance is waited for, if it is
abbrev pub waiting_for : List (ℕ × Waiting) → ℕ → Option Waiting
waiting_for all i = lookup (nat_eq i) all

abbrev pub earlier : Option ℕ → ℕ → ℕ
earlier None due = due
earlier (Some other) due = min other due

-- The replica's own time.

-- are fewer peers reached than a recovery needs
abbrev pub is_alone : Patience → Bool
is_alone p = ltb (count p.place p.peers p.place.me (size p.place.size)) p.place.size

-- how many events may be asked for in a turn
abbrev pub most_of : Patience → ℕ
most_of p = cond (is_alone p) 0 64

-- how long a recovery is waited for
abbrev pub again_of : Patience → ℕ
again_of p = slowest p.waits p.place p.peers p.place.me (size p.place.size)

-- where the first wait is over at this own time: the host's time less that in which the replica wasn't turning; but where the turn comes later than it was due, or than
-- the last one, by more than the granularity, only so much more than at the last turn, or so much less than when it was due
abbrev pub time_by : Patience → ℕ → ℕ → ℕ
time_by p now due =
    cond (leb now (plus (max (plus due p.away) p.turned) p.waits.granularity)) (now - p.away) (max (plus (p.turned - p.away) p.waits.granularity) (due - p.waits.granularity))

abbrev pub time_since : Patience → ℕ → Option ℕ → ℕ
time_since p now None = now - p.away
time_since p now (Some due) = time_by p now due

-- where nothing was due it is on time
abbrev pub time_at : Patience → ℕ → ℕ
time_at p now = cond (is_alone p) (now - p.away) (time_since p now p.first)

-- One open instance.

-- what a turn at this own time judges it by: by those to which an own proposal goes, all peers but the one that it spares
abbrev pub outlook_of : Patience → ℕ → Seen → Outlook
outlook_of p time x = outlook p.waits p.place p.peers x.spared time

-- how it is waited for as the turn comes, by how it was waited for, if it was
abbrev pub found : Patience → Outlook → Seen → Option Waiting → Waiting
found p o x None = begun o p.waits.reported (distance p.waits (peer_of p.peers (leader_of x.instance))) x (chance p.seed o.time x.instance)
found p o x (Some w) = cond p.is_hurried (hurried o w (chance p.seed o.time x.instance)) w

abbrev pub found_at : Patience → Outlook → Seen → Waiting
found_at p o x = found p o x (waiting_for p.all.entries x.instance)

-- what is to be asked for it
abbrev pub remedy_next : Patience → Outlook → Seen → Option Remedy
remedy_next p o x = remedy_at o x (found_at p o x)

-- how it is waited for after the turn, by what is to be asked for it, and whether that is asked for
abbrev pub after : Patience → Outlook → Seen → Waiting → Option Remedy → Bool → Waiting
after p o x w None room = cond (ltb o.time w.due) w (waited_on o w)
after p o x w (Some r) room = cond room (asked o p.waits.longest w (chance p.seed o.time x.instance)) w

abbrev pub waiting_next : Patience → Outlook → Bool → Seen → Waiting
waiting_next p o room x = after p o x (found_at p o x) (remedy_next p o x) room

-- the same at this own time
abbrev pub remedy_in : Patience → ℕ → Seen → Option Remedy
remedy_in p time x = remedy_next p (outlook_of p time x) x

abbrev pub waiting_in : Patience → ℕ → Bool → Seen → Waiting
waiting_in p time room x = waiting_next p (outlook_of p time x) room x

-- All of them, at this own time.

-- what is to be asked for them, in their order
abbrev pub remedies : Patience → ℕ → List Seen → List Remedy
remedies p time seen = filter_map (remedy_in p time) seen

-- is there room for what is to be asked for the one that these come before
abbrev pub has_room : Patience → ℕ → List Seen → Bool
has_room p time before = ltb (length (remedies p time before)) (most_of p)

-- the first time at which one of these waits ends
abbrev pub IsFirst : List (ℕ × Waiting) → Option ℕ → Type 0
IsFirst all None = (i : ℕ) → waiting_for all i ≡ None
IsFirst all (Some due) = ((i : ℕ) (w : Waiting) → waiting_for all i ≡ Some w → due ≤ w.due) × ((i : ℕ) × (w : Waiting) × (waiting_for all i ≡ Some w) × (w.due ≡ due))

abbrev pub instances : List Seen → List ℕ
instances seen = map (λ (x : Seen). x.instance) seen

-- the instance is one of these
abbrev pub IsOpen : List Seen → ℕ → Type 0
IsOpen seen i = (n : ℕ) × (x : Seen) × (slice_get seen n ≡ Some x) × (x.instance ≡ i)

-- A turn at an own time, at which these instances are open: what is waited for after it, when the first wait is over, and what it asks for.
pub record Turns (p : Patience) (time : ℕ) (seen : List Seen) (all : List (ℕ × Waiting)) (first : Option ℕ) (asked : List Remedy) : Type 0 where
  -- each open instance is waited for
  pub waited : (n : ℕ) (x : Seen) → slice_get seen n ≡ Some x → waiting_for all x.instance ≡ Some (waiting_in p time (has_room p time (take n seen)) x)
  -- and nothing else
  pub others : (i : ℕ) → IsOpen seen i ⊎ (waiting_for all i ≡ None)
  pub earliest : IsFirst all first
  -- what is late is asked for, up to as much as there is room for
  pub late : asked ≡ take (most_of p) (remedies p time seen)

-- A turn: the replica is as it was but for what it waits for, and for the time.
pub record HasTurned (p : Patience) (now : ℕ) (seen : List Seen) (q : Patience) (asked : List Remedy) : Type 0 where
  pub turns : Turns p (time_at p now) seen q.all.entries q.first asked
  pub same : q ≡ record p { all = q.all; first = q.first; turned = now; away = now - time_at p now; is_hurried = false }

-- What else is reported.

-- when to turn next
abbrev pub due_next : Patience → Option ℕ → Option ℕ
due_next p None = None
due_next p (Some due) = Some (cond p.is_hurried p.turned (plus due p.away))

abbrev pub next_due : Patience → Option ℕ
next_due p = cond (is_alone p) None (due_next p p.first)

-- a new one: all peers are taken to be reached, their round trips aren't known, and the last turn counts as one at 0
pub record IsNew (faults replica : ℕ) (chosen : Waits) (number : ℕ) (p : Patience) : Type 0 where
  pub place : p.place ≡ record { size = faults; me = replica }
  pub waits : p.waits ≡ chosen
  pub seed : p.seed ≡ number
  pub peers : (r : ℕ) → r ≤ 6 → peer_of p.peers r ≡ record { trip = None; is_reached = true }
  pub all : p.all.entries ≡ []
  pub first : p.first ≡ None
  pub turned : p.turned ≡ 0
  pub away : p.away ≡ 0
  pub is_hurried : p.is_hurried ≡ false

-- with what a measurement changes
abbrev pub with_measured : Patience → ℕ → ℕ → Patience
with_measured p r took = record p { peers = slice_set p.peers r (record { trip = Some (measured (peer_of p.peers r).trip took); is_reached = (peer_of p.peers r).is_reached }) }

-- with what is known of whether a peer is reached
abbrev pub with_reached : Patience → ℕ → Bool → Patience
with_reached p r is_reached = record p {
  peers = slice_set p.peers r (record { trip = (peer_of p.peers r).trip; is_reached = is_reached });
  is_hurried = p.is_hurried || (is_reached && not (peer_of p.peers r).is_reached);
}

abbrev pub with_hurry : Patience → Patience
with_hurry p = record p { is_hurried = true }

-- an instance that is waited for is put off, and nothing else changes
abbrev pub put_off_if : Patience → ℕ → ℕ → ℕ → Option Waiting → Option Waiting
put_off_if p i ballot now None = None
put_off_if p i ballot now (Some w) = Some (put_off w (later (time_at p now) (put_off_wait (again_of p) p.waits.longest ballot) (chance p.seed (time_at p now) i)))

pub record PutsOff (p : Patience) (i ballot now : ℕ) (q : Patience) : Type 0 where
  pub here : waiting_for q.all.entries i ≡ put_off_if p i ballot now (waiting_for p.all.entries i)
  pub elsewhere : (j : ℕ) → nat_eq i j ≡ false → waiting_for q.all.entries j ≡ waiting_for p.all.entries j
  pub same : q ≡ record p { all = q.all }
