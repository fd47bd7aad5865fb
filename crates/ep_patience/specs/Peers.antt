-- What is known of the peers of a replica.
use Rattle.std.specs.Prelude.{ℕ, zero, suc, ◌+◌, Bool, false, ◌&&◌, cond, min, max, List, slice_index_or, Option, Some, None}
use Rattle.ep_base.specs.Quorums.{is_fast}
use Rattle.ep_patience.specs.Trips.{time_out}
use Rattle.ep_patience.specs.declared.peer.Peer.{Peer}
use Rattle.ep_patience.specs.declared.peers.Place.{Place}
use Rattle.ep_patience.specs.declared.trip.Trip.{Trip}
use Rattle.ep_patience.specs.declared.waits.Waits.{Waits}

-- the peer of this number, of a list with a place for each replica
abbrev pub peer_of : List Peer → ℕ → Peer
peer_of peers r = slice_index_or peers r (record { trip = None; is_reached = false })

-- is the replica one to which an own proposal goes that spares this one, so a peer but that, and reached; where the spared one is this replica itself, a peer that is reached
abbrev pub is_counted : Place → List Peer → ℕ → ℕ → Bool
is_counted place peers spared r = is_fast place.me spared r && (peer_of peers r).is_reached

-- how many below n are
abbrev pub count : Place → List Peer → ℕ → ℕ → ℕ
count place peers spared zero = 0
count place peers spared (suc n) = cond (is_counted place peers spared n) 1 0 + count place peers spared n

abbrev pub wait_of : Waits → Place → List Peer → ℕ → ℕ → ℕ
wait_of w place peers spared r = cond (is_counted place peers spared r) (time_out w (peer_of peers r).trip) 0

-- the greatest time-out of those below n, and at least the granularity
abbrev pub slowest : Waits → Place → List Peer → ℕ → ℕ → ℕ
slowest w place peers spared zero = min w.granularity w.longest
slowest w place peers spared (suc n) = max (slowest w place peers spared n) (wait_of w place peers spared n)

-- how long a message to the peer and back takes: its SRTT; 0 where it isn't reached, as nothing of it is waited for
abbrev pub trip_or : ℕ → Option Trip → ℕ
trip_or initial None = initial
trip_or initial (Some t) = t.smoothed

abbrev pub distance : Waits → Peer → ℕ
distance w peer = cond peer.is_reached (trip_or w.initial peer.trip) 0
