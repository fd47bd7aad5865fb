-- The round-trip time to a peer, by RFC 6298 (Computing TCP's Retransmission Timer), section 2. Spans are whole numbers of one unit, rounded down.
use Rattle.std.specs.Prelude.{ℕ, ◌+◌, ◌-◌, ◌*◌, ◌/◌, min, max, Option, Some, None}
use Rattle.ep_patience.specs.declared.trip.Trip.{Trip}
use Rattle.ep_patience.specs.declared.waits.Waits.{Waits}

abbrev pub difference : ℕ → ℕ → ℕ
difference a b = (a - b) + (b - a)

-- after a measurement R: SRTT = R and RTTVAR = R / 2 at the first; then RTTVAR = 3/4 RTTVAR + 1/4 |SRTT - R|, by the SRTT before, and SRTT = 7/8 SRTT + 1/8 R
abbrev pub measured : Option Trip → ℕ → Trip
measured None took = record { smoothed = took; variation = took / 2 }
measured (Some t) took = record { smoothed = (7 * t.smoothed + took) / 8; variation = (3 * t.variation + difference t.smoothed took) / 4 }

-- the time-out (RTO): SRTT + max (G, 4 RTTVAR); of a peer that was never measured the initial one; in both cases at most the longest
abbrev pub time_out : Waits → Option Trip → ℕ
time_out w None = min w.initial w.longest
time_out w (Some t) = min (t.smoothed + max w.granularity (4 * t.variation)) w.longest
