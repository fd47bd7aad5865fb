-- How a replica is opened, by the status.
use Rattle.std.specs.Prelude.{◌≡◌, ◌≢◌, ◌⊎◌, ℕ, List, [], Option, Some, None, Result, Ok, Err}
use Rattle.ep_embedded.specs.Beginning.{IsBegun, IsUnbegun}
use Rattle.ep_embedded.specs.Hosting.{Hosting}
use Rattle.ep_embedded.specs.declared.seat.Seat.{Seat}
use Rattle.ep_embedded.specs.declared.start_fault.StartFault.{StartFault}
use Rattle.ep_library.specs.Arguments.{given, log_given, HasSeat, IsSeat}
use Rattle.ep_library.specs.Calls.{Stays}
use Rattle.ep_library.specs.Places.{start_place}
use Rattle.ep_library.specs.Statuses.{done, memory, out_of_range, has_replica, log_exists, none, start_status}
use Rattle.ep_library.specs.declared.place.Place.{Place}
use Rattle.ep_library.specs.declared.setup.Setup.{Setup}
use Rattle.ep_node.specs.declared.cut.Cut.{Cut}

abbrev pub Begins : Seat → Option (List ℕ) → Option (List ℕ) → Result Hosting StartFault → Type 0
Begins seat opening log (Ok h) = IsBegun seat opening log h
Begins seat opening log (Err fault) = IsUnbegun seat opening log fault

-- a log is given to a new replica
abbrev pub IsSpare : Setup → Type 0
IsSpare setup = (setup.is_new ≢ 0) × (setup.log.now ≢ [])

-- what was begun is there; or there was no memory for it; or why nothing was begun, and where
abbrev pub Seats : ℕ → Result Hosting StartFault → Place → Option Hosting → Place → Type 0
Seats status (Ok h) other new reported = (reported ≡ other) × (((status ≡ done) × (new ≡ Some h)) ⊎ ((status ≡ memory) × (new ≡ None)))
Seats status (Err fault) other new reported = (status ≡ start_status fault) × (reported ≡ start_place fault) × (new ≡ None)

-- the arguments name no replica of a cluster
abbrev pub IsSeatless : Setup → Type 0
IsSeatless setup = ¬ HasSeat setup.replicas setup.replica

abbrev pub OpensNew : ℕ → Setup → Place → Option Hosting → Place → Type 0
OpensNew status setup other new reported =
    (IsSeatless setup × Stays out_of_range status None new × (reported ≡ other))
    ⊎ ((IsSpare setup × Stays log_exists status None new × (reported ≡ other))
    ⊎ ((seat : Seat) × IsSeat setup.replicas setup.replica seat × (¬ IsSpare setup)
    × ((begun : Result Hosting StartFault) × Begins seat (given setup.opening.now) (log_given setup.is_new setup.log.now) begun × Seats status begun other new reported)))

-- there is a replica already; or one is opened
abbrev pub Opens : ℕ → Option Hosting → Setup → Place → Option Hosting → Place → Type 0
Opens status None setup other new reported = OpensNew status setup other new reported
Opens status (Some h) setup other new reported = Stays has_replica status (Some h) new × (reported ≡ other)

-- what was cut off, if anything
abbrev pub ReportsCut : ℕ → Option Cut → Place → Place → Type 0
ReportsCut status None other reported = (status ≡ none) × (reported ≡ other)
ReportsCut status (Some cut) other reported = (status ≡ done) × (reported ≡ record { at = cut.at; by = cut.behind })
