-- How a replica is opened whose log names a reference.
use Rattle.std.specs.Prelude.{◌≡◌, ◌⊎◌, ℕ, List, Option, Some, None, Result, Ok, Err}
use Rattle.ep_embedded.specs.Bound.{IsBegunBound, IsUnbegunBound}
use Rattle.ep_embedded.specs.Hosting.{Hosting}
use Rattle.ep_embedded.specs.declared.heir.Heir.{Heir}
use Rattle.ep_embedded.specs.declared.start_fault.StartFault.{StartFault}
use Rattle.ep_library.specs.Arguments.{log_given}
use Rattle.ep_library.specs.Calls.{Stays}
use Rattle.ep_library.specs.Opening.{Seats}
use Rattle.ep_library.specs.Statuses.{out_of_range, has_replica, log_exists}
use Rattle.ep_library.specs.Succeeding.{HasHeir, IsHeir, IsSpareLog}
use Rattle.ep_library.specs.declared.place.Place.{Place}
use Rattle.ep_library.specs.declared.succession.Succession.{Succession}

abbrev pub BeginsBound : Heir → List ℕ → Option (List ℕ) → Result Hosting StartFault → Type 0
BeginsBound heir opening log (Ok h) = IsBegunBound heir opening log h
BeginsBound heir opening log (Err fault) = IsUnbegunBound heir opening log fault

abbrev pub OpensNewBound : ℕ → List ℕ → Succession → Place → Option Hosting → Place → Type 0
OpensNewBound status opening s other new reported =
    ((¬ HasHeir s) × Stays out_of_range status None new × (reported ≡ other))
    ⊎ ((IsSpareLog s × Stays log_exists status None new × (reported ≡ other))
    ⊎ ((heir : Heir) × IsHeir s heir × (¬ IsSpareLog s)
    × ((begun : Result Hosting StartFault) × BeginsBound heir opening (log_given s.is_new s.log.now) begun × Seats status begun other new reported)))

-- there is a replica already; or one is opened
abbrev pub OpensBound : ℕ → Option Hosting → List ℕ → Succession → Place → Option Hosting → Place → Type 0
OpensBound status None opening s other new reported = OpensNewBound status opening s other new reported
OpensBound status (Some h) opening s other new reported = Stays has_replica status (Some h) new × (reported ≡ other)
