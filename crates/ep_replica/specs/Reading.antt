-- What a read that writes nothing is answered.
use Rattle.std.specs.Prelude.{◌≡◌, ℕ, List, Some}
use Rattle.ep_base.specs.Commands.{Command}
use Rattle.ep_base.specs.Places.{Has}
use Rattle.ep_exec.specs.Found.{IsLeast}
use Rattle.ep_rules.specs.OneMap.{reply}
use Rattle.ep_rules.specs.States.{State}
use Rattle.ep_replica.specs.declared.reading.Reading.{Reading}
use Rattle.ep_replica.specs.declared.reading.Reading.TheVariants.{Replied, Waits}

-- A read of c at a replica of this state, for which this was found, is answered the map's reply, where all of it is executed there. Else it waits for the
-- least that isn't.
abbrev pub IsReading : State → Command → List ℕ → Reading → Type 0
IsReading s c found (Replied r) = ((i : ℕ) → Has found i → Has s.executed i) × (r ≡ reply s.store c)
IsReading s c found (Waits i) = IsLeast (λ j. ¬ Has s.executed j) found (Some i)
