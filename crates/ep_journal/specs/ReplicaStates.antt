-- The state of a replica by its parts.
use Rattle.std.specs.Prelude.{ℕ, List, []}
use Rattle.ep_phase.specs.Leads.{Lead}
use Rattle.ep_rules.specs.OneMap.{Store, opened, empty}
use Rattle.ep_rules.specs.States.{State}
use Rattle.ep_space.specs.Records.{Records}

abbrev pub state_of : Records → Lead → List ℕ → Store → State
state_of s l executed store = record { records = s.records; leads = l.leads; reported = l.reported; executed = executed; store = store }

-- what the protocol looks at
abbrev pub known : Records → Lead → State
known s l = state_of s l [] (opened empty)
