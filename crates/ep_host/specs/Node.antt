-- A node.
use Rattle.std.specs.Prelude.{ℕ, Bool, false, List, [], ◌∷◌, ◌++◌, refl}
use Rattle.std.specs.Coded.{Coded, code_by, coded×, coded_ℕ, coded_bool, coded_list}
use Rattle.ep_journal.specs.Entries.{log_code}
use Rattle.ep_journal.specs.contracts.step_fault.StepFault as fault_facts
use Rattle.ep_journal.specs.declared.step_fault.StepFault.{StepFault}
use Rattle.ep_replica.specs.Kept.{Kept}
use Rattle.ep_host.specs.contracts.link.Link as link_facts
use Rattle.ep_host.specs.contracts.task.Task as task_facts
use Rattle.ep_host.specs.contracts.weather.Weather as weather_facts
use Rattle.ep_host.specs.declared.link.Link.{Link}
use Rattle.ep_host.specs.declared.task.Task.{Task}
use Rattle.ep_host.specs.declared.weather.Weather.{Weather}

-- a replica with the ends of its rings, the weather, the tasks left, those refused, how many were used up, and how many frames are lost
pub record Node : Type 0 where
  pub replica : Kept
  pub links : List Link
  pub weather : List Weather
  pub agenda : List Task
  pub refused : List (ℕ × StepFault)
  pub used : ℕ
  pub lost : ℕ
  -- whether it ended in the last section
  pub ended : Bool

abbrev pub node_code : Coded Node
node_code =
    code_by (Kept × (List Link × (List Weather × (List Task × (List (ℕ × StepFault) × (ℕ × (ℕ × Bool)))))))
    (coded× log_code (coded× (coded_list link_facts.the_row.coded) (coded× (coded_list weather_facts.the_row.coded) (coded× (coded_list task_facts.the_row.coded) (coded× (coded_list (coded× coded_ℕ fault_facts.the_row.coded)) (coded× coded_ℕ (coded× coded_ℕ coded_bool)))))))
    (λ n. (n.replica, (n.links, (n.weather, (n.agenda, (n.refused, (n.used, (n.lost, n.ended))))))))
    (λ p. record { replica = p.0; links = p.1.0; weather = p.1.1.0; agenda = p.1.1.1.0; refused = p.1.1.1.1.0; used = p.1.1.1.1.1.0; lost = p.1.1.1.1.1.1.0; ended = p.1.1.1.1.1.1.1 }) (λ _. refl)

-- without rings and tasks
abbrev pub fresh_node : Kept → Node
fresh_node k = record { replica = k; links = []; weather = []; agenda = []; refused = []; used = 0; lost = 0; ended = false }

abbrev pub with_link : Node → Link → Node
with_link a l = record a { links = a.links ++ l ∷ [] }
