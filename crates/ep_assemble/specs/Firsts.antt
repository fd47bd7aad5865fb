-- What generation 1 opens with.
use Rattle.std.specs.Prelude.{ℕ, List, [], None, option_and_then, slice_get, unwrap_or}
use Rattle.ep_journal.specs.Openings.{no_opening}
use Rattle.ep_opening.specs.Files.{File}
use Rattle.ep_script.specs.Grammar.{faults_of}

-- nothing, in a cluster of which so many replicas may fail
abbrev pub first_file : ℕ → File
first_file faults = record { faults = faults; generation = 1; opening = no_opening; seal = None; executed = [] }

-- how many replicas may fail in the cluster of this log, by the number that its header has; 1 where it has none
abbrev pub faults_in : List ℕ → ℕ
faults_in log = unwrap_or (option_and_then faults_of (slice_get log 5)) 1
