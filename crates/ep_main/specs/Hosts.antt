-- What the hosts of runs promise.
use Rattle.std.specs.Prelude.{ℕ, List, IsOk}
use Rattle.ep_script.specs.Plan.{SectionPlan}
use Rattle.ep_run.specs.Lines.{AreDone}
use Rattle.ep_run.specs.declared.ran.Ran.{Ran}
use Rattle.ep_main.specs.declared.host.Host.{Host}
use Rattle.ep_main.specs.declared.host.Host.TheVariants.{Lock, Ring}

-- what a host promises of a run of these sections, with so many turns: behind locks nothing; over rings that the audit accepts what the run leaves, and
-- what became of the lines
abbrev pub Promises : Host → ℕ → List SectionPlan → Ran → Type 0
Promises Lock turns sections ran = Unit {0}
Promises Ring turns sections ran = IsOk ran.finished.verdict × AreDone turns sections ran
