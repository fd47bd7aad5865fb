-- How a run behind locks begins, and what its journals are.
use Rattle.std.specs.Prelude.{◌≡◌, ℕ}
use Rattle.ep_base.specs.declared.version.Version.{Version}
use Rattle.ep_journal.specs.Entries.{Collected}
use Rattle.ep_journal.specs.Openings.{Opening}
use Rattle.ep_journal.specs.declared.refusal.Refusal.{Refusal}
use Rattle.ep_journal.specs.declared.refusal.Refusal.TheVariants.{Step}
use Rattle.ep_journal.specs.declared.step_fault.StepFault.TheVariants as step
use Rattle.ep_host.specs.declared.host_fault.HostFault.{HostFault}
use Rattle.ep_host.specs.declared.host_fault.HostFault.TheVariants.{Memory, OutOfRange, Replica}
use Rattle.ep_replay.specs.Heads.{opening_of}
use Rattle.ep_script.specs.Heads.{Head}

-- the replicas of a host, so many, of this version and with this opening, are those that the head names
pub record HasBegun (h : Head) (cluster : ℕ) (version : Version) (opening : Opening) : Type 0 where
  pub cluster_is : cluster ≡ h.faults
  pub version_is : version ≡ h.version
  pub opening_is : opening ≡ opening_of h.opening

-- journals of the replicas of such a host
pub record IsOfHost (cluster : ℕ) (version : Version) (opening : Opening) (c : Collected) : Type 0 where
  pub faults : c.faults ≡ cluster
  pub version_is : c.version ≡ version
  pub opening_is : c.opening ≡ opening

-- why a host did not do what a line asked for, as a report names it: the replica's reason, or the host's own
abbrev pub cause_of : HostFault → Refusal
cause_of Memory = Step step.Memory
cause_of OutOfRange = Step step.OutOfRange
cause_of (Replica fault) = Step fault
