-- How far a replica is with what it leads.
use Rattle.std.specs.Prelude.{ℕ, Option, Some, None}
use Rattle.ep_rules.specs.Phases.{others}
use Rattle.ep_rules.specs.declared.led_instance.LedInstance.{LedInstance}
use Rattle.ep_rules.specs.declared.led_instance.LedInstance.TheVariants as led
use Rattle.ep_phase.specs.declared.progress.LeadPhase.{LeadPhase}
use Rattle.ep_phase.specs.declared.progress.LeadPhase.TheVariants.{Proposing, Accepting, Preparing}

-- the phase of what replica me leads, and how many besides it answered
abbrev pub progress_of : ℕ → ℕ → LedInstance → LeadPhase × ℕ
progress_of f me (led.Proposing b s answers) = (Proposing, others f me answers)
progress_of f me (led.Accepting b answers) = (Accepting, others f me answers)
progress_of f me (led.Preparing b answers) = (Preparing, others f me answers)

-- the same where it leads something
abbrev pub progress_in : ℕ → ℕ → Option LedInstance → Option (LeadPhase × ℕ)
progress_in f me None = None
progress_in f me (Some l) = Some (progress_of f me l)
