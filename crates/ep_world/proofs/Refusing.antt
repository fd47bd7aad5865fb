-- Why an event is no step.
use Rattle.std.proofs.Common.{◌≡◌, ℕ, Some, Result, Ok, Err}
use Rattle.std.specs.Prelude.{IfErr}
use Rattle.ep_journal.specs.declared.event.Event.{Event as Happening}
use Rattle.ep_world.specs.Played.{Played}
use Rattle.ep_world.specs.Playing.{asked, IsNotEnabled}
use Rattle.ep_journal.specs.declared.refusal.Refusal.{Refusal}
use Rattle.ep_world.specs.declared.world_event.WorldEvent.{WorldEvent}

-- what is so of whatever event asks this is so of the one that does
pub of_event : {A : Type 0} (w : Played) (event : WorldEvent) (p : ℕ × Happening) (result : Result A Refusal) → IfErr result (λ cause. (e : WorldEvent) → asked w e ≡ Some p → IsNotEnabled w e cause) → asked w event ≡ Some p → IfErr result (λ cause. IsNotEnabled w event cause)
of_event w event p (Ok a) h is = tt
of_event w event p (Err cause) h is = h event is
