-- What a rule sends, for an event that the screen lets through, has a spelling.
use Rattle.std.proofs.Common.{◌≡◌, ℕ, ◌<◌, ◌≤◌, List, [], ◌∷◌, None, Result, Ok, Err}
use Rattle.ep_base.specs.Quorums.{size}
use Rattle.ep_base.specs.declared.message.Message.{Message}
use Rattle.ep_base.specs.declared.version.Version.{Version}
use Rattle.ep_rules.specs.Cells.{Change, Refusal}
use Rattle.ep_rules.specs.Fitting.{StateFits, EventFits, AllFit, AllSpellable}
use Rattle.ep_rules.specs.States.{State}
use Rattle.ep_rules.specs.Steps.{Event, screened, acts, sent_by, sent_from}
use Rattle.ep_rules.proofs.Fitting.{sends_fit}
use Rattle.ep_journal.specs.Inputs.{IsWritable}
use Rattle.ep_journal.proofs.Holding.{IsPlacedIn}

all_fit : (me : ℕ) (out : List (ℕ × Message)) → AllSpellable me (sent_from me out) → AllFit me out
all_fit me [] h = tt
all_fit me (m ∷ ms) h = (h.0, h.1, all_fit me ms h.2)

writable : (v : Version) (me : ℕ) (r : Result (ℕ × Change) Refusal) → AllSpellable me (sent_by me r) → IsPlacedIn v r → IsWritable v me r
writable v me (Ok p) fit held = (all_fit me p.1.out fit, held.1.out)
writable v me (Err e) fit held = tt

pub step_writable : (v : Version) (f me : ℕ) (s : State) (e : Event) → size f ≤ 256 → me < size f → StateFits s → EventFits e → screened f me e ≡ None → IsPlacedIn v (acts f me s e) → IsWritable v me (acts f me s e)
step_writable v f me s e few here fits event sc held = writable v me (acts f me s e) (sends_fit f me s e few here fits event sc) held
