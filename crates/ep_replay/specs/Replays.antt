-- A replay of a script: what its lines do in a world, one after another.
use Rattle.std.specs.Prelude.{◌≡◌, ◌≢◌, ◌⊎◌, ◌↔◌, ℕ, zero, suc, ◌+◌, ◌≤◌, ◌&&◌, nat_le, Bool, cond, List, [], ◌∷◌, ◌++◌, length, Option}
use Rattle.ep_base.specs.Deps.{IsRising}
use Rattle.ep_base.specs.Commands.{Command}
use Rattle.ep_rules.specs.Worlds.{In}
use Rattle.ep_rules.specs.declared.receipt.Receipt.{Receipt}
use Rattle.ep_journal.specs.Entries.{entry_of}
use Rattle.ep_journal.specs.declared.step_fault.StepFault.TheVariants.{Memory}
use Rattle.ep_replica.specs.Receipts.{receipts_of}
use Rattle.ep_script.specs.Heads.{Head}
use Rattle.ep_script.specs.declared.agenda_line.AgendaLine.{AgendaLine}
use Rattle.ep_script.specs.declared.agenda_line.AgendaLine.TheVariants.{Propose, GiveUp, Recover}
use Rattle.ep_script.specs.declared.line.Line.{Line}
use Rattle.ep_script.specs.declared.line.Line.TheVariants.{Agenda, Execute, Deliver, Flush}
use Rattle.ep_world.specs.Played.{Played, entries_in, journals_in}
use Rattle.ep_world.specs.Playing.{Happens, IsNotEnabled}
use Rattle.ep_journal.specs.declared.refusal.Refusal.{Refusal}
use Rattle.ep_journal.specs.declared.refusal.Refusal.TheVariants.{Step}
use Rattle.ep_world.specs.declared.world_event.WorldEvent.{WorldEvent}
use Rattle.ep_world.specs.declared.world_event.WorldEvent.TheVariants as event
use Rattle.ep_replay.specs.Clients.{times, greatest}
use Rattle.ep_replay.specs.Heads.{opening_of}
use Rattle.ep_replay.specs.declared.outcome.Outcome.{Outcome}
use Rattle.ep_replay.specs.declared.outcome.Outcome.TheVariants.{Took, Refused}
use Rattle.ep_replay.specs.declared.tried.Tried.{Tried}

-- an event of this line was tried, and this came of it
abbrev pub one_tried : ℕ → WorldEvent → Outcome → Tried
one_tried line event outcome = record { line = line; event = event; outcome = outcome }

-- how far a script has been replayed
pub record Replay : Type 0 where
  pub world : Played
  -- the client of each proposal, refused ones included
  pub proposers : List ℕ
  -- the messages that were given
  pub given : List ℕ
  pub receipts : List Receipt
  -- the events that were tried, in order
  pub tried : List Tried

-- the event of this line, where it was refused
abbrev pub refusal : ℕ → Outcome → List (ℕ × Refusal)
refusal line (Took replica entry first) = []
refusal line (Refused cause) = (line, cause) ∷ []

-- the events that were refused, each by its line and the cause
abbrev pub refusals : List Tried → List (ℕ × Refusal)
refusals [] = []
refusals (t ∷ ts) = refusal t.line t.outcome ++ refusals ts

-- nothing was replayed yet: the world is as the script's head says
pub record IsOpening (head : Head) (p : Replay) : Type 0 where
  pub version : p.world.version ≡ head.version
  pub size : p.world.faults ≡ head.faults
  pub opening : p.world.opening ≡ opening_of head.opening
  pub entries : (r : ℕ) → entries_in p.world r ≡ []
  pub steps : p.world.steps ≡ []
  pub messages : p.world.messages ≡ []
  pub proposers : p.proposers ≡ []
  pub given : p.given ≡ []
  pub receipts : p.receipts ≡ []
  pub tried : p.tried ≡ []

-- One event.

-- the event of this line happens; a receipt is given for each execution by its entry of what its replica proposed
pub record Takes (p : Replay) (line : ℕ) (event : WorldEvent) (p' : Replay) : Type 0 where
  pub next : Played
  pub happens : Happens p.world event next
  pub becomes : p' ≡ record p {
    world = next;
    receipts = p.receipts ++ receipts_of happens.replica (journals_in next happens.replica) (entry_of happens.entry);
    tried = p.tried ++ one_tried line event (Took happens.replica happens.entry.number (length p.world.messages + 1)) ∷ [];
  }

-- the event isn't enabled, for this cause; out of memory is no cause
pub record IsListed (p : Replay) (line : ℕ) (event : WorldEvent) (p' : Replay) : Type 0 where
  pub cause : Refusal
  pub refused : IsNotEnabled p.world event cause
  pub reported : cause ≢ Step Memory
  pub becomes : p' ≡ record p { tried = p.tried ++ one_tried line event (Refused cause) ∷ [] }

abbrev pub Tries : Replay → ℕ → WorldEvent → Replay → Type 0
Tries p line event p' = Takes p line event p' ⊎ IsListed p line event p'

-- Proposals.

-- the client's next request, counted from 1, with the greatest stamp that it has seen
abbrev pub proposal : Replay → ℕ → ℕ → Command → Option ℕ → WorldEvent
proposal p replica client command spared = event.Propose replica client (times client p.proposers + 1) command (greatest client p.receipts) spared

abbrev pub with_proposer : Replay → ℕ → Replay
with_proposer p client = record p { proposers = p.proposers ++ client ∷ [] }

-- Messages.

abbrev pub was_sent : Played → ℕ → Bool
was_sent w message = nat_le 1 message && nat_le message (length w.messages)

-- a message counts as given once its delivery was tried; a number that no message has doesn't
abbrev pub with_given : Replay → ℕ → Replay
with_given p message = record p { given = cond (was_sent p.world message) (p.given ++ message ∷ []) p.given }

-- the messages of these numbers are given, one after another
abbrev pub Gives : Replay → ℕ → List ℕ → Replay → Type 0
Gives p line [] p' = p' ≡ p
Gives p line (m ∷ ms) p' = (next : Replay) × Tries (with_given p m) line (event.Deliver m) next × Gives next line ms p'

-- the k numbers above n, in rising order
abbrev pub above : ℕ → ℕ → List ℕ
above n zero = []
above n (suc k) = above n k ++ (n + k + 1) ∷ []

-- of the messages numbered from 1 up to `sent`, those that aren't in `given`, in rising number
pub record AreUngiven (given : List ℕ) (sent : ℕ) (ms : List ℕ) : Type 0 where
  pub rising : IsRising ms
  pub these : (m : ℕ) → In m ms ↔ ((1 ≤ m) × (m ≤ sent) × ¬ In m given)

-- Lines.

-- what an agenda would have a replica do was tried
abbrev pub Asks : Replay → ℕ → AgendaLine → Replay → Type 0
Asks p line (Propose replica client command spared) p' = Tries (with_proposer p client) line (proposal p replica client command spared) p'
Asks p line (GiveUp replica instance) p' = Tries p line (event.GiveUp replica instance) p'
Asks p line (Recover replica instance) p' = Tries p line (event.Recover replica instance) p'

-- what the line of this number asks for was done
abbrev pub Plays : Replay → ℕ → Line → Replay → Type 0
Plays p line (Agenda asked) p' = Asks p line asked p'
Plays p line (Execute replica instance) p' = Tries p line (event.Execute replica instance) p'
Plays p line (Deliver messages) p' = Gives p line messages p'
Plays p line Flush p' = (messages : List ℕ) × AreUngiven p.given (length p.world.messages) messages × Gives p line messages p'

abbrev pub PlayAll : Replay → List (ℕ × Line) → Replay → Type 0
PlayAll p [] p' = p' ≡ p
PlayAll p (l ∷ ls) p' = (next : Replay) × Plays p l.0 l.1 next × PlayAll next ls p'
