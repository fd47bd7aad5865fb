-- Playing a list of events, in which a message is named by its place among those sent (from 1).
use Rattle.std.proofs.Common.{ℕ, pred, List, [], ◌∷◌, ◌++◌, Option, Some, None, slice_get}
use Rattle.std.specs.Prelude.{Result, Ok, Err}
use Rattle.ep_base.specs.Instances.{instance_of}
use Rattle.ep_base.specs.declared.attrs.Attrs.{Attrs}
use Rattle.ep_base.specs.Commands.{Command, Get, Put}
use Rattle.ep_base.specs.declared.decree.Decree.{Decree}
use Rattle.ep_base.specs.declared.reply.Answer.{Answer}
use Rattle.ep_rules.specs.Cells.{Change, Refusal, OutOfRange}
use Rattle.ep_laws.specs.Rows.OneMap.{Contents, empty, opened}
use Rattle.ep_laws.specs.Rows.Operations.{Operation}
use Rattle.ep_laws.specs.Rows.States.{committed_in}
use Rattle.ep_laws.specs.Rows.Steps.{Sent, Event, Propose, Handle, GiveUp, Recover, Execute, screened, acts}
use Rattle.ep_laws.specs.Rows.Worlds.{World, opening, Act, moved}

pub data Line : Type 0 where
  Proposal : (r : ℕ) → (c : Command) → Line
  -- the fast quorum lacks replica s
  Sparing : (r s : ℕ) → (c : Command) → Line
  Resignation : (r i : ℕ) → Line
  Recovery : (r i : ℕ) → Line
  Deliver : (m : ℕ) → Line
  -- of one instance, with its answer
  Execution : (r i : ℕ) → (x : Answer) → Line

abbrev act : ℕ → Event → Act
act r e = record { replica = r; event = e; done = [] }

abbrev deliver : Option Sent → Option Act
deliver None = None
deliver (Some m) = Some (act m.to (Handle (record { sent = m; entry = 0; place = 0; stamp = 0 })))

abbrev act_of : World → Line → Option Act
act_of w (Proposal r c) = Some (act r (Propose 1 1 c 0 None))
act_of w (Sparing r s c) = Some (act r (Propose 1 1 c 0 (Some s)))
act_of w (Resignation r i) = Some (act r (GiveUp i))
act_of w (Recovery r i) = Some (act r (Recover i))
act_of w (Deliver m) = deliver (slice_get w.sent (pred m))
act_of w (Execution r i x) = Some (record { replica = r; event = Execute i; done = (i, x) ∷ [] })

-- the event is a step, or why it is refused
abbrev tried : Option Refusal → Result (ℕ × Change) Refusal → Option Refusal
tried (Some e) r = Some e
tried None (Ok p) = None
tried None (Err e) = Some e

abbrev refusal : ℕ → World → Act → Option Refusal
refusal f w a = tried (screened f a.replica a.event) (acts f a.replica (w.states a.replica) a.event)

-- the world after the lines, its acts, and what was refused, the last first
pub record Played : Type 0 where
  pub world : World
  pub acts : List Act
  pub refused : List Refusal

abbrev step : ℕ → Played → Act → Option Refusal → Played
step f p a None = record { world = moved f p.world a; acts = p.acts ++ (a ∷ []); refused = p.refused }
step f p a (Some e) = record { world = p.world; acts = p.acts; refused = e ∷ p.refused }

abbrev take : ℕ → Played → Option Act → Played
take f p None = record { world = p.world; acts = p.acts; refused = OutOfRange ∷ p.refused }
take f p (Some a) = step f p a (refusal f p.world a)

abbrev pub play : ℕ → Played → List Line → Played
play f p [] = p
play f p (l ∷ ls) = play f (take f p (act_of p.world l)) ls

-- nothing is played yet, and each map has these contents
abbrev pub opening_on : Contents → Played
opening_on m = record { world = opening (opened m); acts = []; refused = [] }

abbrev pub fresh : Played
fresh = opening_on empty

abbrev pub given : List ℕ → List Line → List Line
given [] ls = ls
given (m ∷ ms) ls = Deliver m ∷ given ms ls

-- What rows speak of.

-- what the replica has committed of an instance
abbrev pub committed : Played → ℕ → ℕ → Option Decree
committed p r i = committed_in (p.world.states r).records i

abbrev pub put_x : ℕ → Command
put_x n = Put (120 ∷ []) (n ∷ [])

abbrev pub get_x : Command
get_x = Get (120 ∷ [])

abbrev pub attrs : ℕ → List ℕ → Attrs
attrs seq deps = record { seq = seq; deps = deps }

abbrev pub decree : Command → ℕ → List ℕ → Decree
decree c seq deps = record { command = c; attrs = attrs seq deps }

-- the put as the first instance of replica r
abbrev pub put_as : ℕ → ℕ → Operation
put_as r n = record { instance = instance_of r 1; command = put_x n }
