-- tools/generate writes this file, from crates/ep_rules/specs/Generations.antt.
-- The life of a cluster: generations, one after the other. Each is a world of its own. It opens with the map that the seal of the one before has left.
use Rattle.std.specs.Prelude.{◌≡◌, ◌≢◌, ◌⊎◌, ◌↔◌, ℕ, zero, suc, ◌+◌, ◌<◌, ◌≤◌, max, eqb, Bool, true, false, ◌&&◌, ◌||◌, cond, length, List, [], ◌∷◌, ◌++◌, Option, Some, slice_index_or as get_or}
use Rattle.ep_base.specs.Instances.{instance_of, leader_of}
use Rattle.ep_base.specs.Interference.{interfere}
use Rattle.ep_base.specs.Places.{place, Has}
use Rattle.ep_base.specs.Quorums.{size}
use Rattle.ep_base.specs.Commands.{Command}
use Rattle.ep_base.specs.declared.reply.Answer.{Answer}
use Rattle.ep_base.specs.declared.reply.Answer.TheVariants.{Lost, Replied}
use Rattle.ep_base.specs.declared.reply.Reply.{Reply}
use Rattle.ep_base.specs.declared.reply.Reply.TheVariants.{Absent, Closed}
use Rattle.ep_laws.specs.Rows.Closing.{up_to_seal, first_seal, written_by, read_by, store_of, HasClosed}
use Rattle.ep_laws.specs.Rows.OneMap.{Contents, opened}
use Rattle.ep_laws.specs.Rows.Operations.{Operation, history_of}
use Rattle.ep_laws.specs.Rows.States.{State, fresh_state, free_number}
use Rattle.ep_laws.specs.Rows.Steps.{Propose, order_of}
use Rattle.ep_laws.specs.Rows.Worlds.{World, opening, In, Act, Happens, moved, IsRun, ends}

-- What happens.

pub data Turn : Type 0 where
  -- the replica opens the generation after this one, with the map of a replica that has executed this one's seal
  Opens : (generation replica from : ℕ) → Turn
  -- a replica takes a step of the generation
  Steps : (generation : ℕ) → (act : Act) → Turn

-- each generation's world, and which replicas have opened it
pub record Life : Type 0 where
  pub worlds : ℕ → World
  pub has_opened : ℕ → ℕ → Bool

-- every replica has opened the first generation, with one map, and no other one
abbrev pub birth : Contents → Life
birth start = record { worlds = λ g. opening (opened start); has_opened = λ g r. eqb g 0 }

abbrev pub with_state : World → ℕ → State → World
with_state w r s = record { states = λ q. cond (eqb r q) s (w.states q); sent = w.sent }

-- f says how many faults each generation stands: it has 2f+1 replicas. A replica goes on with an old generation as long as it will
abbrev pub IsTurn : (ℕ → ℕ) → Life → Turn → Type 0
IsTurn f l (Opens g r q) = (l.has_opened (suc g) r ≡ false) × (l.has_opened g q ≡ true) × HasClosed (l.worlds g) q
IsTurn f l (Steps g a) = (l.has_opened g a.replica ≡ true) × Happens (f g) (l.worlds g) a

abbrev pub turned : (ℕ → ℕ) → Life → Turn → Life
turned f l (Opens g r q) = record {
  worlds = λ h. cond (eqb (suc g) h) (with_state (l.worlds h) r (fresh_state (opened (store_of (l.worlds g) q).contents))) (l.worlds h);
  has_opened = λ h p. cond (eqb (suc g) h) (eqb r p || l.has_opened h p) (l.has_opened h p);
}
turned f l (Steps g a) = record {
  worlds = λ h. cond (eqb g h) (moved (f h) (l.worlds h) a) (l.worlds h);
  has_opened = l.has_opened;
}

-- each turn is taken from the life so far
abbrev pub IsLife : (ℕ → ℕ) → Life → List Turn → Type 0
IsLife f l [] = Unit {0}
IsLife f l (t ∷ turns) = IsTurn f l t × IsLife f (turned f l t) turns

abbrev pub lived : (ℕ → ℕ) → Life → List Turn → Life
lived f l [] = l
lived f l (t ∷ turns) = lived f (turned f l t) turns

-- The history.

-- the acts of a generation
abbrev pub acts_in : ℕ → List Turn → List Act
acts_in g [] = []
acts_in g (Opens k r q ∷ turns) = acts_in g turns
acts_in g (Steps k a ∷ turns) = cond (eqb k g) (a ∷ acts_in g turns) (acts_in g turns)

-- the map with which a generation opens: that of the first one, or what the operations of the one before have left at its first seal
abbrev pub opening_map : Contents → (ℕ → ℕ) → List Turn → ℕ → Contents
opening_map start f turns zero = start
opening_map start f turns (suc g) = let m = opening_map start f turns g in written_by m (up_to_seal (history_of (opened m) (f g) (acts_in g turns)))

-- a generation's operations, in the order of their first executions
abbrev pub history_in : Contents → (ℕ → ℕ) → List Turn → ℕ → List Operation
history_in start f turns g = history_of (opened (opening_map start f turns g)) (f g) (acts_in g turns)

-- an operation of a generation
pub record Named : Type 0 where
  pub generation : ℕ
  pub operation : Operation

abbrev pub named : ℕ → List Operation → List Named
named g [] = []
named g (o ∷ os) = record { generation = g; operation = o } ∷ named g os

abbrev pub operations : List Named → List Operation
operations [] = []
operations (o ∷ os) = o.operation ∷ operations os

-- the operations of the first n generations, each up to its first seal, one generation after the other
abbrev pub joined : (ℕ → List Operation) → ℕ → List Named
joined h zero = []
joined h (suc n) = joined h n ++ named n (up_to_seal (h n))

-- how many generations had steps
abbrev pub ages : List Turn → ℕ
ages [] = 0
ages (Opens g r q ∷ turns) = ages turns
ages (Steps g a ∷ turns) = max (suc g) (ages turns)

-- the history of a life
abbrev pub one_history : Contents → (ℕ → ℕ) → List Turn → List Named
one_history start f turns = joined (history_in start f turns) (ages turns)

-- where an instance of a generation stands, or the length
abbrev pub place_in : List Named → ℕ → ℕ → ℕ
place_in [] g i = 0
place_in (o ∷ os) g i = cond (eqb o.generation g && eqb o.operation.instance i) 0 (suc (place_in os g i))

abbrev pub HasIn : List Named → ℕ → ℕ → Type 0
HasIn h g i = place_in h g i < length h

abbrev pub NamedOnce : List Named → Type 0
NamedOnce [] = Unit {0}
NamedOnce (o ∷ os) = (¬ HasIn os o.generation o.operation.instance) × NamedOnce os

-- What holds.

-- some step of the generation answers i with a reply other than that the map is closed
abbrev pub RespondsIn : List Turn → ℕ → ℕ → Type 0
RespondsIn turns g i = (a : Act) × (reply : Reply) × In (Steps g a) turns × In (i, Replied reply) a.done × (reply ≢ Closed)

-- what has a place answers the reply there of one map to the history, whatever its generation; what has none is lost, or finds the map closed
abbrev pub IsLegalIn : Contents → List Named → ℕ → ℕ → Answer → Type 0
IsLegalIn start h g i x =
    ((¬ HasIn h g i) × ((x ≡ Lost) ⊎ (x ≡ Replied Closed)))
    ⊎ (HasIn h g i × (x ≡ Replied (get_or (read_by start (operations h)) (place_in h g i) Absent)))

-- a turn proposes c as instance i of a generation, at the replica that leads it, of whose own instances it is the least one of which that replica had no record
pub record WasProposedIn (start : Contents) (f : ℕ → ℕ) (turns : List Turn) (g i : ℕ) (c : Command) : Type 0 where
  pub before : List Turn
  pub proposal : Act
  pub after : List Turn
  pub stands : before ++ (Steps g proposal ∷ after) ≡ turns
  pub replica : proposal.replica ≡ leader_of i
  pub client : ℕ
  pub request : ℕ
  pub seen : ℕ
  pub spared : Option ℕ
  pub event : proposal.event ≡ Propose client request c seen spared
  pub number : ℕ
  pub free : free_number (((lived f (birth start) before).worlds g).states (leader_of i)).records (leader_of i) ≡ Some number
  pub instance : instance_of (leader_of i) (number + 1) ≡ i

-- instance i of generation g was executed, at whatever replica, before instance j of generation k was proposed, at whatever replica
pub record PrecedesIn (start : Contents) (f : ℕ → ℕ) (turns : List Turn) (g i k j : ℕ) : Type 0 where
  pub command : Command
  pub proposed : WasProposedIn start f turns k j command
  pub act : Act
  pub earlier : In (Steps g act) proposed.before
  pub executed : Has (order_of act.done) i

-- the sequential history h of one map has the life's operations, with their replies, and extends their order in real time
pub record IsOneHistory (start : Contents) (f : ℕ → ℕ) (turns : List Turn) (h : List Named) : Type 0 where
  -- it has what was answered with a reply of an open map, each once, and nothing else
  pub once : NamedOnce h
  pub complete : (g i : ℕ) → HasIn h g i ↔ RespondsIn turns g i
  -- each was proposed, in its generation and as its instance, before whatever execution of it
  pub proposed :
      (o : Named) (before rest : List Turn) (a : Act) → In o h → before ++ (Steps o.generation a ∷ rest) ≡ turns → Has (order_of a.done) o.operation.instance →
      WasProposedIn start f before o.generation o.operation.instance o.operation.command
  -- legal: each answer of each execution, in whatever generation, is that of one map, which no seal closes
  pub legal : (g : ℕ) (a : Act) (i : ℕ) (x : Answer) → In (Steps g a) turns → In (i, x) a.done → IsLegalIn start h g i x
  -- real time, whatever the generations
  pub real_time : (g i k j : ℕ) → HasIn h g i → HasIn h k j → PrecedesIn start f turns g i k j → place_in h g i < place_in h k j
  -- generations stand one after the other
  pub ages_rise : (g i k j : ℕ) → HasIn h g i → HasIn h k j → g < k → place_in h g i < place_in h k j
  -- everywhere the same, in each generation
  pub everywhere :
      (r : ℕ) (o p : Named) → In o h → In p h → o.generation ≡ p.generation → interfere o.operation.command p.operation.command ≡ true →
      place_in h o.generation o.operation.instance < place_in h p.generation p.operation.instance →
      let own = (((lived f (birth start) turns).worlds p.generation).states r).executed in
      Has own p.operation.instance → place own o.operation.instance < place own p.operation.instance

-- Every life is linearizable, by one history of one map through all its generations.
abbrev pub LivesAreLinearizable : Type 0
LivesAreLinearizable =
    (start : Contents) (f : ℕ → ℕ) → ((g : ℕ) → (0 < f g) × (size (f g) ≤ 256)) → (turns : List Turn) → IsLife f (birth start) turns → IsOneHistory start f turns (one_history start f turns)

-- All who open a generation open it with one map, and know one value of the seal before it.
abbrev pub OneOpening : Type 0
OneOpening =
    (start : Contents) (f : ℕ → ℕ) → ((g : ℕ) → (0 < f g) × (size (f g) ≤ 256)) → (turns : List Turn) → IsLife f (birth start) turns →
    (before rest : List Turn) (g r q : ℕ) → before ++ (Opens g r q ∷ rest) ≡ turns →
    store_of ((lived f (birth start) before).worlds g) q ≡ record { contents = opening_map start f turns (suc g); seal = first_seal (history_in start f turns g) }

-- The history of a longer life begins with that of the shorter one: what has its place keeps it, with all that stands before.
abbrev pub LivesGrow : Type 0
LivesGrow =
    (start : Contents) (f : ℕ → ℕ) → ((g : ℕ) → (0 < f g) × (size (f g) ≤ 256)) → (early late : List Turn) → IsLife f (birth start) (early ++ late) →
    (more : List Named) × (one_history start f (early ++ late) ≡ one_history start f early ++ more)

-- Lives from runs.

-- who has opened what: it rests on openings alone
abbrev pub opened_at : Contents → (ℕ → ℕ) → List Turn → ℕ → ℕ → Bool
opened_at start f turns g r = (lived f (birth start) turns).has_opened g r

-- after these turns of all, the next one is allowed: whoever steps has opened the generation, and whoever opens one takes the map of one that has closed the generation before
abbrev pub IsReady : Contents → (ℕ → ℕ) → List Turn → List Turn → Turn → Type 0
IsReady start f turns before (Opens g r q) =
    (opened_at start f before (suc g) r ≡ false) × (opened_at start f before g q ≡ true)
    × HasClosed (ends (f g) (opening (opened (opening_map start f turns g))) (acts_in g before)) q
IsReady start f turns before (Steps g a) = opened_at start f before g a.replica ≡ true

-- Turns are a life where each generation's acts are a run from its opening map, and each turn is allowed: so what holds of one generation's runs, as that crashes leave them, is enough.
abbrev pub RunsMakeLives : Type 0
RunsMakeLives =
    (start : Contents) (f : ℕ → ℕ) → ((g : ℕ) → (0 < f g) × (size (f g) ≤ 256)) → (turns : List Turn) →
    ((g : ℕ) → IsRun (f g) (opening (opened (opening_map start f turns g))) (acts_in g turns)) →
    ((before rest : List Turn) (t : Turn) → before ++ (t ∷ rest) ≡ turns → IsReady start f turns before t) →
    IsLife f (birth start) turns
