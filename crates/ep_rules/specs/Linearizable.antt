-- Linearizability (Herlihy and Wing, 1990) of every run of 2f+1 replicas.
--
-- An operation is invoked where its instance's leader proposes it. Each execution of it, at whatever replica, is a response.
-- It has its place in the history by its first execution, also where its own replica hasn't executed it yet.
-- What was proposed and is executed nowhere yet is pending, and has no place. Nor has an instance in which a no-op was committed: it answers lost.
use Rattle.std.specs.Prelude.{◌≡◌, ◌⊎◌, ◌↔◌, ℕ, ◌<◌, ◌≤◌, true, List, ◌∷◌, ◌++◌, slice_index_or as get_or}
use Rattle.ep_base.specs.Interference.{interfere}
use Rattle.ep_base.specs.Places.{place, Has}
use Rattle.ep_base.specs.Quorums.{size}
use Rattle.ep_base.specs.Commands.{Command}
use Rattle.ep_base.specs.declared.reply.Answer.{Answer}
use Rattle.ep_base.specs.declared.reply.Answer.TheVariants.{Lost, Replied}
use Rattle.ep_base.specs.declared.reply.Reply.{Reply}
use Rattle.ep_base.specs.declared.reply.Reply.TheVariants.{Absent}
use Rattle.ep_rules.specs.Counts.{AreOnce}
use Rattle.ep_rules.specs.OneMap.{replies, Store}
use Rattle.ep_rules.specs.Operations.{Operation, instances_of, commands_of, history_of}
use Rattle.ep_rules.specs.Safety.{WasProposed}
use Rattle.ep_rules.specs.Steps.{order_of}
use Rattle.ep_rules.specs.Worlds.{opening, Act, In, IsRun, ends}

-- some execution among the acts answers i with a reply
abbrev pub Responds : List Act → ℕ → Type 0
Responds acts i = (a : Act) × (reply : Reply) × In a acts × In (i, Replied reply) a.done

-- the answer is one map's reply to the history at i's place there; where i has none, it is lost
abbrev pub IsLegal : (base : Store) → List Operation → ℕ → Answer → Type 0
IsLegal base h i x =
    ((¬ Has (instances_of h) i) × (x ≡ Lost))
    ⊎ (Has (instances_of h) i × (x ≡ Replied (get_or (replies base (commands_of h)) (place (instances_of h) i) Absent)))

-- i was executed, at whatever replica, before j was proposed, at whatever replica
pub record Precedes (base : Store) (f : ℕ) (acts : List Act) (i j : ℕ) : Type 0 where
  pub command : Command
  pub proposed : WasProposed base f acts j command
  pub act : Act
  pub earlier : In act proposed.before
  pub executed : Has (order_of act.done) i

-- the sequential history h has the run's operations, with their replies, and extends their order in real time
pub record IsLinearization (base : Store) (f : ℕ) (acts : List Act) (h : List Operation) : Type 0 where
  -- it has what was answered with a reply, each once, and nothing else
  pub once : AreOnce (instances_of h)
  pub complete : (i : ℕ) → Has (instances_of h) i ↔ Responds acts i
  -- each was proposed, as its instance, before whatever execution of it
  pub proposed :
      (o : Operation) (before rest : List Act) (a : Act) → In o h → before ++ (a ∷ rest) ≡ acts → Has (order_of a.done) o.instance →
      WasProposed base f before o.instance o.command
  -- legal: each answer of each execution is one map's reply at the operation's place
  pub legal : (a : Act) (i : ℕ) (x : Answer) → In a acts → In (i, x) a.done → IsLegal base h i x
  -- real time: what was executed before another one was proposed stands before it
  pub real_time : (i j : ℕ) → Has (instances_of h) i → Has (instances_of h) j → Precedes base f acts i j → place (instances_of h) i < place (instances_of h) j
  -- everywhere the same: a replica that has executed an operation has executed before it each one that interferes with it and stands before it
  pub everywhere :
      (r : ℕ) (o p : Operation) → In o h → In p h → interfere o.command p.command ≡ true → place (instances_of h) o.instance < place (instances_of h) p.instance →
      let own = ((ends f (opening base) acts).states r).executed in
      Has own p.instance → place own o.instance < place own p.instance

-- the run's history, in the order of first executions, is a linearization of the run
abbrev pub IsLinearizable : (base : Store) → ℕ → List Act → Type 0
IsLinearizable base f acts = IsLinearization base f acts (history_of base f acts)

-- Every run is linearizable.
abbrev pub Linearizability : Type 0
Linearizability = (base : Store) → (f : ℕ) → 0 < f → size f ≤ 256 → (acts : List Act) → IsRun f (opening base) acts → IsLinearizable base f acts

-- The history of a longer run begins with that of the shorter one: what has its place keeps it, with all that stands before.
abbrev pub HistoryGrows : Type 0
HistoryGrows = (base : Store) → (f : ℕ) (early late : List Act) → (more : List Operation) × (history_of base f (early ++ late) ≡ history_of base f early ++ more)
