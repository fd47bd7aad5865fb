-- tools/generate writes this file, from crates/ep_rules/specs/Worlds.antt.
-- Worlds of 2f+1 replicas, and runs.
use Rattle.std.specs.Prelude.{◌≡◌, ◌⊎◌, ℕ, ◌<◌, eqb, cond, List, [], ◌∷◌, ◌++◌, Some}
use Rattle.ep_base.specs.Quorums.{size}
use Rattle.ep_base.specs.declared.decree.Decree.{Decree}
use Rattle.ep_base.specs.declared.reply.Answer.{Answer}
use Rattle.ep_laws.specs.Rows.States.{State, fresh_state, committed_in}
use Rattle.ep_laws.specs.Rows.Steps.{Sent, Event, Propose, Handle, GiveUp, Recover, Execute, IsStep, leaves, sends}
use Rattle.ep_laws.specs.Rows.OneMap.{Store}

-- the replicas' states, and every message that was ever sent: it only grows
pub record World : Type 0 where
  pub states : ℕ → State
  pub sent : List Sent

abbrev pub opening : (base : Store) → World
opening base = record { states = λ r. fresh_state base; sent = [] }

abbrev pub In : {X : Type 0} → X → List X → Type 0
In x [] = ⊥
In x (y ∷ ys) = (y ≡ x) ⊎ In x ys

-- an event at a replica, with what it executes
pub record Act : Type 0 where
  pub replica : ℕ
  pub event : Event
  pub done : List (ℕ × Answer)

-- What an event handles was sent: a message is handled never, once, or often, and in any order.
abbrev pub IsThere : List Sent → Event → Type 0
IsThere sent (Propose client request c seen spared) = Unit {0}
IsThere sent (Handle m) = In m.sent sent
IsThere sent (GiveUp i) = Unit {0}
IsThere sent (Recover i) = Unit {0}
IsThere sent (Execute root) = Unit {0}

-- one step of one replica
pub record Happens (f : ℕ) (w : World) (a : Act) : Type 0 where
  pub replica : a.replica < size f
  pub step : IsStep f a.replica (w.states a.replica) a.event a.done
  pub there : IsThere w.sent a.event

abbrev pub moved : ℕ → World → Act → World
moved f w a = record {
  states = λ r. cond (eqb a.replica r) (leaves f r (w.states r) a.event a.done) (w.states r);
  sent = w.sent ++ sends f a.replica (w.states a.replica) a.event;
}

-- each act is a step
abbrev pub IsRun : ℕ → World → List Act → Type 0
IsRun f w [] = Unit {0}
IsRun f w (a ∷ acts) = Happens f w a × IsRun f (moved f w a) acts

-- the world that a run leaves
abbrev pub ends : ℕ → World → List Act → World
ends f w [] = w
ends f w (a ∷ acts) = ends f (moved f w a) acts

-- replica r has committed x in instance i
abbrev pub Committed : World → ℕ → ℕ → Decree → Type 0
Committed w r i x = committed_in (w.states r).records i ≡ Some x
