-- Any machine: what the replicas' own executions leave of it, and what it replies.
use Rattle.std.specs.Prelude.{◌≡◌, ◌≢◌, ◌↔◌, ℕ, ◌<◌, ◌≤◌, List, [], ◌∷◌, ◌++◌, Option, Some, None, true, false, eqb, cond}
use Rattle.ep_base.specs.Interference.{interfere, keys_of, has_key, only_reads}
use Rattle.ep_base.specs.Places.{Has}
use Rattle.ep_base.specs.Quorums.{size}
use Rattle.ep_base.specs.Sameness.{is_noop}
use Rattle.ep_base.specs.Commands.{Command}
use Rattle.ep_base.specs.declared.reply.Reply.{Reply}
use Rattle.ep_rules.specs.Closing.{has_seal, up_to_seal}
use Rattle.ep_rules.specs.Graph.{Graph}
use Rattle.ep_rules.specs.History.{Execution, nothing, done_after, Agrees, of, merged, AreDependent}
use Rattle.ep_rules.specs.Journals.{Journals, Scheduled, acts_of, left}
use Rattle.ep_rules.specs.Merging.{Merges}
use Rattle.ep_rules.specs.OneMap.{Store, after, reply}
use Rattle.ep_rules.specs.Operations.{Operation, instances_of, operations_of, history_of}
use Rattle.ep_rules.specs.Order.{IsPlan}
use Rattle.ep_rules.specs.States.{command_in, fresh_state}
use Rattle.ep_rules.specs.Worlds.{World, opening, Act, In, IsRun, ends}

-- two operations whose order the core leaves open
pub record AreFree (o p : Operation) : Type 0 where
  pub others : o.instance ≢ p.instance
  pub first : is_noop o.command ≡ false
  pub second : is_noop p.command ≡ false
  pub meet : interfere o.command p.command ≡ false

-- A machine with these states and replies: what an operation leaves, and what it is answered.
pub record Machine (S R : Type 0) : Type 0 where
  pub after : S → Operation → S
  pub reply : S → Operation → R
  -- two operations whose order is left open leave one state in either order
  pub commute : (s : S) (o p : Operation) → AreFree o p → after (after s o) p ≡ after (after s p) o
  -- and the reply of neither depends on the other
  pub unseen : (s : S) (o p : Operation) → AreFree o p → reply (after s o) p ≡ reply s p

-- what operations in turn leave
abbrev pub after_operations : {S R : Type 0} → Machine S R → S → List Operation → S
after_operations M s [] = s
after_operations M s (o ∷ os) = after_operations M (M.after s o) os

-- what the operation of instance i is answered where operations are done in turn
abbrev pub reply_to : {S R : Type 0} → Machine S R → S → List Operation → ℕ → Option R
reply_to M s [] i = None
reply_to M s (o ∷ os) i = cond (eqb o.instance i) (Some (M.reply s o)) (reply_to M (M.after s o) os i)

-- A machine may stop and go on: what operations leave is what the later ones leave of what the earlier ones leave, and the later ones change no earlier reply.
abbrev pub MachinesResume : (S R : Type 0) → Type 0
MachinesResume S R = (M : Machine S R) (s : S) (earlier later : List Operation) →
    (after_operations M s (earlier ++ later) ≡ after_operations M (after_operations M s earlier) later)
    × ((i : ℕ) → Has (instances_of earlier) i → reply_to M s (earlier ++ later) i ≡ reply_to M s earlier i)

-- one replica's own executions, as plans alone: whatever they answer
abbrev pub ArePlanned : Graph → List ℕ → List Execution → Type 0
ArePlanned all done [] = Unit {0}
ArePlanned all done (e ∷ es) = Agrees e.graph all × IsPlan e.graph done e.root e.order × ArePlanned all (done ++ e.order) es

-- any interleaving of the replicas' own executions
abbrev pub ArePlans : Graph → List Execution → Type 0
ArePlans all es = (r : ℕ) → ArePlanned all [] (of r es)

-- the operations that replica r has executed, in order: what its machine is handed
abbrev pub handed : (ℕ → Command) → List Execution → ℕ → List Operation
handed c es r = operations_of c (done_after nothing es r)

-- the one history: each operation once, in the order of first executions at any replica
abbrev pub one_list : (ℕ → Command) → List Execution → List Operation
one_list c es = operations_of c (merged [] es)

-- Each replica's machine, handed what its replica executes, replies to each operation what one machine replies that is handed the one history.
abbrev pub OneMachine : (S R : Type 0) → Type 0
OneMachine S R = (M : Machine S R) (start : S) (all : Graph) (c : ℕ → Command) (es : List Execution) → AreDependent all c → ArePlans all es → (r i : ℕ) →
    Has (done_after nothing es r) i → is_noop (c i) ≡ false →
    (x : R) × (reply_to M start (handed c es r) i ≡ Some x) × (reply_to M start (one_list c es) i ≡ Some x)

-- Two replicas that have executed the same operations, at any two times, have their machines in one state.
abbrev pub OneState : (S R : Type 0) → Type 0
OneState S R = (M : Machine S R) (start : S) (all : Graph) (c : ℕ → Command) (early late : List Execution) → AreDependent all c → ArePlans all (early ++ late) → (r q : ℕ) →
    ((i : ℕ) → is_noop (c i) ≡ false → Has (done_after nothing early r) i ↔ Has (done_after nothing (early ++ late) q) i) →
    after_operations M start (handed c early r) ≡ after_operations M start (handed c (early ++ late) q)

-- Runs.

-- the operations that replica r has executed, in order, with the commands that it has committed: what its machine is handed
abbrev pub executed_at : World → ℕ → List Operation
executed_at w r = operations_of (command_in (w.states r).records) (w.states r).executed

-- What a replica's machine was handed stays, with all that came before it.
abbrev pub HandedStays : Type 0
HandedStays = (base : Store) (f : ℕ) → 0 < f → size f ≤ 256 → (early late : List Act) → IsRun f (opening base) (early ++ late) → (r : ℕ) →
    (more : List Operation) × (executed_at (ends f (opening base) (early ++ late)) r ≡ executed_at (ends f (opening base) early) r ++ more)

-- In every run: what a replica's machine replies to an operation is what one machine replies that is handed the run's history.
abbrev pub RunsOneMachine : (S R : Type 0) → Type 0
RunsOneMachine S R =
    (M : Machine S R) (start : S) (base : Store) (f : ℕ) → 0 < f → size f ≤ 256 → (acts : List Act) → IsRun f (opening base) acts → (r : ℕ) (o : Operation) →
    let own = executed_at (ends f (opening base) acts) r in
    In o own → (x : R) × (reply_to M start own o.instance ≡ Some x) × (reply_to M start (history_of base f acts) o.instance ≡ Some x)

-- In every run two replicas that have executed the same operations, at any two times, have their machines in one state.
abbrev pub RunsOneState : (S R : Type 0) → Type 0
RunsOneState S R =
    (M : Machine S R) (start : S) (base : Store) (f : ℕ) → 0 < f → size f ≤ 256 → (early late : List Act) → IsRun f (opening base) (early ++ late) → (r q : ℕ) →
    let first = executed_at (ends f (opening base) early) r in
    let second = executed_at (ends f (opening base) (early ++ late)) q in
    ((o : Operation) → In o first ↔ In o second) → after_operations M start first ≡ after_operations M start second

-- In every run: whoever has executed a seal has brought its machine, by the operations up to its first seal, into the state that the history up to its first seal leaves.
abbrev pub RunsCloseMachines : (S R : Type 0) → Type 0
RunsCloseMachines S R =
    (M : Machine S R) (start : S) (base : Store) (f : ℕ) → 0 < f → size f ≤ 256 → (acts : List Act) → IsRun f (opening base) acts → (r : ℕ) →
    let own = executed_at (ends f (opening base) acts) r in
    let h = history_of base f acts in
    has_seal own ≡ true → (has_seal h ≡ true) × (after_operations M start (up_to_seal own) ≡ after_operations M start (up_to_seal h))

-- Journals that match.

-- the operations that the journal of replica r executes, with the commands that it commits
abbrev pub executed_in : (base : Store) → ℕ → Journals → ℕ → List Operation
executed_in base f journal r = operations_of (command_in (left f r (fresh_state base) (journal r)).records) (left f r (fresh_state base) (journal r)).executed

-- What a machine replies that is handed what a journal executes is what one machine replies that is handed the journals' history.
abbrev pub JournalsOneMachine : (S R : Type 0) → Type 0
JournalsOneMachine S R =
    (M : Machine S R) (start : S) (base : Store) (f : ℕ) (journal : Journals) (schedule : List Scheduled) → Merges base f journal schedule → (r : ℕ) (o : Operation) →
    let own = executed_in base f journal r in
    In o own → (x : R) × (reply_to M start own o.instance ≡ Some x) × (reply_to M start (history_of base f (acts_of schedule)) o.instance ≡ Some x)

-- The map itself.

-- The map of the core is a machine.
abbrev pub MapIsMachine : Type 0
MapIsMachine = (M : Machine Store Reply) × ((s : Store) (o : Operation) → (M.after s o ≡ after s o.command) × (M.reply s o ≡ reply s o.command))

-- Machines over keys.

-- two states have the same at each key that the operation names
abbrev pub AreSameAt : {X : Type 0} → Operation → (List ℕ → X) → (List ℕ → X) → Type 0
AreSameAt o s t = (k : List ℕ) → has_key k (keys_of o.command) ≡ true → s k ≡ t k

-- What an operation does to a state that is a value at each key, and what it is answered, keeps to its footprint.
pub record KeepsToKeys (X R : Type 0) (after : (List ℕ → X) → Operation → List ℕ → X) (reply : (List ℕ → X) → Operation → R) : Type 0 where
  -- it changes what its keys have, and nothing else
  pub changes : (s : List ℕ → X) (o : Operation) (k : List ℕ) → has_key k (keys_of o.command) ≡ false → after s o k ≡ s k
  -- and nothing at all where it only reads
  pub reads : (s : List ℕ → X) (o : Operation) (k : List ℕ) → only_reads o.command ≡ true → after s o k ≡ s k
  -- what its keys have then follows from what they had
  pub follows : (s t : List ℕ → X) (o : Operation) → AreSameAt o s t → AreSameAt o (after s o) (after t o)
  -- and so does what it is answered
  pub reported : (s t : List ℕ → X) (o : Operation) → AreSameAt o s t → reply s o ≡ reply t o

-- What keeps to its keys is a machine.
abbrev pub KeepersAreMachines : (X R : Type 0) → Type 0
KeepersAreMachines X R =
    (after : (List ℕ → X) → Operation → List ℕ → X) (reply : (List ℕ → X) → Operation → R) → KeepsToKeys X R after reply →
    (M : Machine (List ℕ → X) R) × (M.after ≡ after) × (M.reply ≡ reply)
