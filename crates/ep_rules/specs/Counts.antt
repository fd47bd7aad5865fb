-- Laws of how many: what a step sends, what a replica executes, and how many instances there are.
use Rattle.std.specs.Prelude.{ℕ, ◌≤◌, List, [], ◌∷◌, length}
use Rattle.ep_base.specs.Deps.{most_deps}
use Rattle.ep_base.specs.Instances.{IsInstance}
use Rattle.ep_base.specs.Places.{Has}
use Rattle.ep_base.specs.Quorums.{size}
use Rattle.ep_rules.specs.Journals.{Entry, IsLocalRun, left}
use Rattle.ep_rules.specs.States.{State, fresh_state}
use Rattle.ep_rules.specs.Steps.{Event, sends}
use Rattle.ep_rules.specs.OneMap.{Store}

-- each of them stands once
abbrev pub AreOnce : List ℕ → Type 0
AreOnce [] = Unit {0}
AreOnce (i ∷ is) = (¬ Has is i) × AreOnce is

-- A step sends no more messages than there are replicas.
abbrev pub SendsFew : Type 0
SendsFew = (f me : ℕ) (s : State) (e : Event) → length (sends f me s e) ≤ size f

-- A replica executes no instance twice.
abbrev pub ExecutedOnce : Type 0
ExecutedOnce = (base : Store) → (f me : ℕ) (es : List Entry) → IsLocalRun base f me es → AreOnce (left f me (fresh_state base) es).executed

-- There are at most 63,000 instances.
abbrev pub InstancesAreFew : Type 0
InstancesAreFew = (is : List ℕ) → AreOnce is → ((i : ℕ) → Has is i → IsInstance i) → length is ≤ most_deps
