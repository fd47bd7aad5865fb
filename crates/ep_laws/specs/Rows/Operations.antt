-- tools/generate writes this file, from crates/ep_rules/specs/Operations.antt.
-- The history that acts make: the operations that they execute, in order.
use Rattle.std.specs.Prelude.{ℕ, cond, List, [], ◌∷◌, ◌++◌, filter}
use Rattle.ep_base.specs.Sameness.{is_noop}
use Rattle.ep_base.specs.Commands.{Command}
use Rattle.ep_rules.specs.History.{is_new}
use Rattle.ep_laws.specs.Rows.States.{command_in}
use Rattle.ep_laws.specs.Rows.Steps.{order_of}
use Rattle.ep_laws.specs.Rows.Worlds.{World, opening, Act, moved}
use Rattle.ep_laws.specs.Rows.OneMap.{Store}

-- a command other than a no-op, named by its instance
pub record Operation : Type 0 where
  pub instance : ℕ
  pub command : Command

abbrev pub instances_of : List Operation → List ℕ
instances_of [] = []
instances_of (o ∷ os) = o.instance ∷ instances_of os

abbrev pub commands_of : List Operation → List Command
commands_of [] = []
commands_of (o ∷ os) = o.command ∷ commands_of os

-- the operations in these instances, whose commands c gives: a no-op is none
abbrev pub operations_of : (ℕ → Command) → List ℕ → List Operation
operations_of c [] = []
operations_of c (i ∷ is) = cond (is_noop (c i)) (operations_of c is) (record { instance = i; command = c i } ∷ operations_of c is)

-- what an act executes, with the commands that its replica has committed
abbrev pub executed_by : World → Act → List Operation
executed_by w a = operations_of (command_in (w.states a.replica).records) (order_of a.done)

-- those whose instances don't stand in h
abbrev pub new_to : List Operation → List Operation → List Operation
new_to h os = filter (λ o. is_new (instances_of h) o.instance) os

-- h, and then what the acts execute from the world w: each operation once, where it is first executed
abbrev pub history_after : ℕ → World → List Operation → List Act → List Operation
history_after f w h [] = h
history_after f w h (a ∷ acts) = history_after f (moved f w a) (h ++ new_to h (executed_by w a)) acts

-- the history of a run: its operations, each once, in the order of their first executions at any replica
abbrev pub history_of : (base : Store) → ℕ → List Act → List Operation
history_of base f acts = history_after f (opening base) [] acts
