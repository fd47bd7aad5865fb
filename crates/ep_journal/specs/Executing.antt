-- An execution by the code's parts: what it does, and why there is none.
use Rattle.std.specs.Prelude.{◌≡◌, ℕ, List, [], ◌∷◌, ◌++◌}
use Rattle.ep_base.specs.Commands.{Command}
use Rattle.ep_base.specs.declared.reply.Answer.{Answer}
use Rattle.ep_base.specs.Places.{Has}
use Rattle.ep_rules.specs.OneMap.{Store, after, after_all, answer, answers_of}
use Rattle.ep_rules.specs.Order.{IsPlan, IsBlocked}
use Rattle.ep_rules.specs.States.{command_in, graph_in}
use Rattle.ep_rules.specs.Steps.{order_of, answers_in}
use Rattle.ep_space.specs.Records.{Records}
use Rattle.ep_journal.specs.declared.step_fault.StepFault.{StepFault}
use Rattle.ep_journal.specs.declared.step_fault.StepFault.TheVariants.{Memory, NotCommitted}

-- the instances, each with its answer, where their commands are done in turn
abbrev pub done_by : (ℕ → Command) → Store → List ℕ → List (ℕ × Answer)
done_by c m [] = []
done_by c m (i ∷ is) = (i, answer m (c i)) ∷ done_by c (after m (c i)) is

-- none of the instances is done, and none stands twice
abbrev pub AreFresh : List ℕ → List ℕ → Type 0
AreFresh done [] = Unit {0}
AreFresh done (i ∷ is) = (¬ Has done i) × AreFresh (done ++ (i ∷ [])) is

-- from what was executed, and the map, the root was executed, the whole of what it waits for
pub record IsExecuted (s : Records) (root : ℕ) (done : List (ℕ × Answer)) (executed : List ℕ) (store : Store) (executed' : List ℕ) (store' : Store) : Type 0 where
  pub plan : IsPlan (graph_in s.records) executed root (order_of done)
  pub answers : answers_in done ≡ answers_of (command_in s.records) store (order_of done)
  pub order : executed' ≡ executed ++ order_of done
  pub map : store' ≡ after_all (command_in s.records) store (order_of done)

-- why the root was not executed: out of memory, or i is the least instance for which it waits
abbrev pub IsUnexecuted : Records → ℕ → List ℕ → StepFault → Type 0
IsUnexecuted s root executed Memory = Unit {0}
IsUnexecuted s root executed (NotCommitted i) = IsBlocked (graph_in s.records) executed root i
IsUnexecuted s root executed _ = ⊥
