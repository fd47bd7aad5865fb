-- What an execution waits for, and that it can be done.
use Rattle.std.specs.Prelude.{ℕ, ◌<◌, List}
use Rattle.ep_base.specs.Instances.{leader_of}
use Rattle.ep_base.specs.Places.{Has}
use Rattle.ep_base.specs.Quorums.{size}
use Rattle.ep_base.specs.declared.reply.Answer.{Answer}
use Rattle.ep_rules.specs.Cells.{Refusal}
use Rattle.ep_rules.specs.Order.{IsComplete}
use Rattle.ep_rules.specs.States.{State, graph_in}
use Rattle.ep_rules.specs.Steps.{Execute, IsStep, Refuses, leaves}

-- Where all that an instance reaches is committed, its execution is refused for no reason.
abbrev pub NothingWaits : Type 0
NothingWaits = (f me : ℕ) (s : State) (root : ℕ) → leader_of root < size f → IsComplete (graph_in s.records) root → (why : Refusal) → ¬ Refuses f me s (Execute root) why

-- the execution of the root is taken, and behind it the root is executed
pub record Executed (f me : ℕ) (s : State) (root : ℕ) : Type 0 where
  pub done : List (ℕ × Answer)
  pub step : IsStep f me s (Execute root) done
  pub executed : Has (leaves f me s (Execute root) done).executed root

-- Where all that an instance reaches is committed, it has an execution order, and is executed in it.
abbrev pub CanExecute : Type 0
CanExecute = (f me : ℕ) (s : State) (root : ℕ) → leader_of root < size f → IsComplete (graph_in s.records) root → Executed f me s root
