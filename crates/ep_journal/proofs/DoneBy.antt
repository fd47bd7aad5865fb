-- What is done in turn is an execution's order with its answers.
use Rattle.std.proofs.Common.{◌≡◌, ℕ, List, [], ◌∷◌, refl, ap}
use Rattle.ep_base.specs.Commands.{Command}
use Rattle.ep_base.specs.declared.reply.Answer.{Answer}
use Rattle.ep_rules.specs.OneMap.{Store, after, answer, answers_of}
use Rattle.ep_rules.specs.Steps.{order_of, answers_in}
use Rattle.ep_journal.specs.Executing.{done_by}

pub order_done : (c : ℕ → Command) (m : Store) (is : List ℕ) → order_of (done_by c m is) ≡ is
order_done c m [] = refl
order_done c m (i ∷ is) = ap (λ (xs : List ℕ). i ∷ xs) (order_done c (after m (c i)) is)

pub answers_done : (c : ℕ → Command) (m : Store) (is : List ℕ) → answers_in (done_by c m is) ≡ answers_of c m is
answers_done c m [] = refl
answers_done c m (i ∷ is) = ap (λ (xs : List Answer). answer m (c i) ∷ xs) (answers_done c (after m (c i)) is)
