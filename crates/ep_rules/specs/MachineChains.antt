-- Any machine through the generations of a chain of journals: each begins with the state that the seal of the one before has left.
use Rattle.std.specs.Prelude.{◌≡◌, ℕ, zero, suc, ◌<◌, ◌≤◌, true, ◌&&◌, cond, eqb, List, [], ◌∷◌, Option, Some, None}
use Rattle.ep_base.specs.Quorums.{size}
use Rattle.ep_rules.specs.Chains.{IsChain, histories}
use Rattle.ep_rules.specs.Closing.{has_seal, up_to_seal}
use Rattle.ep_rules.specs.Generations.{Named, joined, HasIn, Turn, birth, IsLife, lived, history_in, one_history}
use Rattle.ep_rules.specs.Journals.{Journals, Scheduled}
use Rattle.ep_rules.specs.Machines.{Machine, after_operations, reply_to, executed_at, executed_in}
use Rattle.ep_rules.specs.OneMap.{Contents, opened}
use Rattle.ep_rules.specs.Operations.{Operation}
use Rattle.ep_rules.specs.Worlds.{In}

-- the state with which a generation begins
abbrev pub state_at : {S R : Type 0} → Machine S R → S → (ℕ → List Operation) → ℕ → S
state_at M start h zero = start
state_at M start h (suc g) = after_operations M (state_at M start h g) (up_to_seal (h g))

-- what instance i of generation g is answered where operations of generations are done in turn
abbrev pub reply_in : {S R : Type 0} → Machine S R → S → List Named → ℕ → ℕ → Option R
reply_in M s [] g i = None
reply_in M s (o ∷ os) g i = cond (eqb o.generation g && eqb o.operation.instance i) (Some (M.reply s o.operation)) (reply_in M (M.after s o.operation) os g i)

-- what holds of a machine through the generations
pub record IsOneMachine {S R : Type 0} (M : Machine S R) (start : S) (n : ℕ) (f : ℕ → ℕ) (maps : ℕ → Contents) (journal : ℕ → Journals) (schedule : ℕ → List Scheduled) : Type 0 where
  -- what its replica's machine replies to an operation up to the seal, is what one machine replies that is handed the joined history
  pub replies :
      (g r : ℕ) (o : Operation) → g < n →
      let h = histories f maps schedule in
      let own = executed_in (opened (maps g)) (f g) (journal g) r in
      In o own → HasIn (joined h n) g o.instance →
      (x : R) × (reply_to M (state_at M start h g) own o.instance ≡ Some x) × (reply_in M start (joined h n) g o.instance ≡ Some x)
  -- whoever has executed a seal has brought its machine there into the state with which the next generation begins
  pub closes :
      (g r : ℕ) → g < n →
      let h = histories f maps schedule in
      let own = executed_in (opened (maps g)) (f g) (journal g) r in
      has_seal own ≡ true → after_operations M (state_at M start h g) (up_to_seal own) ≡ state_at M start h (suc g)

-- Whatever the machine, it is one through all generations of a chain of journals.
abbrev pub ChainsOneMachine : (S R : Type 0) → Type 0
ChainsOneMachine S R =
    (M : Machine S R) (start : S) (n : ℕ) (f : ℕ → ℕ) (maps : ℕ → Contents) (journal : ℕ → Journals) (schedule : ℕ → List Scheduled) →
    IsChain n f maps journal schedule → IsOneMachine M start n f maps journal schedule

-- what holds of a machine through the generations of a life
pub record IsOneMachineIn {S R : Type 0} (M : Machine S R) (start : S) (contents : Contents) (f : ℕ → ℕ) (turns : List Turn) : Type 0 where
  -- what its replica's machine replies to an operation up to the seal, is what one machine replies that is handed the life's history
  pub replies :
      (g r : ℕ) (o : Operation) →
      let own = executed_at ((lived f (birth contents) turns).worlds g) r in
      In o own → HasIn (one_history contents f turns) g o.instance →
      (x : R) × (reply_to M (state_at M start (history_in contents f turns) g) own o.instance ≡ Some x) × (reply_in M start (one_history contents f turns) g o.instance ≡ Some x)
  -- whoever has executed a seal has brought its machine there into the state with which the next generation begins
  pub closes :
      (g r : ℕ) →
      let own = executed_at ((lived f (birth contents) turns).worlds g) r in
      has_seal own ≡ true → after_operations M (state_at M start (history_in contents f turns) g) (up_to_seal own) ≡ state_at M start (history_in contents f turns) (suc g)

-- Whatever the machine, it is one through all generations of a life, by the history that makes the life linearizable.
abbrev pub LivesOneMachine : (S R : Type 0) → Type 0
LivesOneMachine S R =
    (M : Machine S R) (start : S) (contents : Contents) (f : ℕ → ℕ) → ((g : ℕ) → (0 < f g) × (size (f g) ≤ 256)) → (turns : List Turn) → IsLife f (birth contents) turns → IsOneMachineIn M start contents f turns
