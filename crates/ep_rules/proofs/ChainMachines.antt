-- Any machine through the generations of a chain.
use Rattle.std.proofs.Common.{◌≡◌, ℕ, zero, suc, ◌<◌, ◌≤◌, ◌⊎◌, inl, inr, Bool, true, false, cond, eqb, Some, List, [], ◌∷◌, ◌++◌, length, refl, sym, ap, subst, ◌∙◌, arith, append-nil}
use Rattle.std.proofs.lemmas.Bool.{cases_lt, eq-eqb, false≢true}
use Rattle.std.specs.Prelude.{◌&&◌}
use Rattle.ep_base.specs.Interference.{is_seal}
use Rattle.ep_base.specs.Places.{Has}
use Rattle.ep_base.specs.Quorums.{size}
use Rattle.ep_rules.specs.Chains.{histories}
use Rattle.ep_rules.specs.Closing.{has_seal, up_to_seal}
use Rattle.ep_rules.specs.Generations.{Named, named, operations, joined, place_in, HasIn, Turn, birth, IsLife, lived, ages, acts_in, opening_map, history_in, one_history}
use Rattle.ep_rules.specs.Journals.{acts_of}
use Rattle.ep_rules.specs.MachineChains.{state_at, reply_in, ChainsOneMachine, IsOneMachineIn, LivesOneMachine}
use Rattle.ep_rules.specs.Machines.{Machine, after_operations, reply_to, executed_in, executed_at}
use Rattle.ep_rules.specs.Merging.{Merges}
use Rattle.ep_rules.specs.OneMap.{Contents, Store, opened}
use Rattle.ep_rules.specs.Operations.{Operation, instances_of, operations_of}
use Rattle.ep_rules.specs.States.{State, command_in}
use Rattle.ep_rules.specs.Worlds.{World, In, IsRun, opening, ends}
use Rattle.ep_rules.proofs.ClosingMachines.{runs_close_machines_lem, journals_one_machine_lem}
use Rattle.ep_rules.proofs.JoinedHistories.{J_back, J_forth}
use Rattle.ep_rules.proofs.JournalsCommitted.{is_run, state_is}
use Rattle.ep_rules.proofs.KeepingMachines.{machines_resume_lem}
use Rattle.ep_rules.proofs.Lives.{kept_at}
use Rattle.ep_rules.proofs.RunMachines.{runs_one_machine_lem}
use Rattle.ep_rules.proofs.NamedPlaces.{operations_named, operations_both}

-- operations go on after those up to the first seal
cut_goes_on : (h : List Operation) → (rest : List Operation) × (h ≡ up_to_seal h ++ rest)
cut_goes_on [] = ([], refl)
cut_goes_on (o ∷ os) = go (is_seal o.command) (cut_goes_on os)
  where
    go : (b : Bool) → (rest : List Operation) × (os ≡ up_to_seal os ++ rest) → (rest : List Operation) × (o ∷ os ≡ (o ∷ cond b [] (up_to_seal os)) ++ rest)
    go true t = (os, refl)
    go false t = (t.0, ap (λ ps. o ∷ ps) t.1)

module _ {S R : Type 0} (M : Machine S R) where
  resumed : (s : S) (xs ys : List Operation) → after_operations M s (xs ++ ys) ≡ after_operations M (after_operations M s xs) ys
  resumed s xs ys = (machines_resume_lem S R M s xs ys).0

  -- what stands up to the seal is answered the same
  cut_reported : (s : S) (h : List Operation) (i : ℕ) → Has (instances_of (up_to_seal h)) i → reply_to M s h i ≡ reply_to M s (up_to_seal h) i
  cut_reported s h i k = let t = cut_goes_on h in ap (λ os. reply_to M s os i) t.1 ∙ (machines_resume_lem S R M s (up_to_seal h) t.0).1 i k

  -- operations of generations

  reply_first : (s : S) (xs ys : List Named) (g i : ℕ) → HasIn xs g i → reply_in M s (xs ++ ys) g i ≡ reply_in M s xs g i
  reply_first s [] ys g i h = absurd (omega arith)
  reply_first s (x ∷ xs) ys g i h = go (eqb x.generation g && eqb x.operation.instance i) h (reply_first (M.after s x.operation) xs ys g i)
    where
      go : (b : Bool) → cond b 0 (suc (place_in xs g i)) < suc (length xs) → (HasIn xs g i → reply_in M (M.after s x.operation) (xs ++ ys) g i ≡ reply_in M (M.after s x.operation) xs g i) →
          cond b (Some (M.reply s x.operation)) (reply_in M (M.after s x.operation) (xs ++ ys) g i) ≡ cond b (Some (M.reply s x.operation)) (reply_in M (M.after s x.operation) xs g i)
      go true l rec = refl
      go false l rec = rec (omega arith)

  reply_second : (s : S) (xs ys : List Named) (g i : ℕ) → (HasIn xs g i → ⊥) → reply_in M s (xs ++ ys) g i ≡ reply_in M (after_operations M s (operations xs)) ys g i
  reply_second s [] ys g i n = refl
  reply_second s (x ∷ xs) ys g i n = go (eqb x.generation g && eqb x.operation.instance i) n (reply_second (M.after s x.operation) xs ys g i)
    where
      go : (b : Bool) → (cond b 0 (suc (place_in xs g i)) < suc (length xs) → ⊥) →
          ((HasIn xs g i → ⊥) → reply_in M (M.after s x.operation) (xs ++ ys) g i ≡ reply_in M (after_operations M (M.after s x.operation) (operations xs)) ys g i) →
          cond b (Some (M.reply s x.operation)) (reply_in M (M.after s x.operation) (xs ++ ys) g i) ≡ reply_in M (after_operations M (M.after s x.operation) (operations xs)) ys g i
      go true n rec = absurd (n (omega arith))
      go false n rec = rec (λ h. n (omega arith))

  reply_named : (s : S) (g : ℕ) (os : List Operation) (i : ℕ) → reply_in M s (named g os) g i ≡ reply_to M s os i
  reply_named s g [] i = refl
  reply_named s g (o ∷ os) i =
      ap (λ b. cond (b && eqb o.instance i) (Some (M.reply s o)) (reply_in M (M.after s o) (named g os) g i)) (eq-eqb g g refl)
      ∙ ap (λ x. cond (eqb o.instance i) (Some (M.reply s o)) x) (reply_named (M.after s o) g os i)

  module _ (start : S) (h : ℕ → List Operation) where
    -- what the joined history leaves
    joined_left : (n : ℕ) → after_operations M start (operations (joined h n)) ≡ state_at M start h n
    joined_left zero = refl
    joined_left (suc m) =
        ap (λ os. after_operations M start os) (operations_both (joined h m) (named m (up_to_seal (h m))) ∙ ap (λ os. operations (joined h m) ++ os) (operations_named m (up_to_seal (h m))))
        ∙ resumed start (operations (joined h m)) (up_to_seal (h m))
        ∙ ap (λ s. after_operations M s (up_to_seal (h m))) (joined_left m)

    -- what it answers an operation of a generation
    joined_reported : (n g i : ℕ) → g < n → Has (instances_of (up_to_seal (h g))) i → reply_in M start (joined h n) g i ≡ reply_to M (state_at M start h g) (up_to_seal (h g)) i
    joined_reported zero g i lt k = absurd (omega arith)
    joined_reported (suc m) g i lt k = elim (cases_lt g m) [
      | inl less ↦ reply_first start (joined h m) (named m (up_to_seal (h m))) g i (J_forth h m g i less k) ∙ joined_reported m g i less k
      | inr ge ↦ (
          let is : m ≡ g = omega arith in
          reply_second start (joined h m) (named m (up_to_seal (h m))) g i (λ has. let b = (J_back h m g i has).0 in omega arith)
          ∙ ap (λ s. reply_in M s (named m (up_to_seal (h m))) g i) (joined_left m)
          ∙ ap (λ z. reply_in M (state_at M start h z) (named z (up_to_seal (h z))) g i) is
          ∙ reply_named (state_at M start h g) g (up_to_seal (h g)) i)
    ]

pub chains_one_machine_lem : (S R : Type 0) → ChainsOneMachine S R
chains_one_machine_lem S R M start n f maps journal schedule chain =
    let h : ℕ → List Operation = histories f maps schedule in
    record {
      replies = λ g r o lt k has. (
          let x = journals_one_machine_lem S R M (state_at M start h g) (opened (maps g)) (f g) (journal g) (schedule g) (chain.merges g lt) r o k in
          let there = (J_back h n g o.instance has).1 in
          (x.0, x.1, joined_reported M start h n g o.instance lt there ∙ sym (cut_reported M (state_at M start h g) (h g) o.instance there) ∙ x.2));
      closes = λ g r lt seals. (
          let given : Merges (opened (maps g)) (f g) (journal g) (schedule g) = chain.merges g lt in
          let same : executed_at (ends (f g) (opening (opened (maps g))) (acts_of (schedule g))) r ≡ executed_in (opened (maps g)) (f g) (journal g) r =
          ap (λ (s : State). operations_of (command_in s.records) s.executed) (state_is (opened (maps g)) (f g) (journal g) (schedule g) given r) in
          let t = runs_close_machines_lem S R M (state_at M start h g) (opened (maps g)) (f g) given.some given.few (acts_of (schedule g)) (is_run (opened (maps g)) (f g) (journal g) (schedule g) given) r (subst (λ os. has_seal os ≡ true) (sym same) seals) in
          ap (λ os. after_operations M (state_at M start h g) (up_to_seal os)) (sym same) ∙ t.1);
    }

-- Lives.

module _ (contents : Contents) (f : ℕ → ℕ) (sizes : (g : ℕ) → (0 < f g) × (size (f g) ≤ 256)) (turns : List Turn) (life : IsLife f (birth contents) turns) where
  abbrev h_in : ℕ → List Operation
  h_in = history_in contents f turns

  abbrev base_in : ℕ → Store
  base_in g = opened (opening_map contents f turns g)

  abbrev world_in : ℕ → World
  world_in g = (lived f (birth contents) turns).worlds g

  -- the generation as a run
  abbrev run_of : ℕ → World
  run_of g = ends (f g) (opening (base_in g)) (acts_in g turns)

  is_run_of : (g : ℕ) → IsRun (f g) (opening (base_in g)) (acts_in g turns)
  is_run_of g = ((kept_at contents f sizes turns turns [] (append-nil turns) life).each g).run

  -- who has executed something has opened the generation, and has the run's state
  same_there : (g r : ℕ) → (executed_at (world_in g) r ≡ executed_at (run_of g) r) ⊎ (executed_at (world_in g) r ≡ [])
  same_there g r = go ((lived f (birth contents) turns).has_opened g r) refl
    where
      go : (b : Bool) → (lived f (birth contents) turns).has_opened g r ≡ b → (executed_at (world_in g) r ≡ executed_at (run_of g) r) ⊎ (executed_at (world_in g) r ≡ [])
      go true e = inl (ap (λ (s : State). operations_of (command_in s.records) s.executed) (((kept_at contents f sizes turns turns [] (append-nil turns) life).each g).same r e))
      go false e = inr (ap (λ xs. operations_of (command_in ((world_in g).states r).records) xs) (((kept_at contents f sizes turns turns [] (append-nil turns) life).each g).idle r e))

  module _ {S R : Type 0} (M : Machine S R) (start : S) where
    abbrev begin : ℕ → S
    begin g = state_at M start h_in g

    life_reported : (g r : ℕ) (o : Operation) → In o (executed_at (run_of g) r) → HasIn (one_history contents f turns) g o.instance →
        (x : R) × (reply_to M (begin g) (executed_at (run_of g) r) o.instance ≡ Some x) × (reply_in M start (one_history contents f turns) g o.instance ≡ Some x)
    life_reported g r o k has =
        let x = runs_one_machine_lem S R M (begin g) (base_in g) (f g) (sizes g).0 (sizes g).1 (acts_in g turns) (is_run_of g) r o k in
        let there = J_back h_in (ages turns) g o.instance has in
        (x.0, x.1, joined_reported M start h_in (ages turns) g o.instance there.0 there.1 ∙ sym (cut_reported M (begin g) (h_in g) o.instance there.1) ∙ x.2)

    life_closes : (g r : ℕ) → has_seal (executed_at (run_of g) r) ≡ true → after_operations M (begin g) (up_to_seal (executed_at (run_of g) r)) ≡ begin (suc g)
    life_closes g r e = (runs_close_machines_lem S R M (begin g) (base_in g) (f g) (sizes g).0 (sizes g).1 (acts_in g turns) (is_run_of g) r e).1

    one_machine_in : IsOneMachineIn M start contents f turns
    one_machine_in = record {
      replies = λ g r o k has. elim (same_there g r) [
        | inl e ↦ (let x = life_reported g r o (subst (λ os. In o os) e k) has in (x.0, ap (λ os. reply_to M (begin g) os o.instance) e ∙ x.1, x.2))
        | inr e ↦ absurd (subst (λ os. In o os) e k)
      ];
      closes = λ g r seals. elim (same_there g r) [
        | inl e ↦ ap (λ os. after_operations M (begin g) (up_to_seal os)) e ∙ life_closes g r (subst (λ os. has_seal os ≡ true) e seals)
        | inr e ↦ absurd (false≢true (subst (λ os. has_seal os ≡ true) e seals))
      ];
    }

pub lives_one_machine_lem : (S R : Type 0) → LivesOneMachine S R
lives_one_machine_lem S R M start contents f sizes turns life = one_machine_in contents f sizes turns life M start
