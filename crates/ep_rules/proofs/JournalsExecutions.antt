-- The executions of a run: each replica's are a local run of executions, by one graph and one command an instance.
use Rattle.std.proofs.Common.{◌≡◌, ℕ, Bool, true, false, cond, eqb, inl, inr, Option, Some, None, List, [], ◌∷◌, ◌++◌, refl, sym, ap, subst, ◌∙◌, arith, append-nil}
use Rattle.std.proofs.lemmas.Bool.{eqb-true}
use Rattle.std.proofs.lemmas.Option.{same_Some}
use Rattle.std.specs.List.{flat_map}
use Rattle.ep_base.specs.declared.attrs.Attrs.{Attrs}
use Rattle.ep_base.specs.Commands.{Command}
use Rattle.ep_base.specs.declared.decree.Decree.{Decree}
use Rattle.ep_base.specs.declared.reply.Answer.{Answer}
use Rattle.ep_base.specs.Places.{Has}
use Rattle.ep_base.proofs.Places.{Has-first}
use Rattle.ep_rules.specs.Graph.{Graph}
use Rattle.ep_rules.specs.Order.{InBlocks, IsComplete, IsPlan}
use Rattle.ep_rules.specs.OneMap.{Store, after, after_all, answer, answers_of}
use Rattle.ep_rules.specs.History
use Rattle.ep_rules.specs.History.{Execution, Done, done_after, Agrees, IsLocal}
use Rattle.ep_rules.specs.States.{State, committed_in, attrs_of, command_of, graph_in, command_in}
use Rattle.ep_rules.specs.Steps.{Event, Propose, Handle, GiveUp, Recover, Execute, order_of, answers_in, Executes, leaves}
use Rattle.ep_rules.specs.Worlds.{World, Act, moved, IsRun, ends, Committed}
use Rattle.ep_rules.proofs.Reaching.{reach_trans}
use Rattle.ep_rules.proofs.Places.{has_split, has_tail}
use Rattle.ep_rules.proofs.Answered.{after_both}
use Rattle.ep_rules.proofs.JournalsCommitted.{none_some}

-- an act's execution, before those of the rest
abbrev pub exec_of : World → Act → Event → List Execution → List Execution
exec_of w a (Propose client request c seen spared) rest = rest
exec_of w a (Handle m) rest = rest
exec_of w a (GiveUp i) rest = rest
exec_of w a (Recover i) rest = rest
exec_of w a (Execute root) rest = record { replica = a.replica; graph = graph_in (w.states a.replica).records; root = root; order = order_of a.done; answers = answers_in a.done } ∷ rest

abbrev pub executions : ℕ → World → List Act → List Execution
executions f w [] = []
executions f w (a ∷ these) = exec_of w a a.event (executions f (moved f w a) these)

-- what a plan lists is committed
blocks_known : (g : Graph) (done : List ℕ) (root : ℕ) (blocks : List (List ℕ)) (i : ℕ) → IsComplete g root → InBlocks g done root blocks → Has (flat_map (λ b. b) blocks) i → (a : Attrs) × (g i ≡ Some a)
blocks_known g done root [] i full h k = absurd (omega arith)
blocks_known g done root (block ∷ blocks) i full h k = elim (has_split block (flat_map (λ b. b) blocks) i k) [
  | inl here ↦ full i (reach_trans h.0.reached ((h.0.is.members i).0 here).0.0)
  | inr later ↦ blocks_known g (done ++ block) root blocks i full h.1 later
]

plan_known : (g : Graph) (done : List ℕ) (root : ℕ) (order : List ℕ) (i : ℕ) → IsPlan g done root order → Has order i → (a : Attrs) × (g i ≡ Some a)
plan_known g done root order i (inl p) k = absurd (let z : Has [] i = subst (λ xs. Has xs i) p.1 k in omega arith)
plan_known g done root order i (inr p) k = blocks_known g done root p.1.1.0 i p.1.0 p.1.1.2 (subst (λ xs. Has xs i) p.1.1.1 k)

pub attrs_some : (o : Option Decree) (a : Attrs) → attrs_of o ≡ Some a → (x : Decree) × (o ≡ Some x) × (x.attrs ≡ a)
attrs_some None a e = none_some a e
attrs_some (Some x) a e = (x, refl, same_Some x.attrs a e)

pub nothing_done : (done : List (ℕ × Answer)) (i : ℕ) → done ≡ [] → Has (order_of done) i → ⊥
nothing_done done i none k = let z : Has [] i = subst (λ d. Has (order_of d) i) none k in omega arith

-- what an act executes is committed
pub step_known : (s : State) (e : Event) (done : List (ℕ × Answer)) (i : ℕ) → Executes s e done → Has (order_of done) i → (x : Decree) × (committed_in s.records i ≡ Some x)
step_known s (Propose client request c seen spared) done i h k = absurd (nothing_done done i h k)
step_known s (Handle m) done i h k = absurd (nothing_done done i h k)
step_known s (GiveUp j) done i h k = absurd (nothing_done done i h k)
step_known s (Recover j) done i h k = absurd (nothing_done done i h k)
step_known s (Execute root) done i h k =
    let a = plan_known (graph_in s.records) s.executed root (order_of done) i h.0 k in
    let x = attrs_some (committed_in s.records i) a.0 a.1 in
    (x.0, x.1)

after_same : (c d : ℕ → Command) (m : Store) (xs : List ℕ) → ((i : ℕ) → Has xs i → c i ≡ d i) → after_all c m xs ≡ after_all d m xs
after_same c d m [] h = refl
after_same c d m (x ∷ xs) h = after_same c d (after m (c x)) xs (λ i k. h i (has_tail x i xs k)) ∙ ap (λ y. after_all d (after m y) xs) (h x (Has-first x xs))

answers_same : (c d : ℕ → Command) (m : Store) (xs : List ℕ) → ((i : ℕ) → Has xs i → c i ≡ d i) → answers_of c m xs ≡ answers_of d m xs
answers_same c d m [] h = refl
answers_same c d m (x ∷ xs) h = ap (λ ys. answer m (c x) ∷ ys) (answers_same c d (after m (c x)) xs (λ i k. h i (has_tail x i xs k))) ∙ ap (λ y. answer m y ∷ answers_of d (after m y) xs) (h x (Has-first x xs))

module _ (base : Store) (f : ℕ) (all : ℕ → Option Decree) where
  abbrev pub graph : Graph
  graph i = attrs_of (all i)

  abbrev pub reported : ℕ → Command
  reported i = command_of (all i)

  -- what is committed at any time is what is committed
  abbrev pub Known : World → List Act → Type 0
  Known w these = (early late : List Act) → early ++ late ≡ these → (r i : ℕ) (x : Decree) → Committed (ends f w early) r i x → all i ≡ Some x

  -- each map is what was executed has left
  abbrev pub Stored : World → Type 0
  Stored w = (r : ℕ) → (w.states r).store ≡ after_all reported base (w.states r).executed

  pub known_next : (w : World) (a : Act) (these : List Act) → Known w (a ∷ these) → Known (moved f w a) these
  known_next w a these known early late e = known (a ∷ early) late (ap (λ z. a ∷ z) e)

  -- the commands of what is executed
  pub same_commands : (w : World) (a : Act) (these : List Act) → Known w (a ∷ these) → Executes (w.states a.replica) a.event a.done → (i : ℕ) → Has (order_of a.done) i → command_in (w.states a.replica).records i ≡ reported i
  same_commands w a these known h i k =
      let x = step_known (w.states a.replica) a.event a.done i h k in
      ap command_of x.1 ∙ sym (ap command_of (known [] (a ∷ these) refl a.replica i x.0 x.1))

  pub stored_next : (w : World) (a : Act) (these : List Act) → Known w (a ∷ these) → Executes (w.states a.replica) a.event a.done → Stored w → Stored (moved f w a)
  stored_next w a these known h stored r = go (eqb a.replica r) refl
    where
      go : (b : Bool) → eqb a.replica r ≡ b → (cond b (leaves f r (w.states r) a.event a.done) (w.states r)).store ≡ after_all reported base (cond b (leaves f r (w.states r) a.event a.done) (w.states r)).executed
      go false q = stored r
      go true q = subst (λ z. (leaves f z (w.states z) a.event a.done).store ≡ after_all reported base (leaves f z (w.states z) a.event a.done).executed) (eqb-true a.replica r q)
          (after_same (command_in (w.states a.replica).records) reported (w.states a.replica).store (order_of a.done) (same_commands w a these known h)
          ∙ ap (λ m. after_all reported m (order_of a.done)) (stored a.replica)
          ∙ sym (after_both reported base (w.states a.replica).executed (order_of a.done)))

  module _ (w : World) (a : Act) (these : List Act) (known : Known w (a ∷ these)) (stored : Stored w) (r : ℕ) where
    abbrev rest : List Execution
    rest = executions f (moved f w a) these

    abbrev one : ℕ → Execution
    one root = record { replica = a.replica; graph = graph_in (w.states a.replica).records; root = root; order = order_of a.done; answers = answers_in a.done }

    -- the run from what r has executed, after this act
    abbrev After : Bool → Type 0
    After b = IsLocal base graph reported (cond b (leaves f r (w.states r) a.event a.done) (w.states r)).executed (History.of r rest)

    same_executed : (b : Bool) → a.done ≡ [] → (cond b (leaves f r (w.states r) a.event a.done) (w.states r)).executed ≡ (w.states r).executed
    same_executed true none = ap (λ d. (w.states r).executed ++ order_of d) none ∙ append-nil (w.states r).executed
    same_executed false none = refl

    agrees : Agrees (graph_in (w.states a.replica).records) graph
    agrees i b e =
        let x = attrs_some (committed_in (w.states a.replica).records i) b e in
        ap attrs_of (known [] (a ∷ these) refl a.replica i x.0 x.1) ∙ ap Some x.2

    executed_one : (root : ℕ) → ((i : ℕ) → Has (order_of a.done) i → command_in (w.states a.replica).records i ≡ reported i) → IsPlan (graph_in (w.states a.replica).records) (w.states a.replica).executed root (order_of a.done) →
        answers_in a.done ≡ answers_of (command_in (w.states a.replica).records) (w.states a.replica).store (order_of a.done) →
        (b : Bool) → eqb a.replica r ≡ b → After b → IsLocal base graph reported (w.states r).executed (cond b (one root ∷ History.of r rest) (History.of r rest))
    executed_one root same plan answers false q rec = rec
    executed_one root same plan answers true q rec =
        let is = eqb-true a.replica r q in
        let by : answers_in a.done ≡ answers_of reported (after_all reported base (w.states a.replica).executed) (order_of a.done) =
        answers ∙ answers_same (command_in (w.states a.replica).records) reported (w.states a.replica).store (order_of a.done) same ∙ ap (λ m. answers_of reported m (order_of a.done)) (stored a.replica) in (
          agrees,
          subst (λ z. IsPlan (graph_in (w.states a.replica).records) (w.states z).executed root (order_of a.done)) is plan,
          subst (λ z. answers_in a.done ≡ answers_of reported (after_all reported base (w.states z).executed) (order_of a.done)) is by,
          rec,
        )

    no_step : a.done ≡ [] → After (eqb a.replica r) → IsLocal base graph reported (w.states r).executed (History.of r rest)
    no_step none rec = subst (λ xs. IsLocal base graph reported xs (History.of r rest)) (same_executed (eqb a.replica r) none) rec

    local_step : (e : Event) → Executes (w.states a.replica) e a.done → ((i : ℕ) → Has (order_of a.done) i → command_in (w.states a.replica).records i ≡ reported i) → After (eqb a.replica r) →
        IsLocal base graph reported (w.states r).executed (History.of r (exec_of w a e rest))
    local_step (Propose client request c seen spared) h same rec = no_step h rec
    local_step (Handle m) h same rec = no_step h rec
    local_step (GiveUp i) h same rec = no_step h rec
    local_step (Recover i) h same rec = no_step h rec
    local_step (Execute root) h same rec = executed_one root same h.0 h.1 (eqb a.replica r) refl rec

  -- each replica's executions are a local run
  pub local_runs : (these : List Act) (w : World) → IsRun f w these → Known w these → Stored w → (r : ℕ) → IsLocal base graph reported (w.states r).executed (History.of r (executions f w these))
  local_runs [] w h known stored r = tt
  local_runs (a ∷ these) w h known stored r =
      local_step w a these known stored r a.event h.0.step.executes (same_commands w a these known h.0.step.executes)
      (local_runs these (moved f w a) h.1 (known_next w a these known) (stored_next w a these known h.0.step.executes stored) r)

-- What a replica has executed.
module _ (f : ℕ) where
  grown : (w : World) (a : Act) (done : Done) → ((r : ℕ) → done r ≡ (w.states r).executed) → (r : ℕ) (b : Bool) → cond b (done r ++ order_of a.done) (done r) ≡ (cond b (leaves f r (w.states r) a.event a.done) (w.states r)).executed
  grown w a done h r true = ap (λ xs. xs ++ order_of a.done) (h r)
  grown w a done h r false = h r

  ungrown : (w : World) (a : Act) (done : Done) → a.done ≡ [] → ((r : ℕ) → done r ≡ (w.states r).executed) → (r : ℕ) (b : Bool) → done r ≡ (cond b (leaves f r (w.states r) a.event a.done) (w.states r)).executed
  ungrown w a done none h r true = h r ∙ sym (ap (λ d. (w.states r).executed ++ order_of d) none ∙ append-nil (w.states r).executed)
  ungrown w a done none h r false = h r

  -- (what the rest leaves, from what is executed after the act)
  done_step : (w : World) (a : Act) (later : List Execution) (done : Done) (e : Event) → Executes (w.states a.replica) e a.done → ((r : ℕ) → done r ≡ (w.states r).executed) →
      (next : Done) × ((r : ℕ) → next r ≡ ((moved f w a).states r).executed) × ((r : ℕ) → done_after done (exec_of w a e later) r ≡ done_after next later r)
  done_step w a later done (Propose client request c seen spared) h is = (done, λ r. ungrown w a done h is r (eqb a.replica r), λ r. refl)
  done_step w a later done (Handle m) h is = (done, λ r. ungrown w a done h is r (eqb a.replica r), λ r. refl)
  done_step w a later done (GiveUp i) h is = (done, λ r. ungrown w a done h is r (eqb a.replica r), λ r. refl)
  done_step w a later done (Recover i) h is = (done, λ r. ungrown w a done h is r (eqb a.replica r), λ r. refl)
  done_step w a later done (Execute root) h is = (λ r. cond (eqb a.replica r) (done r ++ order_of a.done) (done r), λ r. grown w a done is r (eqb a.replica r), λ r. refl)

  pub done_is : (these : List Act) (w : World) (done : Done) → IsRun f w these → ((r : ℕ) → done r ≡ (w.states r).executed) → (r : ℕ) → done_after done (executions f w these) r ≡ ((ends f w these).states r).executed
  done_is [] w done h e r = e r
  done_is (a ∷ these) w done h e r =
      let s = done_step w a (executions f (moved f w a) these) done a.event h.0.step.executes e in
      s.2 r ∙ done_is these (moved f w a) s.0 h.1 s.1 r
