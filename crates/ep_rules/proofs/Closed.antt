-- What a replica has executed is closed, and each step keeps it so.
use Rattle.std.proofs.Common.{◌≡◌, ℕ, inl, inr, List, [], ◌∷◌, ◌++◌, Some, sym, ap, subst, ◌∙◌, arith, append-nil, append_assoc}
use Rattle.std.specs.List.{flat_map}
use Rattle.ep_base.specs.declared.attrs.Attrs.{Attrs}
use Rattle.ep_base.specs.declared.reply.Answer.{Answer}
use Rattle.ep_base.specs.Places.{Has}
use Rattle.ep_rules.specs.Graph.{Graph, Reaches}
use Rattle.ep_rules.specs.Graph.Reaches.{onward}
use Rattle.ep_rules.specs.Order.{IsClosed, IsOrder, IsPlan, InBlocks}
use Rattle.ep_rules.specs.States.{State, fresh_state, committed_in, attrs_of, graph_in}
use Rattle.ep_rules.specs.Steps.{Event, Propose, Handle, GiveUp, Recover, Execute, order_of, acts, changed_by, Executes, IsStep, leaves}
use Rattle.ep_rules.proofs.JournalsExecutions.{attrs_some}
use Rattle.ep_rules.proofs.Local.{local_acts}
use Rattle.ep_rules.proofs.Places.{has_left, has_split}
use Rattle.ep_rules.proofs.Reaching.{reach_trans}
use Rattle.ep_rules.proofs.JournalsKeep.{changed_stays}
use Rattle.ep_rules.specs.OneMap.{Store}

pub closed_nil : (g : Graph) → IsClosed g []
closed_nil g i h = absurd (omega arith)

-- What a plan lists.

-- all that the root reaches is listed, or was executed
reached_listed : (g : Graph) (done : List ℕ) (root : ℕ) (blocks : List (List ℕ)) → InBlocks g done root blocks → (j : ℕ) → Reaches g root j → Has (done ++ flat_map (λ b. b) blocks) j
reached_listed g done root [] h j r = has_left done [] j (h j r)
reached_listed g done root (block ∷ blocks) h j r = subst (λ xs. Has xs j) (append_assoc done block (flat_map (λ b. b) blocks)) (reached_listed g (done ++ block) root blocks h.1 j r)

-- and nothing else
pub listed_reached : (g : Graph) (done : List ℕ) (root : ℕ) (blocks : List (List ℕ)) → InBlocks g done root blocks → (j : ℕ) → Has (flat_map (λ b. b) blocks) j → Reaches g root j
listed_reached g done root [] h j k = absurd (omega arith)
listed_reached g done root (block ∷ blocks) h j k = elim (has_split block (flat_map (λ b. b) blocks) j k) [
  | inl here ↦ reach_trans h.0.reached ((h.0.is.members j).0 here).0.0
  | inr later ↦ listed_reached g (done ++ block) root blocks h.1 j later
]

-- an execution keeps what was executed closed
closed_listed : (g : Graph) (done : List ℕ) (root : ℕ) (order : List ℕ) → IsClosed g done → IsOrder g done root order → IsClosed g (done ++ order)
closed_listed g done root order closed p i h = elim (has_split done order i h) [
  | inl k ↦ (let c = closed i k in (c.0, c.1, λ j q. has_left done order j (c.2 j q)))
  | inr k ↦ (let r = reached i k in let a = p.0 i r in (a.0, a.1, λ j q. listed j (onward a.0 r a.1 q)))
]
  where
    reached : (j : ℕ) → Has order j → Reaches g root j
    reached j k = listed_reached g done root p.1.0 p.1.2 j (subst (λ xs. Has xs j) p.1.1 k)

    listed : (j : ℕ) → Reaches g root j → Has (done ++ order) j
    listed j r = subst (λ xs. Has (done ++ xs) j) (sym p.1.1) (reached_listed g done root p.1.0 p.1.2 j r)

pub closed_plan : (g : Graph) (done : List ℕ) (root : ℕ) (order : List ℕ) → IsClosed g done → IsPlan g done root order → IsClosed g (done ++ order)
closed_plan g done root order closed (inl p) = rw p.1 (rw append-nil closed)
closed_plan g done root order closed (inr p) = closed_listed g done root order closed p.1

-- What is committed stays so.

closed_grows : (g g' : Graph) (done : List ℕ) → ((i : ℕ) (a : Attrs) → g i ≡ Some a → g' i ≡ Some a) → IsClosed g done → IsClosed g' done
closed_grows g g' done up closed i h = let c = closed i h in (c.0, up i c.0 c.1, c.2)

-- The step.

closed_same : (g : Graph) (done : List ℕ) (answers : List (ℕ × Answer)) → answers ≡ [] → IsClosed g done → IsClosed g (done ++ order_of answers)
closed_same g done answers none closed = subst (λ xs. IsClosed g (done ++ order_of xs)) (sym none) (rw append-nil closed)

closed_after : (s : State) (e : Event) (done : List (ℕ × Answer)) → Executes s e done → IsClosed (graph_in s.records) s.executed → IsClosed (graph_in s.records) (s.executed ++ order_of done)
closed_after s (Propose client request c seen spared) done h closed = closed_same (graph_in s.records) s.executed done h closed
closed_after s (Handle m) done h closed = closed_same (graph_in s.records) s.executed done h closed
closed_after s (GiveUp i) done h closed = closed_same (graph_in s.records) s.executed done h closed
closed_after s (Recover i) done h closed = closed_same (graph_in s.records) s.executed done h closed
closed_after s (Execute root) done h closed = closed_plan (graph_in s.records) s.executed root (order_of done) closed h.0

-- what is executed after a step is closed, and so is what is at first
pub leaves_closed : (f me : ℕ) (s : State) (e : Event) (done : List (ℕ × Answer)) → IsClosed (graph_in s.records) s.executed → IsStep f me s e done → IsClosed (graph_in (leaves f me s e done).records) (leaves f me s e done).executed
leaves_closed f me s e done closed step =
    closed_grows (graph_in s.records) (graph_in (changed_by s (acts f me s e)).records) (s.executed ++ order_of done)
    (λ i a is. (let x = attrs_some (committed_in s.records i) a is in ap attrs_of (changed_stays s (acts f me s e) (local_acts f me s e) i x.0 x.1) ∙ ap Some x.2))
    (closed_after s e done step.executes closed)

pub fresh_closed : (base : Store) → IsClosed (graph_in (fresh_state base).records) (fresh_state base).executed
fresh_closed base = closed_nil (graph_in (fresh_state base).records)
