-- A replica executes no instance twice.
use Rattle.std.proofs.Common.{◌≡◌, ℕ, inl, inr, List, [], ◌∷◌, ◌++◌, sym, subst, append-nil, append_assoc}
use Rattle.std.specs.List.{flat_map}
use Rattle.ep_base.specs.declared.reply.Answer.{Answer}
use Rattle.ep_rules.specs.Counts.{AreOnce, ExecutedOnce}
use Rattle.ep_rules.specs.Graph.{Graph}
use Rattle.ep_rules.specs.Journals.{Entry, AreSteps, left}
use Rattle.ep_rules.specs.Order.{InBlocks, IsPlan}
use Rattle.ep_rules.specs.States.{State, fresh_state, graph_in}
use Rattle.ep_rules.specs.Steps.{Event, Propose, Handle, GiveUp, Recover, Execute, Executes, order_of, leaves}
use Rattle.ep_rules.proofs.Places.{Once, once-append}
use Rattle.ep_rules.proofs.Ranks.{once_rises}

-- the law's word for it, and the proofs'
pub as_once : (is : List ℕ) → Once is → AreOnce is
as_once [] o = tt
as_once (i ∷ is) o = (o.0, as_once is o.1)

pub from_once : (is : List ℕ) → AreOnce is → Once is
from_once [] o = tt
from_once (i ∷ is) o = (o.0, from_once is o.1)

pub once_right : (xs ys : List ℕ) → Once (xs ++ ys) → Once ys
once_right [] ys o = o
once_right (x ∷ xs) ys o = once_right xs ys o.1

blocks_once : (g : Graph) (done : List ℕ) (root : ℕ) (blocks : List (List ℕ)) → Once done → InBlocks g done root blocks → Once (done ++ flat_map (λ b. b) blocks)
blocks_once g done root [] o h = rw append-nil o
blocks_once g done root (block ∷ blocks) o h =
    subst Once (append_assoc done block (flat_map (λ b. b) blocks))
    (blocks_once g (done ++ block) root blocks (once-append done block o (once_rises g block h.0.is.rises) (λ i here k. ((h.0.is.members i).0 k).1 here)) h.1)

plan_once : (g : Graph) (done : List ℕ) (root : ℕ) (order : List ℕ) → Once done → IsPlan g done root order → Once (done ++ order)
plan_once g done root order o (inl p) = rw p.1 (rw append-nil o)
plan_once g done root order o (inr p) = rw p.1.1.1 (blocks_once g done root p.1.1.0 o p.1.1.2)

none_more : (done : List ℕ) (ds : List (ℕ × Answer)) → ds ≡ [] → Once done → Once (done ++ order_of ds)
none_more done ds none o = subst (λ xs. Once (done ++ order_of xs)) (sym none) (rw append-nil o)

-- an event executes what wasn't executed before it
pub event_once : (s : State) (e : Event) (ds : List (ℕ × Answer)) → Executes s e ds → Once s.executed → Once (s.executed ++ order_of ds)
event_once s (Propose client request c seen spared) ds h o = none_more s.executed ds h o
event_once s (Handle m) ds h o = none_more s.executed ds h o
event_once s (GiveUp i) ds h o = none_more s.executed ds h o
event_once s (Recover i) ds h o = none_more s.executed ds h o
event_once s (Execute root) ds h o = plan_once (graph_in s.records) s.executed root (order_of ds) o h.0

pub steps_once : (f me : ℕ) (s : State) (es : List Entry) → AreSteps f me s es → Once s.executed → Once (left f me s es).executed
steps_once f me s [] steps o = o
steps_once f me s (e ∷ es) steps o = steps_once f me (leaves f me s e.event e.done) es steps.1 (event_once s e.event e.done steps.0.step.executes o)

pub executed_once_lem : ExecutedOnce
executed_once_lem base f me es run = as_once (left f me (fresh_state base) es).executed (steps_once f me (fresh_state base) es run.1 tt)
