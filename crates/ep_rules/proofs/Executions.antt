-- Executions keep each replica's list, and the history, in execution order.
use Rattle.std.proofs.Common.{◌≡◌, ℕ, inl, inr, List, [], ◌∷◌, ◌++◌, Bool, true, false, cond, eqb, refl, subst}
use Rattle.std.proofs.lemmas.Bool.{eqb-true}
use Rattle.std.specs.List.{filter}
use Rattle.ep_base.specs.Places.{Has}
use Rattle.ep_rules.specs.Graph.{Graph}
use Rattle.ep_rules.proofs.Places.{has_or, has_left, has_right, has_split, filter_has}
use Rattle.ep_rules.specs.History.{Execution, Done, nothing, with_done, done_after, Agrees, is_new, merged}
use Rattle.ep_base.specs.Commands.{Command}
use Rattle.ep_rules.specs.Order.{IsPlan}
use Rattle.ep_rules.specs.OneMap.{after_all, answers_of, Store}
use Rattle.ep_rules.proofs.Wells.{Well, well_nil, well_plan, well_merge, same_news, new_yes}

pub record AllWell (g : Graph) (done : Done) (h : List ℕ) : Type 0 where
  pub each : (r : ℕ) → Well g (done r)
  pub whole : Well g h
  pub within : (r : ℕ) (i : ℕ) → Has (done r) i → Has h i

module _ (g : Graph) (done : Done) (h : List ℕ) (w : AllWell g done h) (r : ℕ) (order : List ℕ) (next : Well g (done r ++ order)) where
  each' : (q : ℕ) (b : Bool) → eqb r q ≡ b → Well g (cond b (done q ++ order) (done q))
  each' q true e = subst (λ x. Well g (done x ++ order)) (eqb-true r q e) next
  each' q false e = w.each q

  more : List ℕ
  more = h ++ filter (is_new h) order

  whole' : Well g more
  unfolding more
  whole' = subst (λ xs. Well g (h ++ xs)) (same_news h (done r) order (w.within r)) (well_merge g h (done r ++ order) w.whole next)

  in_more : (i : ℕ) → Has order i → Has more i
  unfolding more
  in_more i k = elim (has_or h i) [
    | inl a ↦ has_left h (filter (is_new h) order) i a
    | inr n ↦ has_right h (filter (is_new h) order) i (filter_has (is_new h) order i (new_yes g h h w.whole w.whole i n) k)
  ]

  within' : (q : ℕ) (b : Bool) (i : ℕ) → Has (cond b (done q ++ order) (done q)) i → Has more i
  unfolding more
  within' q true i k = elim (has_split (done q) order i k) [ inl a ↦ has_left h (filter (is_new h) order) i (w.within q i a) | inr a ↦ in_more i a ]
  within' q false i k = has_left h (filter (is_new h) order) i (w.within q i k)

pub all_well_next : (g : Graph) (done : Done) (h : List ℕ) (e : Execution) → AllWell g done h → Well g (done e.replica ++ e.order) → AllWell g (with_done done e) (h ++ filter (is_new h) e.order)
unfolding more
all_well_next g done h e w next = record {
  each = λ q. each' g done h w e.replica e.order next q (eqb e.replica q) refl;
  whole = whole' g done h w e.replica e.order next;
  within = λ q i k. within' g done h w e.replica e.order next q (eqb e.replica q) i k;
}

-- each execution is a plan of its root at its replica
abbrev pub AreExecuted : Graph → Done → List Execution → Type 0
AreExecuted all done [] = Unit {0}
AreExecuted all done (e ∷ es) = Agrees e.graph all × IsPlan e.graph (done e.replica) e.root e.order × AreExecuted all (with_done done e) es

-- each execution answers by its replica's own map, which what was executed there has left
abbrev pub AreAnswered : (base : Store) → (ℕ → Command) → Done → List Execution → Type 0
AreAnswered base c done [] = Unit {0}
AreAnswered base c done (e ∷ es) = (e.answers ≡ answers_of c (after_all c base (done e.replica)) e.order) × AreAnswered base c (with_done done e) es

pub all_well : (g : Graph) (done : Done) (h : List ℕ) (es : List Execution) → AllWell g done h → AreExecuted g done es → AllWell g (done_after done es) (merged h es)
all_well g done h [] w x = w
all_well g done h (e ∷ es) w x =
    all_well g (with_done done e) (h ++ filter (is_new h) e.order) es
    (all_well_next g done h e w (well_plan e.graph g (done e.replica) e.root e.order x.0 (w.each e.replica) x.1)) x.2

pub start : (g : Graph) → AllWell g nothing []
start g = record { each = λ r. well_nil g; whole = well_nil g; within = λ r i k. k }
