-- Local runs, interleaved.
use Rattle.std.proofs.Common.{◌≡◌, ℕ, ◌⊎◌, inl, inr, List, [], ◌∷◌, ◌++◌, Bool, true, false, cond, eqb, refl, sym, subst, arith}
use Rattle.std.proofs.lemmas.Bool.{eq-eqb}
use Rattle.std.specs.List.{filter, AllByRecursion}
use Rattle.ep_base.specs.Places.{Has}
use Rattle.ep_rules.specs.Graph.{Graph}
use Rattle.ep_rules.proofs.Places.{has_right, has_split, Once}
use Rattle.ep_rules.specs.History.{Execution, Done, nothing, with_done, done_after, merged, is_new, of, IsLocal, IsWhole, OneOrder, OneReply, Components, OneHistory}
use Rattle.ep_base.specs.Commands.{Command}
use Rattle.ep_rules.proofs.Wells.{well_plan, same_order, linked, well_ordered}
use Rattle.ep_rules.proofs.Replies.{one_reply}
use Rattle.ep_rules.proofs.Executions.{AreExecuted, AreAnswered, AllWell, all_well, all_well_next, start}
use Rattle.ep_rules.proofs.Answered.{one_history_of}
use Rattle.ep_rules.specs.OneMap.{Store}

-- after the first execution the runs are local still
local_next : (base : Store) → (all : Graph) (c : ℕ → Command) (done : Done) (e : Execution) (es : List Execution) (r : ℕ) (b : Bool) → IsLocal base all c (done r) (cond b (e ∷ of r es) (of r es)) → IsLocal base all c (cond b (done r ++ e.order) (done r)) (of r es)
local_next base all c done e es r true h = h.3
local_next base all c done e es r false h = h

pub interleaved : (base : Store) → (all : Graph) (c : ℕ → Command) (done : Done) (es : List Execution) → ((r : ℕ) → IsLocal base all c (done r) (of r es)) → AreExecuted all done es × AreAnswered base c done es
interleaved base all c done [] h = (tt, tt)
interleaved base all c done (e ∷ es) h =
    let mine : IsLocal base all c (done e.replica) (e ∷ of e.replica es) = subst (λ b. IsLocal base all c (done e.replica) (cond b (e ∷ of e.replica es) (of e.replica es))) (eq-eqb e.replica e.replica refl) (h e.replica) in
    let rest = interleaved base all c (with_done done e) es (λ r. local_next base all c done e es r (eqb e.replica r) (h r)) in
    ((mine.0, mine.1, rest.0), (mine.2, rest.1))

pub one_history_lem : OneHistory
one_history_lem base all c es dep h = let x = interleaved base all c nothing es h in one_history_of base all c es dep x.0 x.1

pub one_order_lem : OneOrder
one_order_lem base all c es dep h r i j hi hj ne inter =
    let w = all_well all nothing [] es (start all) (interleaved base all c nothing es h).0 in
    let d = w.each r in
    let link = linked all c dep i j ne (d.committed i hi) (d.committed j hj) inter in (
      same_order all (done_after nothing es r) (merged [] es) d w.whole i j (w.within r i hi) hj link,
      same_order all (merged [] es) (done_after nothing es r) w.whole d i j hi (w.within r j hj) link,
    )

pub one_reply_lem : OneReply
one_reply_lem base all c es dep h r i hi =
    let w = all_well all nothing [] es (start all) (interleaved base all c nothing es h).0 in
    let d = w.each r in
    let hw = w.within r i hi in
    (hw, one_reply base c i (done_after nothing es r) (merged [] es) d.once w.whole.once hi hw (well_ordered all c dep (done_after nothing es r) (merged [] es) d w.whole))

-- in a list with each once, what stands in the second part doesn't in the first
pub apart : (xs ys : List ℕ) (i : ℕ) → Once (xs ++ ys) → Has xs i → Has ys i → ⊥
apart [] ys i o h k = omega arith
apart (x ∷ xs) ys i o h k = elim (has_cons' x i xs h) [ inl e ↦ o.0 (has_right xs ys x (subst (λ y. Has ys y) (sym e) k)) | inr t ↦ apart xs ys i o.1 t k ]
  where
    has_cons' : (x i : ℕ) (xs : List ℕ) → Has (x ∷ xs) i → (x ≡ i) ⊎ Has xs i
    has_cons' x i xs h = Rattle.ep_rules.proofs.Places.has_cons x i xs h

whole_each : (all : Graph) (done : Done) (h : List ℕ) (es : List Execution) → AllWell all done h → AreExecuted all done es → AllByRecursion (IsWhole all) es
whole_each all done h [] w x = tt
whole_each all done h (e ∷ es) w x =
    let next = well_plan e.graph all (done e.replica) e.root e.order x.0 (w.each e.replica) x.1 in (
      λ i j hi r b. elim (has_split (done e.replica) e.order j (next.closed i j (has_right (done e.replica) e.order i hi) r)) [
        | inl d ↦ absurd (apart (done e.replica) e.order i next.once ((w.each e.replica).closed j i d b) hi)
        | inr k ↦ k
      ],
      whole_each all (with_done done e) (h ++ filter (is_new h) e.order) es (all_well_next all done h e w next) x.2,
    )

pub components_lem : Components
components_lem base all c es h =
    let x = interleaved base all c nothing es h in
    (whole_each all nothing [] es (start all) x.0, λ r i j hi q. ((all_well all nothing [] es (start all) x.0).each r).closed i j hi q)
