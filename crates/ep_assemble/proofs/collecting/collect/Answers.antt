use Rattle.std.proofs.Common.{rules, ◌≡◌, ◌<◌, ℕ, List, refl, sym, subst, ap, ◌∙◌}
use Rattle.std.proofs.lemmas.List.{with_items_is}
use Rattle.std.proofs.lemmas.Result.{err_from_is_err_and}
use Rattle.std.specs.List.Sorted.{IsPermutation}
use Rattle.ep_base.specs.Quorums.{size}
use Rattle.ep_journal.specs.Entries.{Log, AreInOrder, all_entries}
use Rattle.ep_assemble.specs.Clusters.{AreOfOne, IsRefused, count_of}
use Rattle.ep_assemble.proofs.Ordered.{are_in_order, collected, moved, no_fault}
use Rattle.ep_assemble.proofs.collecting.collect.Goals as goal

pub returns-in_err-cluster-clause-exact : goal.returns-in_err-cluster-clause-exact
returns-in_err-cluster-clause-exact c =
    let p = err_from_is_err_and c.from_residual.result c.from_residual.ensures.1 in
    let fault : IsRefused c.in_err-cluster.field-0.0 c.args.journals.items = subst (IsRefused c.in_err-cluster.field-0.0) c.deref.ensures.value c.in_err-cluster.ensures.refused in
    rw p.1 ((λ e. absurd (let f = e in cc)), (λ one. absurd (no_fault c.in_err-cluster.field-0.0 one.0 one.1 one.2 c.args.journals.items fault one.3)))

pub put_in_order-requires : goal.put_in_order-requires
put_in_order-requires c =
    let items = c.args.journals.items in
    let v = c.in_ok-cluster.ensures.of_one.0 in
    let o = c.in_ok-cluster.ensures.of_one.1 in
    let one : AreOfOne v o c.in_ok-cluster.cluster items = subst (AreOfOne v o c.in_ok-cluster.cluster) c.deref.ensures.value c.in_ok-cluster.ensures.of_one.2 in
    record { once = subst (λ (ls : List Log). (r : ℕ) → r < size c.in_ok-cluster.cluster → count_of r ls ≡ 1) (sym c.deref_mut.ensures.value) one.once }

pub unreachable-requires : goal.unreachable-requires
unreachable-requires c =
    let items = c.args.journals.items in
    let v = c.in_ok-cluster.ensures.of_one.0 in
    let o = c.in_ok-cluster.ensures.of_one.1 in
    let f = c.in_ok-cluster.cluster in
    let now : List Log = c.put_in_order.new.journals in
    let one : AreOfOne v o f items = subst (AreOfOne v o f) c.deref.ensures.value c.in_ok-cluster.ensures.of_one.2 in
    let same : IsPermutation items now = subst (λ (ls : List Log). IsPermutation ls now) c.deref_mut.ensures.value c.put_in_order.ensures.same in
    let order : AreInOrder v o f 0 now = are_in_order v o f now (moved v o f items now same one) c.put_in_order.ensures.in_place in
    let is = with_items_is c.args.journals now (search rules) in
    absurd (let e = c.in-Err.ensures.in_order.1 (v, o, f, subst (λ (ls : List Log). AreInOrder v o f 0 ls) (sym is) order) in cc)

pub returns-clause-collects : goal.returns-clause-collects
returns-clause-collects c =
    let items = c.args.journals.items in
    let v = c.in_ok-cluster.ensures.of_one.0 in
    let o = c.in_ok-cluster.ensures.of_one.1 in
    let f = c.in_ok-cluster.cluster in
    let now : List Log = c.put_in_order.new.journals in
    let one : AreOfOne v o f items = subst (AreOfOne v o f) c.deref.ensures.value c.in_ok-cluster.ensures.of_one.2 in
    let same : IsPermutation items now = subst (λ (ls : List Log). IsPermutation ls now) c.deref_mut.ensures.value c.put_in_order.ensures.same in
    let order : AreInOrder v o f 0 now = are_in_order v o f now (moved v o f items now same one) c.put_in_order.ensures.in_place in
    let is = with_items_is c.args.journals now (search rules) in
    collected v o f items now c.in-Ok.journals one same order
    (subst (λ (ls : List Log). AreInOrder c.in-Ok.journals.version c.in-Ok.journals.opening c.in-Ok.journals.faults 0 ls) is c.in-Ok.ensures.of_one)
    (c.in-Ok.ensures.ok ∙ ap all_entries is) c.put_in_order.ensures.in_place

pub returns-clause-exact : goal.returns-clause-exact
returns-clause-exact c =
    let v = c.in_ok-cluster.ensures.of_one.0 in
    let o = c.in_ok-cluster.ensures.of_one.1 in
    let f = c.in_ok-cluster.cluster in
    let one : AreOfOne v o f c.args.journals.items = subst (AreOfOne v o f) c.deref.ensures.value c.in_ok-cluster.ensures.of_one.2 in
    (λ is. (v, o, f, one), λ found. refl)
