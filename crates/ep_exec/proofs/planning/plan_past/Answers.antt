use Rattle.std.proofs.Common.{◌≡◌, None, List, ℕ, Vec, sym, ap, subst, ◌∙◌}
use Rattle.std.proofs.lemmas.Bool.{false≢true}
use Rattle.std.specs.Global.{Global}
use Rattle.std.specs.List.{flat_map}
use Rattle.ep_base.specs.Places.{Has}
use Rattle.ep_rules.specs.Order.{IsPlan}
use Rattle.ep_rules.specs.States.{graph_in}
use Rattle.ep_exec.specs.Found.{IsLeast}
use Rattle.ep_exec.specs.Walk.{lists}
use Rattle.ep_exec.proofs.Alone.{plan_alone}
use Rattle.ep_exec.proofs.Cut.{plan_up, blocked_up}
use Rattle.ep_exec.proofs.planning.plan_past.Goals as goal

pub returns-then-is_alone-clause-order : goal.returns-then-is_alone-clause-order
returns-then-is_alone-clause-order c =
    let g = graph_in c.args.space.now.records in
    let executed : List ℕ = c.args.executed.now.list in
    let left : ¬ Has executed c.args.root = (λ h. false≢true (sym c.if-contains.false ∙ c.contains.ensures.1 h)) in
    subst (IsPlan g executed c.args.root) (sym c.in_ok-from_slice.ensures.items)
    (plan_alone g c.args.skipped.now.list executed c.args.root c.requires.closed c.requires.within left (sym c.is_alone.ensures ∙ c.if-is_alone.true))

pub returns-in-Some-clause-refused : goal.returns-in-Some-clause-refused
returns-in-Some-clause-refused c =
    let g = graph_in c.args.space.now.records in
    let skipped : List ℕ = c.args.skipped.now.list in
    let executed : List ℕ = c.args.executed.now.list in
    let cs = lists c.in_ok-components.components.items in
    let left : ¬ Has executed c.args.root = (λ h. false≢true (sym c.if-contains.false ∙ c.contains.ensures.1 h)) in
    let all : c.deref-2.result.now ≡ flat_map (λ c. c) cs = c.deref-2.ensures.value ∙ c.in_ok-members.ensures ∙ ap (λ (vs : List (Vec ℕ Global)). flat_map (λ c. c) (lists vs)) c.deref.ensures.value in
    blocked_up g skipped c.requires.closed executed c.requires.within c.args.root left cs c.in_ok-components.ensures c.deref-2.result.now all c.in-Some.instance
    (subst (λ o. IsLeast (λ i. g i ≡ None) c.deref-2.result.now o) c.in-Some.is c.least_missing.ensures)

pub returns-clause-order : goal.returns-clause-order
returns-clause-order c =
    let g = graph_in c.args.space.now.records in
    let skipped : List ℕ = c.args.skipped.now.list in
    let executed : List ℕ = c.args.executed.now.list in
    let cs = lists c.in_ok-components.components.items in
    let left : ¬ Has executed c.args.root = (λ h. false≢true (sym c.if-contains.false ∙ c.contains.ensures.1 h)) in
    let all : c.deref-2.result.now ≡ flat_map (λ c. c) cs = c.deref-2.ensures.value ∙ c.in_ok-members.ensures ∙ ap (λ (vs : List (Vec ℕ Global)). flat_map (λ c. c) (lists vs)) c.deref.ensures.value in
    plan_up g skipped c.requires.closed executed c.requires.within c.args.root left cs c.in_ok-components.ensures c.deref-2.result.now all c.in_ok-order_of.field-0.items
    (subst (λ o. IsLeast (λ i. g i ≡ None) c.deref-2.result.now o) c.in_default.is c.least_missing.ensures)
    c.in_ok-order_of.ensures
