use Rattle.std.proofs.Common.{◌≡◌, inl, inr, ◌∷◌, [], ◌++◌, sym, ap, ◌∙◌, subst}
use Rattle.std.proofs.lemmas.Bool.{false≢true}
use Rattle.ep_base.specs.Places.{Has}
use Rattle.ep_exec.specs.Cut.{left_in}
use Rattle.ep_exec.specs.Walk.{flat, stack, fresh, Sees}
use Rattle.ep_exec.proofs.Seen.{on_seen, off_seen, sees_merged, sees_fresh}
use Rattle.ep_exec.proofs.Stacks.{stack_push}
use Rattle.ep_exec.proofs.walk.follow.Goals as goal

pub returns-then-contains-2-clause-path : goal.returns-then-contains-2-clause-path
returns-then-contains-2-clause-path c =
    let open' : ¬ Has c.args.walk.now.closed c.args.instance = (λ h. false≢true (sym c.if-contains.false ∙ c.contains.ensures.1 h)) in
    inr (inl (open', on_seen c.args.walk.now.seen c.args.walk.now.closed (flat c.args.top) (stack c.args.walk.now.path.items) c.args.instance c.requires (c.contains-2.ensures.0 c.if-contains-2.true) open', c.in_ok-merge.ensures))

pub returns-then-contains-2-clause-seen : goal.returns-then-contains-2-clause-seen
returns-then-contains-2-clause-seen c =
    subst (Sees c.args.walk.now.seen c.args.walk.now.closed) (sym c.in_ok-merge.ensures) (sees_merged c.args.walk.now.seen c.args.walk.now.closed (flat c.args.top) (stack c.args.walk.now.path.items) c.args.instance c.requires)

pub returns-clause-path : goal.returns-clause-path
returns-clause-path c =
    let g = left_in c.args.space.now.records c.args.skipped.now.list in
    let open' : ¬ Has c.args.walk.now.closed c.args.instance = (λ h. false≢true (sym c.if-contains.false ∙ c.contains.ensures.1 h)) in
    let new : ¬ Has c.args.walk.now.seen c.args.instance = (λ h. false≢true (sym c.if-contains-2.false ∙ c.contains-2.ensures.1 h)) in
    let is : stack c.enter.new.path.items ≡ fresh g c.args.instance ∷ flat c.args.top ∷ stack c.args.walk.now.path.items =
    c.in_ok-enter.ensures ∙ ap (λ s. fresh g c.args.instance ∷ s) (ap stack c.in_ok-push-2.ensures.items ∙ stack_push c.args.walk.now.path.items c.args.top)
    in
    inr (inr (open', off_seen c.args.walk.now.seen c.args.walk.now.closed (flat c.args.top) (stack c.args.walk.now.path.items) c.args.instance c.requires new, is))

pub returns-clause-seen : goal.returns-clause-seen
returns-clause-seen c =
    let g = left_in c.args.space.now.records c.args.skipped.now.list in
    let is : stack c.enter.new.path.items ≡ fresh g c.args.instance ∷ flat c.args.top ∷ stack c.args.walk.now.path.items =
    c.in_ok-enter.ensures ∙ ap (λ s. fresh g c.args.instance ∷ s) (ap stack c.in_ok-push-2.ensures.items ∙ stack_push c.args.walk.now.path.items c.args.top)
    in
    let seen : c.push-3.new.self ≡ c.args.walk.now.seen ++ c.args.instance ∷ [] = c.in_ok-push-3.ensures in
    subst (λ xs. Sees xs c.args.walk.now.closed (stack c.enter.new.path.items)) (sym seen)
    (subst (Sees (c.args.walk.now.seen ++ c.args.instance ∷ []) c.args.walk.now.closed) (sym is) (sees_fresh g c.args.walk.now.seen c.args.walk.now.closed (flat c.args.top ∷ stack c.args.walk.now.path.items) c.args.instance c.requires))
