use Rattle.std.proofs.Common.{◌≡◌, ◌<◌, ◌∷◌, [], List, ℕ, sym, ap, subst, ◌∙◌, arith}
use Rattle.std.proofs.lemmas.List.{nil_from_length}
use Rattle.ep_exec.specs.Cut.{left_in}
use Rattle.ep_rules.proofs.Places.{has_left, has_right}
use Rattle.ep_exec.specs.Walk.{Flat, flat, stack, lists, Follows, Sees}
use Rattle.ep_exec.proofs.Counts.{single_has}
use Rattle.ep_exec.proofs.OverMap.{universe, left_within}
use Rattle.ep_exec.proofs.Paths.{IsWalk, plus, edges_of, walk_first, walk_close, walk_follow, walk_all}
use Rattle.ep_exec.proofs.Seen.{sees_none, sees_fresh, sees_closed}
use Rattle.ep_exec.proofs.Size.{size, follow_smaller}
use Rattle.ep_exec.proofs.Stacks.{stack_pop}
use Rattle.ep_exec.proofs.walk.components.Goals as goal

pub loop-top-init : goal.loop-top-init
loop-top-init c =
    let m = c.args.space.now.records in
    let g = left_in m c.args.skipped.now.list in
    rw (c.new.ensures, c.new-found.ensures.items, c.in_ok-push.ensures, c.new-2.ensures, c.in_ok-enter.ensures, c.new-3.ensures.items) (record {
      walk = walk_first g c.args.root (universe m) (λ i x a e h. left_within m c.args.skipped.now.list i x a e h);
      seen = sees_fresh g [] [] [] c.args.root sees_none;
    })

pub follow-requires : goal.follow-requires
follow-requires c =
    let top = c.in-Some.top in
    let opened : stack c.loop-top.walk.path.items ≡ flat top ∷ stack c.pop.new.self.items = stack_pop c.loop-top.walk.path.items c.pop.new.self.items top c.in-Some.ensures.items in
    subst (Sees c.loop-top.walk.seen c.loop-top.walk.closed) opened c.loop-top.invariant.seen

pub loop-top-preserved-in-None-1 : goal.loop-top-preserved-in-None-1
loop-top-preserved-in-None-1 c =
    let g = left_in c.args.space.now.records c.args.skipped.now.list in
    let us = universe c.args.space.now.records in
    let top = c.in-Some.top in
    let rest = stack c.pop.new.self.items in
    let closed = c.loop-top.walk.closed in
    let cs = lists c.loop-top.found.items in
    let shut : Flat = record { members = top.members; edges = [] } in
    let none : top.edges.items ≡ [] = nil_from_length top.edges.items (omega (arith, c.in-None.ensures.cases.0, top.edges.ok.0)) in
    let opened : stack c.loop-top.walk.path.items ≡ shut ∷ rest =
    stack_pop c.loop-top.walk.path.items c.pop.new.self.items top c.in-Some.ensures.items ∙ ap (λ (es : List ℕ). record { members = top.members; edges = es } ∷ rest) none
    in
    let w : IsWalk g c.args.root us closed cs (shut ∷ rest) = subst (IsWalk g c.args.root us closed cs) opened c.loop-top.invariant.walk in
    let s : Sees c.loop-top.walk.seen closed (shut ∷ rest) = subst (Sees c.loop-top.walk.seen closed) opened c.loop-top.invariant.seen in
    let done = c.in_ok-close-in-None.ensures.closed in
    let found = c.in_ok-close-in-None.ensures.found in
    rw (done, found) (record {
      walk = walk_close g c.args.root us closed cs top.members rest w;
      seen = sees_closed c.loop-top.walk.seen closed shut rest s;
    })

pub loop-top-smaller : goal.loop-top-smaller
loop-top-smaller c =
    let g = left_in c.args.space.now.records c.args.skipped.now.list in
    let us = universe c.args.space.now.records in
    let top = c.in-Some.top in
    let d = c.in-Some-pop.instance in
    let rest = stack c.pop.new.self.items in
    let closed = c.loop-top.walk.closed in
    let cs = lists c.loop-top.found.items in
    let t : Flat = record { members = top.members; edges = c.pop-in-Some.new.self.items } in
    let opened : stack c.loop-top.walk.path.items ≡ plus t d ∷ rest =
    stack_pop c.loop-top.walk.path.items c.pop.new.self.items top c.in-Some.ensures.items ∙ ap (λ (es : List ℕ). record { members = top.members; edges = es } ∷ rest) c.in-Some-pop.ensures.items
    in
    let w : IsWalk g c.args.root us closed cs (plus t d ∷ rest) = subst (IsWalk g c.args.root us closed cs) opened c.loop-top.invariant.walk in
    let f : Follows g closed t rest d (stack c.follow.new.walk.path.items) = c.in_ok-follow-in-Some-pop.ensures.path in
    let less : size g us closed (stack c.follow.new.walk.path.items) < size g us closed (plus t d ∷ rest) =
    follow_smaller g us closed t rest d (stack c.follow.new.walk.path.items) (w.known d (has_left (plus t d).edges (edges_of rest) d (has_right t.edges (d ∷ []) d (single_has d)))) f
    in
    rw c.in_ok-follow-in-Some-pop.ensures.closed (subst (λ s. size g us closed (stack c.follow.new.walk.path.items) < size g us closed s) (sym opened) less)

pub loop-top-preserved : goal.loop-top-preserved
loop-top-preserved c =
    let m = c.args.space.now.records in
    let g = left_in m c.args.skipped.now.list in
    let us = universe m in
    let top = c.in-Some.top in
    let d = c.in-Some-pop.instance in
    let rest = stack c.pop.new.self.items in
    let closed = c.loop-top.walk.closed in
    let cs = lists c.loop-top.found.items in
    let t : Flat = record { members = top.members; edges = c.pop-in-Some.new.self.items } in
    let opened : stack c.loop-top.walk.path.items ≡ plus t d ∷ rest =
    stack_pop c.loop-top.walk.path.items c.pop.new.self.items top c.in-Some.ensures.items ∙ ap (λ (es : List ℕ). record { members = top.members; edges = es } ∷ rest) c.in-Some-pop.ensures.items
    in
    let w : IsWalk g c.args.root us closed cs (plus t d ∷ rest) = subst (IsWalk g c.args.root us closed cs) opened c.loop-top.invariant.walk in
    let f : Follows g closed t rest d (stack c.follow.new.walk.path.items) = c.in_ok-follow-in-Some-pop.ensures.path in
    rw c.in_ok-follow-in-Some-pop.ensures.closed (record {
      walk = walk_follow g c.args.root us closed cs t rest d (stack c.follow.new.walk.path.items) (λ i x a e h. left_within m c.args.skipped.now.list i x a e h) w f;
      seen = c.in_ok-follow-in-Some-pop.ensures.seen;
    })

pub returns : goal.returns
returns c =
    let g = left_in c.args.space.now.records c.args.skipped.now.list in
    let us = universe c.args.space.now.records in
    let none : c.loop-top.walk.path.items ≡ [] = nil_from_length c.loop-top.walk.path.items (omega (arith, c.in_default.ensures.cases.0, c.loop-top.walk.path.ok.0)) in
    let w : IsWalk g c.args.root us c.loop-top.walk.closed (lists c.loop-top.found.items) [] = subst (λ ls. IsWalk g c.args.root us c.loop-top.walk.closed (lists c.loop-top.found.items) (stack ls)) none c.loop-top.invariant.walk in
    walk_all g c.args.root us c.loop-top.walk.closed (lists c.loop-top.found.items) w
