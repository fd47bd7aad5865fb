use Rattle.std.proofs.Common.{◌≡◌, ◌<◌, ◌+◌, ◌++◌, ◌∷◌, [], List, ℕ, None, length, sym, subst, ◌∙◌, arith}
use Rattle.std.proofs.lemmas.Bool.{false≢true}
use Rattle.std.proofs.lemmas.List.{nil_from_length}
use Rattle.ep_rules.specs.Graph.Reaches.{itself}
use Rattle.ep_rules.specs.States.{graph_in}
use Rattle.ep_exec.specs.Cut.{left_in}
use Rattle.ep_exec.specs.Missing.{Visits}
use Rattle.ep_exec.proofs.OverMap.{universe, deps_within}
use Rattle.ep_exec.proofs.Searching.{IsSearch, search_begins, search_goes_on, search_falls, search_ends, reported_some, reported_none}
use Rattle.ep_exec.proofs.Size.{weight}
use Rattle.ep_exec.proofs.reach.missing.Goals as goal

pub returns-then-is_missing : goal.returns-then-is_missing
returns-then-is_missing c = (itself, c.is_missing.ensures.0 c.if-is_missing.true)

pub loop-instance-init : goal.loop-instance-init
loop-instance-init c =
    rw (c.new-seen.ensures, c.in_ok-push.ensures.items, c.new-edges.ensures.items)
    (search_begins (graph_in c.args.space.now.records) c.args.executed.now.list (universe c.args.space.now.records) c.args.root (λ p. false≢true (sym c.if-is_missing.false ∙ c.is_missing.ensures.1 p)))

pub returns-then-is_some : goal.returns-then-is_some
returns-then-is_some c =
    let g = graph_in c.args.space.now.records in
    let us = universe c.args.space.now.records in
    let rest = c.pop.new.self.items in
    let i = c.in-Some.instance in
    let s : IsSearch g c.args.executed.now.list us c.args.root c.loop-instance.seen (rest ++ i ∷ []) = subst (IsSearch g c.args.executed.now.list us c.args.root c.loop-instance.seen) c.in-Some.ensures.items c.loop-instance.invariant in
    reported_some g c.args.executed.now.list us c.args.root c.loop-instance.seen rest i s c.in_ok-found.found c.visit.new.seen c.visit.new.edges.items (sym c.is_some.ensures ∙ c.if-is_some.true) c.in_ok-found.ensures

pub loop-instance-smaller : goal.loop-instance-smaller
loop-instance-smaller c =
    let m = c.args.space.now.records in
    let g = graph_in m in
    let done = c.args.executed.now.list in
    let us = universe m in
    let rest = c.pop.new.self.items in
    let i = c.in-Some.instance in
    let s : IsSearch g done us c.args.root c.loop-instance.seen (rest ++ i ∷ []) = subst (IsSearch g done us c.args.root c.loop-instance.seen) c.in-Some.ensures.items c.loop-instance.invariant in
    let v : Visits g done c.loop-instance.seen rest i None c.visit.new.seen c.visit.new.edges.items = reported_none g done c.loop-instance.seen rest i c.in_ok-found.found c.visit.new.seen c.visit.new.edges.items (sym c.is_some.ensures ∙ c.if-is_some.false) c.in_ok-found.ensures in
    subst (λ (es : List ℕ). weight (left_in m done) c.visit.new.seen (c.args.root ∷ us) + length c.visit.new.edges.items < weight (left_in m done) c.loop-instance.seen (c.args.root ∷ us) + length es) (sym c.in-Some.ensures.items)
    (search_falls g done us c.args.root c.loop-instance.seen rest i s c.visit.new.seen c.visit.new.edges.items v)

pub loop-instance-preserved : goal.loop-instance-preserved
loop-instance-preserved c =
    let m = c.args.space.now.records in
    let g = graph_in m in
    let done = c.args.executed.now.list in
    let us = universe m in
    let rest = c.pop.new.self.items in
    let i = c.in-Some.instance in
    let s : IsSearch g done us c.args.root c.loop-instance.seen (rest ++ i ∷ []) = subst (IsSearch g done us c.args.root c.loop-instance.seen) c.in-Some.ensures.items c.loop-instance.invariant in
    let v : Visits g done c.loop-instance.seen rest i None c.visit.new.seen c.visit.new.edges.items = reported_none g done c.loop-instance.seen rest i c.in_ok-found.found c.visit.new.seen c.visit.new.edges.items (sym c.is_some.ensures ∙ c.if-is_some.false) c.in_ok-found.ensures in
    search_goes_on g done us c.args.root c.loop-instance.seen rest i s c.visit.new.seen c.visit.new.edges.items (λ j d a e h. deps_within m j d a e h) v

pub returns : goal.returns
returns c =
    let g = graph_in c.args.space.now.records in
    let us = universe c.args.space.now.records in
    let none : c.loop-instance.edges.items ≡ [] = nil_from_length c.loop-instance.edges.items (omega (arith, c.in_default.ensures.cases.0, c.loop-instance.edges.ok.0)) in
    search_ends g c.args.executed.now.list us c.args.root c.requires.closed c.loop-instance.seen (subst (IsSearch g c.args.executed.now.list us c.args.root c.loop-instance.seen) none c.loop-instance.invariant)
