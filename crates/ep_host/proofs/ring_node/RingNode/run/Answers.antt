use Rattle.std.proofs.Common.{rules, arith, ◌≡◌, ◌≤◌, ◌+◌, ℕ, sym, subst, length, refl, true, false, true≢false}
use Rattle.std.proofs.lemmas.List.{nil_from_length}
use Rattle.ep_host.specs.Follows.{Follows}
use Rattle.ep_host.specs.Node.{Node}
use Rattle.ep_host.specs.Turned.{AreTurns}
use Rattle.ep_host.specs.Turns.{has_moved}
use Rattle.ep_host.proofs.Following.{follows_self, follows_follows, runs_end}
use Rattle.ep_host.proofs.Looks.{turns_more, turned_end}
use Rattle.ep_host.proofs.Turning.{node}
use Rattle.ep_host.proofs.ring_node.RingNode.run.Goals as goal

pub loop-init : goal.loop-init
loop-init g c = record { follows = follows_self _; turns = refl }

pub loop-preserved : goal.loop-preserved
loop-preserved g c = record {
  follows = follows_follows c.args.self.now c.loop.self c.turn.new.self c.loop.invariant.follows c.turn.ensures.follows;
  turns = turns_more c.loop.counter (has_moved c.turn.result) c.args.self.now c.loop.self c.turn.new.self c.loop.invariant.turns c.turn.ensures.turns;
}

pub returns-then-agenda_empty-clause-runs : goal.returns-then-agenda_empty-clause-runs
returns-then-agenda_empty-clause-runs g c = let i = c.self.inside in
    let h = follows_follows c.args.self.now c.loop.self c.turn.new.self c.loop.invariant.follows c.turn.ensures.follows in
    let none : length i.agenda.items ≡ 0 = grind (rules, c.if-agenda_empty.ensures) in
    runs_end c.args.self.now (node i.replica i.links.items i.weather.items i.agenda.items i.refused.items i.used i.lost i.ended) true (subst (λ (n : Node). Follows c.args.self.now n) (sym c.self.view_is) h) (λ _. nil_from_length i.agenda.items none)

pub returns-then-agenda_empty-clause-turns : goal.returns-then-agenda_empty-clause-turns
returns-then-agenda_empty-clause-turns g c = let i = c.self.inside in let n : ℕ = c.loop.counter + 1 in
    let t = turns_more c.loop.counter (has_moved c.turn.result) c.args.self.now c.loop.self c.turn.new.self c.loop.invariant.turns c.turn.ensures.turns in
    let few : n ≤ c.args.turns = omega arith in
    turned_end n c.args.turns c.args.self.now (node i.replica i.links.items i.weather.items i.agenda.items i.refused.items i.used i.lost i.ended) true few (λ e. absurd (true≢false e)) (λ _. omega arith) (subst (λ (x : Node). AreTurns n c.args.self.now x) (sym c.self.view_is) t)

pub returns-clause-runs : goal.returns-clause-runs
returns-clause-runs g c = let i = c.self-2.inside in
    runs_end c.args.self.now (node i.replica i.links.items i.weather.items i.agenda.items i.refused.items i.used i.lost i.ended) false (subst (λ (n : Node). Follows c.args.self.now n) (sym c.self-2.view_is) c.loop.invariant.follows) (λ e. absurd (true≢false (sym e)))

pub returns-clause-turns : goal.returns-clause-turns
returns-clause-turns g c = let i = c.self-2.inside in
    let few : c.loop.counter ≤ c.args.turns = omega arith in
    turned_end c.loop.counter c.args.turns c.args.self.now (node i.replica i.links.items i.weather.items i.agenda.items i.refused.items i.used i.lost i.ended) false few (λ _. omega arith) (λ e. absurd (true≢false (sym e)))
    (subst (λ (x : Node). AreTurns c.loop.counter c.args.self.now x) (sym c.self-2.view_is) c.loop.invariant.turns)
