use Rattle.std.proofs.Common.{true, false, true≢false, refl, sym, subst}
use Rattle.ep_host.specs.Turns.{IsTurn, has_moved}
use Rattle.ep_host.specs.declared.turn.Turn.{Turn}
use Rattle.ep_host.proofs.Following.{turn_rounds}
use Rattle.ep_host.proofs.settling.turn_of.Goals as goal

pub returns-in-Moved-clause-rounds : goal.returns-in-Moved-clause-rounds
returns-in-Moved-clause-rounds c = turn_rounds true c.args.node.now c.turn.new.self (subst (λ (t : Turn). IsTurn (has_moved t) c.args.node.now c.turn.new.self) c.in-Moved.is c.turn.ensures.turns)

pub returns-in-Moved-clause-turn : goal.returns-in-Moved-clause-turn
returns-in-Moved-clause-turn c = (has_moved c.turn.result, c.turn.ensures.turns, λ _. refl)

pub returns-in-Idle-clause-rounds : goal.returns-in-Idle-clause-rounds
returns-in-Idle-clause-rounds c = turn_rounds false c.args.node.now c.turn.new.self (subst (λ (t : Turn). IsTurn (has_moved t) c.args.node.now c.turn.new.self) c.in-Idle.is c.turn.ensures.turns)

pub returns-in-Idle-clause-turn : goal.returns-in-Idle-clause-turn
returns-in-Idle-clause-turn c = (false, subst (λ (t : Turn). IsTurn (has_moved t) c.args.node.now c.turn.new.self) c.in-Idle.is c.turn.ensures.turns, λ e. absurd (true≢false (sym e)))
