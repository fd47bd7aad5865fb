use Rattle.std.proofs.Common.{arith, ◌<◌, ◌||◌, false, length, refl, get_or}
use Rattle.std.proofs.lemmas.List.{get_or_default}
use Rattle.ep_host.specs.Follows.{Rounds}
use Rattle.ep_host.specs.Turned.{IsTurnIn}
use Rattle.ep_host.proofs.Following.{rounds_before, rounds_now}
use Rattle.ep_host.proofs.Looks.{turn_before, turn_now}
use Rattle.ep_host.proofs.Places.{firsts_none, firsts_more, firsts_all}
use Rattle.ep_host.proofs.settling.round.Goals as goal

pub loop-place-init : goal.loop-place-init
loop-place-init c = record { firsts = firsts_none (Rounds false) c.args.nodes.now; turns = firsts_none (IsTurnIn false) c.args.nodes.now; end = refl }

pub loop-place-preserved : goal.loop-place-preserved
loop-place-preserved c =
    let now = c.turn_of-now.result in let moved = c.loop-place.moved in
    let nodes = c.loop-place.nodes in let place = c.loop-place.place in
    let low : place < length c.args.nodes.now = omega (arith, c.loop-place.invariant.end) in
    let low' : place < length nodes = omega (arith, c.loop-place.invariant.firsts.len) in
    let was = get_or nodes place c.index-nodes-place.result in record {
      firsts = firsts_more (Rounds moved) (Rounds (now || moved)) place c.args.nodes.now nodes was c.turn_of-now.new.node
          (rounds_before now moved) low c.loop-place.invariant.firsts (get_or_default nodes place c.index-nodes-place.result was low') (rounds_now now moved was c.turn_of-now.new.node c.turn_of-now.ensures.rounds);
      turns = firsts_more (IsTurnIn moved) (IsTurnIn (now || moved)) place c.args.nodes.now nodes was c.turn_of-now.new.node
          (turn_before now moved) low c.loop-place.invariant.turns (get_or_default nodes place c.index-nodes-place.result was low') (turn_now now moved was c.turn_of-now.new.node c.turn_of-now.ensures.turn);
      end = c.loop-place.invariant.end;
    }

pub returns-clause-turns : goal.returns-clause-turns
returns-clause-turns c = firsts_all (IsTurnIn c.loop-place.moved) c.loop-place.place c.args.nodes.now c.loop-place.nodes (omega (arith, c.loop-place.invariant.end)) c.loop-place.invariant.turns

pub returns-clause-rounds : goal.returns-clause-rounds
returns-clause-rounds c = firsts_all (Rounds c.loop-place.moved) c.loop-place.place c.args.nodes.now c.loop-place.nodes (omega (arith, c.loop-place.invariant.end)) c.loop-place.invariant.firsts
