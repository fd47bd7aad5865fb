use Rattle.std.proofs.Common.{List, [], ◌∷◌, ◌++◌, ◌+◌, ◌≤◌, sym, subst, arith, vec_len, vec_capacity, Result}
use Rattle.ep_journal.specs.declared.step_fault.StepFault.{StepFault}
use Rattle.ep_node.specs.Nodes.{TakesEach}
use Rattle.ep_node.proofs.EachTaken.{reported_of, one_reported}
use Rattle.ep_node.proofs.taking.take_each.Goals as goal

pub push_reserved-requires : goal.push_reserved-requires
push_reserved-requires c =
    let room : vec_len c.loop-event.reported + c.loop-event.event-iterator.rest.len ≤ vec_capacity c.loop-event.reported = c.loop-event.invariant.room in
    let less = c.in-Some.ensures.steps.1 in
    omega arith

pub loop-event-preserved : goal.loop-event-preserved
loop-event-preserved c = record {
  so_far = subst (λ (all_reported : List (Result Unit StepFault)). TakesEach c.args.replica.now (c.loop-event.yielded ++ c.in-Some.event ∷ []) all_reported c.take.new.self) (sym c.push_reserved.ensures.items)
      (one_reported c.args.replica.now c.loop-event.yielded c.loop-event.reported.items c.loop-event.replica c.in-Some.event c.take.result c.take.new.self c.loop-event.invariant.so_far
      (reported_of c.loop-event.replica c.in-Some.event c.take.result c.take.new.self c.take.ensures.ok c.take.ensures.refused c.take.ensures.err));
  room = (let room : vec_len c.loop-event.reported + c.loop-event.event-iterator.rest.len ≤ vec_capacity c.loop-event.reported = c.loop-event.invariant.room in
      let less = c.in-Some.ensures.steps.1 in
      let more = c.push_reserved.ensures.len in
      let same = c.push_reserved.ensures.capacity in
      omega arith);
}
