use Rattle.std.proofs.Common.{◌+◌, ◌≤◌, arith, vec_len, vec_capacity}
use Rattle.ep_host.proofs.Accepting.{logs_more}
use Rattle.ep_host.proofs.ring_finishing.collected.Goals as goal

pub push_reserved-requires : goal.push_reserved-requires
push_reserved-requires c =
    let room : vec_len c.loop-node.journals + c.loop-node.node-iterator.rest.len ≤ vec_capacity c.loop-node.journals = c.loop-node.invariant.room in
    let less = c.in-Some.ensures.steps.1 in
    omega arith

pub loop-node-preserved : goal.loop-node-preserved
loop-node-preserved c = record {
  journals = logs_more c.loop-node.yielded c.in-Some.node c.into_journal.result c.loop-node.journals.items c.push_reserved.new.self.items c.loop-node.invariant.journals c.into_journal.ensures c.push_reserved.ensures.items;
  room = (let room : vec_len c.loop-node.journals + c.loop-node.node-iterator.rest.len ≤ vec_capacity c.loop-node.journals = c.loop-node.invariant.room in
      let less = c.in-Some.ensures.steps.1 in
      let more = c.push_reserved.ensures.len in
      let same = c.push_reserved.ensures.capacity in
      omega arith);
}
