use Rattle.ep_rules.specs.States.{graph_in}
use Rattle.ep_journal.proofs.Execution.{order_fresh, executed_whole}
use Rattle.ep_journal.proofs.execute.execute.Goals as goal

pub add_all-requires-clause-fresh : goal.add_all-requires-clause-fresh
add_all-requires-clause-fresh c =
    order_fresh (graph_in c.args.space.now.records) c.args.root c.in_ok-order.order.items c.deref-3.result.now c.args.executed.now.list c.reserve.new.self.list c.in_ok-order.ensures.order c.deref-3.ensures.value c.reserve.ensures.list

pub returns-clause-ok : goal.returns-clause-ok
returns-clause-ok c =
    executed_whole c.args.space.now c.args.root c.in_ok-order.order.items c.deref-2.result.now c.deref-3.result.now c.args.executed.now.list c.reserve.new.self.list c.add_all.new.executed.list c.args.store.now c.do_all.new.store _
    c.in_ok-order.ensures.order c.deref-2.ensures.value c.in_ok-done.ensures.done c.in_ok-done.ensures.ok c.deref-3.ensures.value c.reserve.ensures.list c.add_all.ensures
