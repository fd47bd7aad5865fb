use Rattle.std.proofs.Common.{sym, ◌∙◌}
use Rattle.std.proofs.lemmas.Result.{on_ok_weaker}
use Rattle.ep_exec.proofs.Standing.{looked_wait, looked_ready}
use Rattle.ep_exec.specs.Queue.{ready_at, waiting_at}
use Rattle.ep_exec.proofs.queue.look_at.Goals as goal

pub returns-in-Some : goal.returns-in-Some
returns-in-Some c = on_ok_weaker c.wait.result (λ more g all left todo s. looked_wait g c.args.executed.now.list all c.args.finished.now todo left (ready_at c.args.queue.now.ready) (waiting_at c.args.queue.now.waiters) (waiting_at c.wait.new.waiters) c.args.part c.pass.new.self c.in-Some.instance c.pass.ensures (sym c.first_wait.ensures ∙ c.in-Some.is) more s) c.wait.ensures

pub returns-in-None : goal.returns-in-None
returns-in-None c = on_ok_weaker c.make_ready.result (λ made g all left todo s. looked_ready g c.args.executed.now.list all c.args.finished.now todo left (ready_at c.args.queue.now.ready) (ready_at c.make_ready.new.ready) (waiting_at c.args.queue.now.waiters) c.args.part c.pass.new.self c.pass.ensures (sym c.first_wait.ensures ∙ c.in-None.is) made s) c.make_ready.ensures
