use Rattle.std.proofs.KnownBytes.{Appends-nil}
use Rattle.ep_serve.specs.Answering.{open_instance_bytes}
use Rattle.ep_serve.proofs.Lists.{next}
use Rattle.ep_serve.proofs.readying.put_each_open.Goals as goal

pub loop-one-init : goal.loop-one-init
loop-one-init g c = Appends-nil (g.K.Sink.held c.args.sink.now)

pub loop-one-preserved : goal.loop-one-preserved
loop-one-preserved g c =
    next open_instance_bytes c.loop-one.one-index c.args.reported.now c.one-item.result (g.K.Sink.held c.args.sink.now) (g.K.Sink.held c.loop-one.sink) (g.K.Sink.held c.put_open_instance.new.sink)
    c.loop-one-test.true c.one-item.is c.loop-one.invariant c.in_ok-put_open_instance.ensures
