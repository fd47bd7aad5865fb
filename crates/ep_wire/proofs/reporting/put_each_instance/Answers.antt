use Rattle.ep_frame.specs.Fields.{dep_bytes}
use Rattle.ep_bundle.proofs.Puts.{put_none, put_more}
use Rattle.ep_wire.proofs.reporting.put_each_instance.Goals as goal

pub loop-instance-init : goal.loop-instance-init
loop-instance-init g c = put_none dep_bytes c.args.instances.now (g.K.Sink.held c.args.sink.now) (g.K.Sink.has_failed c.args.sink.now)

pub loop-instance-preserved : goal.loop-instance-preserved
loop-instance-preserved g c =
    put_more dep_bytes c.loop-instance.instance-index c.args.instances.now c.instance-item.result (g.K.Sink.held c.args.sink.now) (g.K.Sink.held c.loop-instance.sink) (g.K.Sink.held c.put_instance.new.sink) (g.K.Sink.has_failed c.args.sink.now) (g.K.Sink.has_failed c.loop-instance.sink) (g.K.Sink.has_failed c.put_instance.new.sink)
    c.loop-instance-test.true c.instance-item.is c.loop-instance.invariant c.in_ok-put_instance.ensures
