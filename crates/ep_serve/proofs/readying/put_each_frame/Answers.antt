use Rattle.std.proofs.KnownBytes.{Appends-nil}
use Rattle.ep_wire.specs.Answers.{sent_bytes}
use Rattle.ep_serve.proofs.Lists.{next}
use Rattle.ep_serve.proofs.readying.put_each_frame.Goals as goal

pub loop-frame-init : goal.loop-frame-init
loop-frame-init g c = Appends-nil (g.K.Sink.held c.args.sink.now)

pub loop-frame-preserved : goal.loop-frame-preserved
loop-frame-preserved g c =
    next sent_bytes c.loop-frame.frame-index c.args.frames.now c.frame-item.result (g.K.Sink.held c.args.sink.now) (g.K.Sink.held c.loop-frame.sink) (g.K.Sink.held c.put_sent_frame.new.sink)
    c.loop-frame-test.true c.frame-item.is c.loop-frame.invariant c.in_ok-put_sent_frame.ensures
