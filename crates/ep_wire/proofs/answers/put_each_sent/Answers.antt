use Rattle.ep_wire.specs.Answers.{sent_bytes}
use Rattle.ep_bundle.proofs.Puts.{put_none, put_more}
use Rattle.ep_wire.proofs.answers.put_each_sent.Goals as goal

pub loop-frame-init : goal.loop-frame-init
loop-frame-init g c = put_none sent_bytes c.args.frames.now (g.K.Sink.held c.args.sink.now) (g.K.Sink.has_failed c.args.sink.now)

pub loop-frame-preserved : goal.loop-frame-preserved
loop-frame-preserved g c =
    put_more sent_bytes c.loop-frame.frame-index c.args.frames.now c.frame-item.result (g.K.Sink.held c.args.sink.now) (g.K.Sink.held c.loop-frame.sink) (g.K.Sink.held c.put_sent.new.sink) (g.K.Sink.has_failed c.args.sink.now) (g.K.Sink.has_failed c.loop-frame.sink) (g.K.Sink.has_failed c.put_sent.new.sink)
    c.loop-frame-test.true c.frame-item.is c.loop-frame.invariant c.in_ok-put_sent.ensures
