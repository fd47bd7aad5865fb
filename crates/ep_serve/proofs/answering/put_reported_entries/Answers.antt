use Rattle.std.proofs.Common.{arith}
use Rattle.std.proofs.KnownBytes.{Appends-nil}
use Rattle.ep_serve.specs.Answering.{reported_entry}
use Rattle.ep_serve.proofs.Lists.{more}
use Rattle.ep_serve.proofs.answering.put_reported_entries.Goals as goal

pub loop-index-init : goal.loop-index-init
loop-index-init g c = Appends-nil (g.K.Sink.held c.args.sink.now)

pub loop-index-preserved : goal.loop-index-preserved
loop-index-preserved g c =
    more (reported_entry c.args.replica.now) c.args.from c.loop-index.index c.args.replica.now.entries (g.K.Sink.held c.args.sink.now) (g.K.Sink.held c.loop-index.sink) (g.K.Sink.held c.put_reported_entry.new.sink)
    (omega (arith, c.loop-index-test.true, c.requires.there)) c.loop-index.invariant (λ e is. c.in_ok-put_reported_entry.ensures e is)

pub overflow_add-from : goal.overflow_add-from
overflow_add-from g c = omega (arith, c.loop-index-test.true, c.requires.fits)
