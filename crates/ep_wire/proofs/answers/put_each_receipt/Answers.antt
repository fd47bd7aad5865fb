use Rattle.ep_bundle.specs.Bytes.{receipt_bytes}
use Rattle.ep_bundle.proofs.Puts.{put_none, put_more}
use Rattle.ep_wire.proofs.answers.put_each_receipt.Goals as goal

pub loop-receipt-init : goal.loop-receipt-init
loop-receipt-init g c = put_none (receipt_bytes c.args.version) c.args.receipts.now (g.K.Sink.held c.args.sink.now) (g.K.Sink.has_failed c.args.sink.now)

pub loop-receipt-preserved : goal.loop-receipt-preserved
loop-receipt-preserved g c =
    put_more (receipt_bytes c.args.version) c.loop-receipt.receipt-index c.args.receipts.now c.receipt-item.result (g.K.Sink.held c.args.sink.now) (g.K.Sink.held c.loop-receipt.sink) (g.K.Sink.held c.put_receipt.new.sink) (g.K.Sink.has_failed c.args.sink.now) (g.K.Sink.has_failed c.loop-receipt.sink) (g.K.Sink.has_failed c.put_receipt.new.sink)
    c.loop-receipt-test.true c.receipt-item.is c.loop-receipt.invariant c.in_ok-put_receipt.ensures
