use Rattle.ep_bundle.specs.Bytes.{receipt_bytes}
use Rattle.ep_bundle.proofs.Puts.{Put}
use Rattle.ep_wire.proofs.answers.put_each_receipt.Given as goal

abbrev pub invariant-loop-receipt : goal.invariant-loop-receipt
invariant-loop-receipt g l = Put (receipt_bytes l.version) l.receipt-index l.receipts (g.K.Sink.held l.initial.sink) (g.K.Sink.held l.sink) (g.K.Sink.has_failed l.initial.sink) (g.K.Sink.has_failed l.sink)
