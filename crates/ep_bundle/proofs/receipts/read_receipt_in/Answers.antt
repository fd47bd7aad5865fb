use Rattle.ep_bundle.proofs.Readings.{fails, goes_on}
use Rattle.ep_bundle.proofs.receipts.read_receipt_in.Goals as goal

pub returns-in_err-client-clause-bytes : goal.returns-in_err-client-clause-bytes
returns-in_err-client-clause-bytes g c = λ y0 e0. fails _ _ _ _ _ _ _ _ (c.in_err-client.ensures.bytes y0 e0) c.from_residual.ensures.1

pub returns-in_err-request-clause-bytes : goal.returns-in_err-request-clause-bytes
returns-in_err-request-clause-bytes g c = λ y0 e0. goes_on _ _ _ _ _ _ _ _ (c.in_ok-client.ensures.bytes y0 e0) (λ y1 e1. fails _ _ _ _ _ _ _ _ (c.in_err-request.ensures.bytes y1 e1) c.from_residual-in_err-request.ensures.1)

pub returns-in_err-instance-clause-bytes : goal.returns-in_err-instance-clause-bytes
returns-in_err-instance-clause-bytes g c = λ y0 e0. goes_on _ _ _ _ _ _ _ _ (c.in_ok-client.ensures.bytes y0 e0) (λ y1 e1. goes_on _ _ _ _ _ _ _ _ (c.in_ok-request.ensures.bytes y1 e1) (λ y2 e2. fails _ _ _ _ _ _ _ _ (c.in_err-instance.ensures.bytes y2 e2) c.from_residual-in_err-instance.ensures.1))

pub returns-in_err-seen-clause-bytes : goal.returns-in_err-seen-clause-bytes
returns-in_err-seen-clause-bytes g c = λ y0 e0. goes_on _ _ _ _ _ _ _ _ (c.in_ok-client.ensures.bytes y0 e0) (λ y1 e1. goes_on _ _ _ _ _ _ _ _ (c.in_ok-request.ensures.bytes y1 e1) (λ y2 e2. goes_on _ _ _ _ _ _ _ _ (c.in_ok-instance.ensures.bytes y2 e2) (λ y3 e3. fails _ _ _ _ _ _ _ _ (c.in_err-seen.ensures.bytes y3 e3) c.from_residual-in_err-seen.ensures.1)))

pub returns-in_err-replica-clause-bytes : goal.returns-in_err-replica-clause-bytes
returns-in_err-replica-clause-bytes g c = λ y0 e0. goes_on _ _ _ _ _ _ _ _ (c.in_ok-client.ensures.bytes y0 e0) (λ y1 e1. goes_on _ _ _ _ _ _ _ _ (c.in_ok-request.ensures.bytes y1 e1) (λ y2 e2. goes_on _ _ _ _ _ _ _ _ (c.in_ok-instance.ensures.bytes y2 e2) (λ y3 e3. goes_on _ _ _ _ _ _ _ _ (c.in_ok-seen.ensures.bytes y3 e3) (λ y4 e4. fails _ _ _ _ _ _ _ _ (c.in_err-replica.ensures.bytes y4 e4) c.from_residual-in_err-replica.ensures.1))))

pub returns-in_err-entry-clause-bytes : goal.returns-in_err-entry-clause-bytes
returns-in_err-entry-clause-bytes g c = λ y0 e0. goes_on _ _ _ _ _ _ _ _ (c.in_ok-client.ensures.bytes y0 e0) (λ y1 e1. goes_on _ _ _ _ _ _ _ _ (c.in_ok-request.ensures.bytes y1 e1) (λ y2 e2. goes_on _ _ _ _ _ _ _ _ (c.in_ok-instance.ensures.bytes y2 e2) (λ y3 e3. goes_on _ _ _ _ _ _ _ _ (c.in_ok-seen.ensures.bytes y3 e3) (λ y4 e4. goes_on _ _ _ _ _ _ _ _ (c.in_ok-replica.ensures.bytes y4 e4) (λ y5 e5. fails _ _ _ _ _ _ _ _ (c.in_err-entry.ensures.bytes y5 e5) c.from_residual-in_err-entry.ensures.1)))))

pub returns-in_err-stamp-clause-bytes : goal.returns-in_err-stamp-clause-bytes
returns-in_err-stamp-clause-bytes g c = λ y0 e0. goes_on _ _ _ _ _ _ _ _ (c.in_ok-client.ensures.bytes y0 e0) (λ y1 e1. goes_on _ _ _ _ _ _ _ _ (c.in_ok-request.ensures.bytes y1 e1) (λ y2 e2. goes_on _ _ _ _ _ _ _ _ (c.in_ok-instance.ensures.bytes y2 e2) (λ y3 e3. goes_on _ _ _ _ _ _ _ _ (c.in_ok-seen.ensures.bytes y3 e3) (λ y4 e4. goes_on _ _ _ _ _ _ _ _ (c.in_ok-replica.ensures.bytes y4 e4) (λ y5 e5. goes_on _ _ _ _ _ _ _ _ (c.in_ok-entry.ensures.bytes y5 e5) (λ y6 e6. fails _ _ _ _ _ _ _ _ (c.in_err-stamp.ensures.bytes y6 e6) c.from_residual-in_err-stamp.ensures.1))))))

pub returns-in_err-answer-clause-bytes : goal.returns-in_err-answer-clause-bytes
returns-in_err-answer-clause-bytes g c = λ y0 e0. goes_on _ _ _ _ _ _ _ _ (c.in_ok-client.ensures.bytes y0 e0) (λ y1 e1. goes_on _ _ _ _ _ _ _ _ (c.in_ok-request.ensures.bytes y1 e1) (λ y2 e2. goes_on _ _ _ _ _ _ _ _ (c.in_ok-instance.ensures.bytes y2 e2) (λ y3 e3. goes_on _ _ _ _ _ _ _ _ (c.in_ok-seen.ensures.bytes y3 e3) (λ y4 e4. goes_on _ _ _ _ _ _ _ _ (c.in_ok-replica.ensures.bytes y4 e4) (λ y5 e5. goes_on _ _ _ _ _ _ _ _ (c.in_ok-entry.ensures.bytes y5 e5) (λ y6 e6. goes_on _ _ _ _ _ _ _ _ (c.in_ok-stamp.ensures.bytes y6 e6) (λ y7 e7. fails _ _ _ _ _ _ _ _ (c.in_err-answer.ensures.bytes y7 e7) c.from_residual-in_err-answer.ensures.1)))))))
