use Rattle.ep_bundle.specs.Headers.{Pair}
use Rattle.ep_bundle.proofs.Journeys.{mapped}
use Rattle.ep_bundle.proofs.Readings.{fails, goes_on}
use Rattle.ep_bundle.proofs.pairs.read_pair.Goals as goal

pub returns-in_err-key_len-clause-bytes : goal.returns-in_err-key_len-clause-bytes
returns-in_err-key_len-clause-bytes g c = λ y0 e0 key value h. fails _ _ _ _ _ _ _ _ (c.in_err-key_len.ensures.bytes y0 e0) (mapped {A = Unit {0}} {B = Pair} (λ x. (key, value)) c.from_residual.result c.in_err-key_len.field-0.0 c.from_residual.ensures.1)

pub returns-in_err-value_len-clause-bytes : goal.returns-in_err-value_len-clause-bytes
returns-in_err-value_len-clause-bytes g c = λ y0 e0 key value h. goes_on _ _ _ _ _ _ _ _ (c.in_ok-key_len.ensures.bytes y0 e0) (λ y1 e1. fails _ _ _ _ _ _ _ _ (c.in_err-value_len.ensures.bytes y1 e1) (mapped {A = Unit {0}} {B = Pair} (λ x. (key, value)) c.from_residual-in_err-value_len.result c.in_err-value_len.field-0.0 c.from_residual-in_err-value_len.ensures.1))

pub returns-in_err-key-clause-bytes : goal.returns-in_err-key-clause-bytes
returns-in_err-key-clause-bytes g c = λ y0 e0 key value h. goes_on _ _ _ _ _ _ _ _ (c.in_ok-key_len.ensures.bytes y0 e0) (λ y1 e1. goes_on _ _ _ _ _ _ _ _ (c.in_ok-value_len.ensures.bytes y1 e1) (λ y2 e2. fails _ _ _ _ _ _ _ _ (c.in_err-key.ensures.bytes y2 e2) (mapped {A = Unit {0}} {B = Pair} (λ x. (key, value)) c.from_residual-in_err-key.result c.in_err-key.field-0.0 c.from_residual-in_err-key.ensures.1)))

pub returns-in_err-value-clause-bytes : goal.returns-in_err-value-clause-bytes
returns-in_err-value-clause-bytes g c = λ y0 e0 key value h. goes_on _ _ _ _ _ _ _ _ (c.in_ok-key_len.ensures.bytes y0 e0) (λ y1 e1. goes_on _ _ _ _ _ _ _ _ (c.in_ok-value_len.ensures.bytes y1 e1) (λ y2 e2. goes_on _ _ _ _ _ _ _ _ (c.in_ok-key.ensures.bytes y2 e2) (λ y3 e3. fails _ _ _ _ _ _ _ _ (c.in_err-value.ensures.bytes y3 e3) (mapped {A = Unit {0}} {B = Pair} (λ x. (key, value)) c.from_residual-in_err-value.result c.in_err-value.field-0.0 c.from_residual-in_err-value.ensures.1))))
