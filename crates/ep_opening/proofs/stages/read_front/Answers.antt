use Rattle.ep_bundle.proofs.Readings.{fails, goes_on}
use Rattle.ep_opening.proofs.stages.read_front.Goals as goal

pub returns-in_err-size : goal.returns-in_err-size
returns-in_err-size g c = λ y0 e0. fails _ _ _ _ _ _ _ _ (c.in_err-size.ensures.bytes y0 e0) c.from_residual.ensures.1

pub returns-in_err-generation : goal.returns-in_err-generation
returns-in_err-generation g c = λ y0 e0. goes_on _ _ _ _ _ _ _ _ (c.in_ok-size.ensures.bytes y0 e0) (λ y1 e1. fails _ _ _ _ _ _ _ _ (c.in_err-generation.ensures y1 e1) c.from_residual-in_err-generation.ensures.1)

pub returns-in_err-base_stamp : goal.returns-in_err-base_stamp
returns-in_err-base_stamp g c = λ y0 e0. goes_on _ _ _ _ _ _ _ _ (c.in_ok-size.ensures.bytes y0 e0) (λ y1 e1. goes_on _ _ _ _ _ _ _ _ (c.in_ok-generation.ensures y1 e1) (λ y2 e2. fails _ _ _ _ _ _ _ _ (c.in_err-base_stamp.ensures.bytes y2 e2) c.from_residual-in_err-base_stamp.ensures.1))

pub returns-in_err-seal : goal.returns-in_err-seal
returns-in_err-seal g c = λ y0 e0. goes_on _ _ _ _ _ _ _ _ (c.in_ok-size.ensures.bytes y0 e0) (λ y1 e1. goes_on _ _ _ _ _ _ _ _ (c.in_ok-generation.ensures y1 e1) (λ y2 e2. goes_on _ _ _ _ _ _ _ _ (c.in_ok-base_stamp.ensures.bytes y2 e2) (λ y3 e3. fails _ _ _ _ _ _ _ _ (c.in_err-seal.ensures y3 e3) c.from_residual-in_err-seal.ensures.1)))
