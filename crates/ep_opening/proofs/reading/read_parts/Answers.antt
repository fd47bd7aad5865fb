use Rattle.ep_opening.specs.Reading.{file_of}
use Rattle.ep_opening.proofs.FileReadings.{fails_reported, goes_on_reported, made_reported}
use Rattle.ep_opening.proofs.reading.read_parts.Goals as goal

pub returns-in_err-front : goal.returns-in_err-front
returns-in_err-front g c = λ y0 e0. fails_reported _ _ _ _ _ _ _ _ (c.in_err-front.ensures y0 e0) c.from_residual.ensures.1

pub returns-in_err-contents : goal.returns-in_err-contents
returns-in_err-contents g c = λ y0 e0. goes_on_reported _ _ _ _ _ _ _ _ (c.in_ok-front.ensures y0 e0) (λ y1 e1. fails_reported _ _ _ _ _ _ _ _ (c.in_err-contents.ensures y1 e1) c.from_residual-in_err-contents.ensures.1)

pub returns-in_err-executed : goal.returns-in_err-executed
returns-in_err-executed g c = λ y0 e0. goes_on_reported _ _ _ _ _ _ _ _ (c.in_ok-front.ensures y0 e0) (λ y1 e1. goes_on_reported _ _ _ _ _ _ _ _ (c.in_ok-contents.ensures y1 e1) (λ y2 e2. fails_reported _ _ _ _ _ _ _ _ (c.in_err-executed.ensures y2 e2) c.from_residual-in_err-executed.ensures.1))

pub returns-in_err-report_end : goal.returns-in_err-report_end
returns-in_err-report_end g c = λ y0 e0. goes_on_reported _ _ _ _ _ _ _ _ (c.in_ok-front.ensures y0 e0) (λ y1 e1. goes_on_reported _ _ _ _ _ _ _ _ (c.in_ok-contents.ensures y1 e1) (λ y2 e2. goes_on_reported _ _ _ _ _ _ _ _ (c.in_ok-executed.ensures y2 e2) (λ y3 e3. fails_reported _ _ _ _ _ _ _ _ (c.in_err-report_end.ensures y3 e3) c.from_residual-in_err-report_end.ensures.1)))

pub returns : goal.returns
returns g c = λ y0 e0. goes_on_reported _ _ _ _ _ _ _ _ (c.in_ok-front.ensures y0 e0) (λ y1 e1. goes_on_reported _ _ _ _ _ _ _ _ (c.in_ok-contents.ensures y1 e1) (λ y2 e2. goes_on_reported _ _ _ _ _ _ _ _ (c.in_ok-executed.ensures y2 e2) (λ y3 e3. goes_on_reported _ _ _ _ _ _ _ _ (c.in_ok-report_end.ensures y3 e3) (λ y3x e3x. made_reported (file_of c.in_ok-front.front c.in_ok-contents.contents c.in_ok-executed.executed) c.report_end.new.place y3x (g.S.Source.left c.report_end.new.source) c.made.result e3x c.made.ensures.ok c.made.ensures.err))))
