use Rattle.ep_bundle.proofs.ReadHeaders.{header_read, opens_as}
use Rattle.ep_bundle.proofs.Readings.{fails, goes_on}
use Rattle.ep_bundle.proofs.headers.read_header_of.Goals as goal

pub returns-in_err-field_u32-clause-bytes : goal.returns-in_err-field_u32-clause-bytes
returns-in_err-field_u32-clause-bytes g c = λ y0 e0. fails _ _ _ _ _ _ _ _ (c.in_err-field_u32.ensures.bytes y0 e0) c.from_residual.ensures.1

pub returns-in_err-number-clause-bytes : goal.returns-in_err-number-clause-bytes
returns-in_err-number-clause-bytes g c = λ y0 e0. goes_on _ _ _ _ _ _ _ _ (c.in_ok-field_u32.ensures.bytes y0 e0) (λ y1 e1. fails _ _ _ _ _ _ _ _ (c.in_err-number.ensures.bytes y1 e1) c.from_residual-in_err-number.ensures.1)

pub returns-in_err-cluster-clause-bytes : goal.returns-in_err-cluster-clause-bytes
returns-in_err-cluster-clause-bytes g c = λ y0 e0. goes_on _ _ _ _ _ _ _ _ (c.in_ok-field_u32.ensures.bytes y0 e0) (λ y1 e1. goes_on _ _ _ _ _ _ _ _ (c.in_ok-number.ensures.bytes y1 e1) (λ y2 e2. fails _ _ _ _ _ _ _ _ (c.in_err-cluster.ensures.bytes y2 e2) c.from_residual-in_err-cluster.ensures.1))

pub returns-in_err-edition-clause-bytes : goal.returns-in_err-edition-clause-bytes
returns-in_err-edition-clause-bytes g c = λ y0 e0. goes_on _ _ _ _ _ _ _ _ (c.in_ok-field_u32.ensures.bytes y0 e0) (λ y1 e1. goes_on _ _ _ _ _ _ _ _ (c.in_ok-number.ensures.bytes y1 e1) (λ y2 e2. goes_on _ _ _ _ _ _ _ _ (c.in_ok-cluster.ensures.bytes y2 e2) (λ y3 e3. fails _ _ _ _ _ _ _ _ (c.in_err-edition.ensures.bytes y3 e3) c.from_residual-in_err-edition.ensures.1)))

pub returns-in_err-receipts-clause-bytes : goal.returns-in_err-receipts-clause-bytes
returns-in_err-receipts-clause-bytes g c = λ y0 e0. goes_on _ _ _ _ _ _ _ _ (c.in_ok-field_u32.ensures.bytes y0 e0) (λ y1 e1. goes_on _ _ _ _ _ _ _ _ (c.in_ok-number.ensures.bytes y1 e1) (λ y2 e2. goes_on _ _ _ _ _ _ _ _ (c.in_ok-cluster.ensures.bytes y2 e2) (λ y3 e3. goes_on _ _ _ _ _ _ _ _ (c.in_ok-edition.ensures.bytes y3 e3) (λ y4 e4. fails _ _ _ _ _ _ _ _ (c.in_err-receipts.ensures.bytes y4 e4) c.from_residual-in_err-receipts.ensures.1))))

pub returns-in_err-contents-clause-bytes : goal.returns-in_err-contents-clause-bytes
returns-in_err-contents-clause-bytes g c = λ y0 e0. goes_on _ _ _ _ _ _ _ _ (c.in_ok-field_u32.ensures.bytes y0 e0) (λ y1 e1. goes_on _ _ _ _ _ _ _ _ (c.in_ok-number.ensures.bytes y1 e1) (λ y2 e2. goes_on _ _ _ _ _ _ _ _ (c.in_ok-cluster.ensures.bytes y2 e2) (λ y3 e3. goes_on _ _ _ _ _ _ _ _ (c.in_ok-edition.ensures.bytes y3 e3) (λ y4 e4. goes_on _ _ _ _ _ _ _ _ (c.in_ok-receipts.ensures.bytes y4 e4) (λ y5 e5. fails _ _ _ _ _ _ _ _ (c.in_err-contents.ensures.bytes y5 e5) c.from_residual-in_err-contents.ensures.1)))))

pub returns-clause-bytes : goal.returns-clause-bytes
returns-clause-bytes g c = λ y0 e0.
    header_read c.args.low c.args.high (record { at = c.args.place.now; bytes = y0 }) c.in_ok-field_u32.field-0 c.in_ok-number.number c.in_ok-cluster.cluster c.in_ok-edition.edition c.in_ok-receipts.receipts c.in_ok-contents.contents c.in-Ok.opening
    c.field_u32.new.place c.field_u8.new.place c.read_cluster.new.place c.read_edition.new.place c.read_u32.new.place c.read_map.new.place
    (g.S.Source.left c.field_u32.new.source) (g.S.Source.left c.field_u8.new.source) (g.S.Source.left c.read_cluster.new.source) (g.S.Source.left c.read_edition.new.source) (g.S.Source.left c.read_u32.new.source) (g.S.Source.left c.read_map.new.source)
    (c.in_ok-field_u32.ensures.bytes y0 e0) (λ y e. c.in_ok-number.ensures.bytes y e) (λ y e. c.in_ok-cluster.ensures.bytes y e) (λ y e. c.in_ok-edition.ensures.bytes y e) (λ y e. c.in_ok-receipts.ensures.bytes y e) (λ y e. c.in_ok-contents.ensures.bytes y e) c.in-Ok.ensures.value

pub returns-clause-opens : goal.returns-clause-opens
returns-clause-opens g c = opens_as c.in_ok-edition.edition.0 c.in_ok-contents.contents c.in_ok-edition.edition.1 c.in-Ok.opening c.in-Ok.ensures.value c.in_ok-edition.ensures.starts c.in_ok-contents.ensures.holds
