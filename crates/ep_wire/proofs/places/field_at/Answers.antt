use Rattle.ep_wire.proofs.places.field_at.Goals as goal

pub returns-then-kind-eq14 : goal.returns-then-kind-eq14
returns-then-kind-eq14 c = rw c.if-kind-eq14.true c.sparing_field.ensures
