use Rattle.std.proofs.Common.{ap, sym, ◌∙◌}
use Rattle.ep_base.specs.declared.version.Version.{Version}
use Rattle.ep_wire.specs.Requests.{field_in, proposal_fields}
use Rattle.ep_wire.proofs.places.proposal_field.Goals as goal

pub returns-in-V3 : goal.returns-in-V3
returns-in-V3 c = c.late_field_in.ensures ∙ ap (λ (v : Version). field_in (proposal_fields v c.args.body.now) c.args.at) (sym (sym c.kind.ensures.value ∙ c.in-V3.is))
