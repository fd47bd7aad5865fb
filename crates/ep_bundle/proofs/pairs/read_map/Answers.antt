use Rattle.std.proofs.Common.{sym, ◌∙◌, subst}
use Rattle.ep_base.specs.declared.version.Version.{Version}
use Rattle.ep_bundle.specs.Headers.{map_in}
use Rattle.ep_bundle.specs.Reading.{Reads}
use Rattle.ep_bundle.proofs.pairs.read_map.Goals as goal

pub returns-in-V3-clause-bytes : goal.returns-in-V3-clause-bytes
returns-in-V3-clause-bytes g c = λ zs h.
    subst (λ (v : Version). Reads (map_in v (record { at = c.args.place.now; bytes = zs })) c.read_counted_map.result c.read_counted_map.new.place (g.S.Source.left c.read_counted_map.new.source)) (sym c.in-V3.is ∙ c.kind.ensures.value)
    (c.read_counted_map.ensures.bytes zs c.in-V3.field-0 h)
