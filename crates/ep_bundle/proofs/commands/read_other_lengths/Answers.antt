use Rattle.std.proofs.Common.{sym, ◌∙◌, subst}
use Rattle.ep_base.specs.declared.version.Version.{Version}
use Rattle.ep_bundle.specs.Reading.{Reads}
use Rattle.ep_bundle.specs.Stages.{other_lengths}
use Rattle.ep_bundle.proofs.commands.read_other_lengths.Goals as goal

pub returns-in-V3-clause-bytes : goal.returns-in-V3-clause-bytes
returns-in-V3-clause-bytes g c = λ zs h.
    subst (λ (v : Version). Reads (other_lengths v c.args.op c.args.first (record { at = c.args.place.now; bytes = zs })) c.read_late_lengths.result c.read_late_lengths.new.place (g.S.Source.left c.read_late_lengths.new.source)) (sym c.in-V3.is ∙ c.kind.ensures.value)
    (c.read_late_lengths.ensures.bytes zs c.in-V3.field-0 h)
