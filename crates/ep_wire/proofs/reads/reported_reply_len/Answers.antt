use Rattle.std.proofs.Common.{length, ◌∙◌, ap}
use Rattle.std.specs.List.{sum_by}
use Rattle.ep_base.specs.declared.version_kind.VersionKind.TheVariants.{V3}
use Rattle.ep_bundle.specs.Bytes.{one_reported_bytes}
use Rattle.ep_wire.proofs.ReportedLengths.{answer_size}
use Rattle.ep_wire.proofs.reads.reported_reply_len.Goals as goal

pub returns : goal.returns
returns c = answer_size c.args.reported.now c.reported_len.result (c.reported_len.ensures.value ∙ ap (sum_by (λ o. length (one_reported_bytes (V3 1) o))) c.as_slice.ensures.value)
