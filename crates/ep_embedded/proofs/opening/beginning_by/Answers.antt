use Rattle.std.proofs.Common.{◌∙◌, refl, sym, ap}
use Rattle.ep_base.specs.Quorums.{size}
use Rattle.ep_base.specs.declared.version_kind.VersionKind.TheVariants.{V3}
use Rattle.ep_opening.specs.Bytes.{opening_bytes}
use Rattle.ep_opening.specs.Files.{File}
use Rattle.ep_embedded.proofs.opening.beginning_by.Goals as goal

pub returns-then-not-is_same_size-clause-err : goal.returns-then-not-is_same_size-clause-err
returns-then-not-is_same_size-clause-err c =
    let found = c.size-found.ensures ∙ ap (λ (f : File). f.faults) c.into_file-file.ensures in
    (opening_bytes c.args.spelled, c.args.spelled, refl, refl, λ e. c.is_same_size.ensures.no c.if-not-is_same_size.true (found ∙ e), c.count.ensures.value ∙ ap size found)

pub returns-clause-ok : goal.returns-clause-ok
returns-clause-ok c =
    let into = c.into_file-file.ensures in
    let found = c.size-found.ensures ∙ ap (λ (f : File). f.faults) into in
    let generation = c.generation-generation.ensures ∙ ap (λ (f : File). f.generation) into in
    let opening = c.into_opening.ensures ∙ ap (λ (f : File). f.opening) into in
    record {
      file = c.args.spelled;
      spelled = refl;
      cluster_is = sym (c.is_same_size.ensures.yes c.if-not-is_same_size.false) ∙ found;
      origin_is = c.in_ok-origin.ensures ∙ (λ t. record { version = V3 (generation t); opening = opening t; digest = c.digest-digest.ensures t });
    }
