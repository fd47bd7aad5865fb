use Rattle.std.proofs.Common.{◌∙◌}
use Rattle.ep_base.specs.declared.version_kind.VersionKind.TheVariants.{V3}
use Rattle.ep_embedded.proofs.Heirs.{begun_by, unbegun_as}
use Rattle.ep_embedded.proofs.succeeding.begun.Goals as goal

pub returns-in-Ok-clause-ok : goal.returns-in-Ok-clause-ok
returns-in-Ok-clause-ok c =
    let opening = c.in_ok-opening.ensures ∙ c.opening.ensures in
    begun_by c.args.heir.now c.args.file.now _ c.in_ok-origin.origin c.in-Ok.hosted
    (c.in_ok-origin.ensures ∙ (λ t. record { version = V3 (c.generation.ensures t); opening = opening t; digest = c.args.heir.now.digest })) c.in-Ok.ensures.ok

pub returns-in-Err-clause-err : goal.returns-in-Err-clause-err
returns-in-Err-clause-err c =
    let opening = c.in_ok-opening.ensures ∙ c.opening.ensures in
    unbegun_as c.args.heir.now c.args.file.now _ c.in_ok-origin.origin c.in-Err.fault c.from.result c.from.ensures
    (c.in_ok-origin.ensures ∙ (λ t. record { version = V3 (c.generation.ensures t); opening = opening t; digest = c.args.heir.now.digest })) c.in-Err.ensures.err
