use Rattle.std.proofs.Common.{◌∙◌}
use Rattle.ep_base.specs.declared.version_kind.VersionKind.TheVariants.{V3}
use Rattle.ep_embedded.proofs.Heirs.{begun_by, unbegun_bound}
use Rattle.ep_embedded.proofs.bound.begun_with.Goals as goal

pub returns-in-Ok-clause-ok : goal.returns-in-Ok-clause-ok
returns-in-Ok-clause-ok c =
    begun_by c.args.heir.now c.args.file _ c.in_ok-origin.origin c.in-Ok.hosted
    (c.in_ok-origin.ensures ∙ (λ t. record { version = V3 (c.generation-generation.ensures t); opening = c.into_opening.ensures t; digest = c.args.heir.now.digest })) c.in-Ok.ensures.ok

pub returns-in-Err-clause-err : goal.returns-in-Err-clause-err
returns-in-Err-clause-err c =
    unbegun_bound c.args.heir.now c.args.file _ c.in_ok-origin.origin c.in-Err.fault c.from.result c.from.ensures
    (c.in_ok-origin.ensures ∙ (λ t. record { version = V3 (c.generation-generation.ensures t); opening = c.into_opening.ensures t; digest = c.args.heir.now.digest })) c.in-Err.ensures.err
