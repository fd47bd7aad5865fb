use Rattle.std.proofs.Common.{◌∙◌, ap, refl}
use Rattle.ep_device.specs.Memory.{memory_bytes}
use Rattle.ep_embedded.proofs.Beginning.{lends_whole}
use Rattle.ep_embedded.proofs.opening.hosted_by.Goals as goal

pub invariant_of-result : goal.invariant_of-result
invariant_of-result c = lends_whole c.args.node c.onto-node.result.0 _ c.into_bytes.result c.onto-node.ensures.node c.requires (λ b is. c.onto-node.ensures.log c.requires.works b is) (c.into_bytes.ensures ∙ ap memory_bytes c.onto-node.ensures.device)

pub returns-clause-lent : goal.returns-clause-lent
returns-clause-lent c = (c.into_bytes.result, refl, c.into_bytes.ensures ∙ ap memory_bytes c.onto-node.ensures.device)
