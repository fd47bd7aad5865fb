use Rattle.std.proofs.Common.{◌∙◌, arith}
use Rattle.ep_frame.proofs.Within.{within_is}
use Rattle.ep_frame.proofs.handled.is_within.Goals as goal

pub returns : goal.returns
returns c = c.names_within.ensures ∙ within_is c.args.count c.args.bytes.now (λ i. omega (arith, c.type_inv.bytes i)) c.requires
