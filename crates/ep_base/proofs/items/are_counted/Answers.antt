use Rattle.std.proofs.Common.{arith}
use Rattle.ep_base.proofs.Many.{items_len}
use Rattle.ep_base.proofs.items.are_counted.Goals as goal

pub reported_count-requires : goal.reported_count-requires
reported_count-requires c =
    let is = items_len c.args.left c.args.rest.now in
    let few = c.if-left-gt-MOST_KEYS.false in
    omega (arith, is, few)
