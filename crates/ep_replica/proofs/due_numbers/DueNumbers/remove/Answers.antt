use Rattle.std.proofs.Common.{◌<◌, length, rules}
use Rattle.ep_replica.proofs.Waking.{other_flag}
use Rattle.ep_replica.proofs.due_numbers.DueNumbers.remove.Goals as goal

pub invariant_of-self : goal.invariant_of-self
invariant_of-self c = λ n is.
    let low : c.args.number < length c.self.inside.flags.items = search rules in
    let was = other_flag c.self.inside.flags.items c.args.number n low is in
    c.without-self-inside.ensures n (c.self.invariant n was.1) was.0
