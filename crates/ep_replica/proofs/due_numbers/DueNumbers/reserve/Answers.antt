use Rattle.std.proofs.Common.{◌∙◌, sym}
use Rattle.ep_replica.proofs.due_numbers.DueNumbers.reserve.Goals as goal

pub invariant_of-self : goal.invariant_of-self
invariant_of-self c = λ n is. c.self.invariant n (sym (c.widen.ensures.same n) ∙ is)
