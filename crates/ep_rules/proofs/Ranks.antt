-- Ranks in a block: no instance is before itself, and so each stands once.
use Rattle.std.proofs.Common.{ℕ, List, [], ◌∷◌, arith}
use Rattle.ep_rules.specs.Graph.{Graph}
use Rattle.ep_rules.specs.Order.{Ranks, Rises}
use Rattle.ep_rules.proofs.Places.{Once}

pub ranks_not : (g : Graph) (i j : ℕ) → Ranks g i j → Ranks g j i → ⊥
ranks_not g i j a b = omega arith

pub ranks_self : (g : Graph) (i : ℕ) → Ranks g i i → ⊥
ranks_self g i a = omega arith

pub once_rises : (g : Graph) (xs : List ℕ) → Rises g xs → Once xs
once_rises g [] rs = tt
once_rises g (x ∷ xs) rs = (λ h. ranks_self g x (rs.0 x h), once_rises g xs rs.1)
