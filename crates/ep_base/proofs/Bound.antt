-- A set of instances has at most as many members as there are instances.
use Rattle.std.proofs.Common.{ℕ, ◌+◌, ◌*◌, ◌<◌, ◌≤◌, List, [], ◌∷◌, length, arith}
use Rattle.ep_base.specs.Instances.{leader_of, number_of, highest_number, IsInstance}
use Rattle.ep_base.specs.Deps.{IsRising, AreInstances, most_deps}

-- of two instances the lower one has fewer below it
below_rises : (i j : ℕ) → IsInstance i → IsInstance j → i < j → leader_of i * highest_number + number_of i < leader_of j * highest_number + number_of j
below_rises i j h k low = omega (arith, h, k)

from_first : (i : ℕ) (is : List ℕ) → IsRising (i ∷ is) → AreInstances (i ∷ is) → length is + (leader_of i * highest_number + number_of i) ≤ most_deps
from_first i [] h k = let in_i = k.0 in omega arith
from_first i (j ∷ js) h k = let rest = from_first j js h.1 k.1 in let rises = below_rises i j k.0 k.1.0 h.0 in omega arith

pub length-instances : (is : List ℕ) → IsRising is → AreInstances is → length is ≤ most_deps
length-instances [] h k = omega arith
length-instances (i ∷ is) h k = let rest = from_first i is h k in let in_i = k.0 in omega arith
