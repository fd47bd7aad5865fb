-- A map that a seal closes.
use Rattle.std.proofs.Common.{◌≡◌, ℕ, List, Option, Some, None, refl}
use Rattle.ep_exec.specs.Table.{first_of}

pub first_alone : (o : Option (List ℕ)) → first_of o None ≡ o
first_alone None = refl
first_alone (Some v) = refl
