-- The equality of instances as code tests it is that of their numbers.
use Rattle.std.proofs.Common.{◌≡◌, ℕ, refl}
use Rattle.std.specs.Prelude.{◌==◌}
use Rattle.std.specs.Cmp.{IsEquivalence, nat_eq_equiv, unsigned_tied}
use Rattle.std.specs.Ordering.{nat_cmp, eq_by_cmp}
use Rattle.ep_space.specs.Entries.{same}

pub same_equiv : IsEquivalence same
same_equiv = nat_eq_equiv

pub same_number : (i j : ℕ) → same i j ≡ (i == j)
same_number i j = refl

pub same-is : (i j : ℕ) → eq_by_cmp nat_cmp i j ≡ same i j
same-is i j = unsigned_tied i j
