-- Three puts, of which the second one is a name.
use Rattle.std.proofs.Common.{◌≡◌, ℕ, Bool, List, ◌++◌, Option, Result, subst}
use Rattle.std.specs.Io.KnownBytes.{Appends}
use Rattle.ep_base.specs.Devices.{Puts}
use Rattle.ep_cli.proofs.Puts.{puts_third}

pub puts_named :
    {T E : Type 0} (a b c d : Option (List ℕ)) (first second third last : Bool) (xs ys zs name : List ℕ) (r : Result T E) → ys ≡ name → Appends a b xs → second ≡ first → Appends b c ys → third ≡ second →
    Puts c d third last r zs → Puts a d first last r (xs ++ name ++ zs)
puts_named a b c d first second third last xs ys zs name r is p same q same' s =
    subst (λ (l : List ℕ). Puts a d first last r (xs ++ l ++ zs)) is (puts_third a b c d first second third last xs ys zs r p same q same' s)
