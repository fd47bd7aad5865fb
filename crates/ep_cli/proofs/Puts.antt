-- Several puts, one after another.
use Rattle.std.proofs.Common.{◌≡◌, ℕ, Bool, List, ◌++◌, Option, Some, None, Result, Ok, Err, ap, subst, ◌∙◌, append_assoc}
use Rattle.std.specs.Io.KnownBytes.{Appends}
use Rattle.ep_base.specs.Devices.{Puts}

pub appends_twice : (a b c : Option (List ℕ)) (xs ys : List ℕ) → Appends a b xs → Appends b c ys → Appends a c (xs ++ ys)
appends_twice None b c xs ys p q = tt
appends_twice (Some k) None c xs ys p q = absurd p
appends_twice (Some k) (Some l) None xs ys p q = absurd q
appends_twice (Some k) (Some l) (Some m) xs ys p q = q ∙ ap (λ (z : List ℕ). z ++ ys) p ∙ append_assoc k xs ys

puts_after :
    {T E : Type 0} (a b c : Option (List ℕ)) (first second third : Bool) (xs ys : List ℕ) (r : Result T E) → Appends a b xs → second ≡ first → Puts b c second third r ys →
    Puts a c first third r (xs ++ ys)
puts_after a b c first second third xs ys (Ok x) p same q = (appends_twice a b c xs ys p q.0, q.1 ∙ same)
puts_after a b c first second third xs ys (Err e) p same q = q

-- two puts, of which the second one's text is this
pub puts_in_two :
    {T E : Type 0} (a b c : Option (List ℕ)) (first second third : Bool) (xs ys text : List ℕ) (r : Result T E) → Appends a b xs → second ≡ first → ys ≡ text →
    Puts b c second third r ys → Puts a c first third r (xs ++ text)
puts_in_two a b c first second third xs ys text r p same is q = puts_after a b c first second third xs text r p same (subst (λ l. Puts b c second third r l) is q)

-- two puts, whose texts are these
pub puts_as :
    {T E : Type 0} (a b c : Option (List ℕ)) (first second third : Bool) (xs ys head text : List ℕ) (r : Result T E) → xs ≡ head → ys ≡ text → Appends a b xs → second ≡ first →
    Puts b c second third r ys → Puts a c first third r (head ++ text)
puts_as a b c first second third xs ys head text r begins is p same q = puts_in_two a b c first second third head ys text r (subst (λ l. Appends a b l) begins p) same is q

pub puts_third :
    {T E : Type 0} (a b c d : Option (List ℕ)) (first second third last : Bool) (xs ys zs : List ℕ) (r : Result T E) → Appends a b xs → second ≡ first → Appends b c ys → third ≡ second → Puts c d third last r zs →
    Puts a d first last r (xs ++ ys ++ zs)
puts_third a b c d first second third last xs ys zs r p same q same' s = puts_after a c d first third last (xs ++ ys) zs r (appends_twice a b c xs ys p q) (same' ∙ same) s
