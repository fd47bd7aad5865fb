-- Giving bytes that were read ahead.
use Rattle.std.proofs.Common.{◌≡◌, ℕ, zero, suc, ◌≤◌, Bool, true, false, List, [], ◌∷◌, ◌++◌, length, take, drop, Option, Some, None, refl, sym, ap, ◌∙◌, subst}
use Rattle.std.specs.Prelude.{if◌then◌else◌}
use Rattle.std.specs.Io.BufRead.{DropsConsumable}
use Rattle.std.specs.Io.KnownBytes.{Consumes, prepend_known}
use lib.Seq.{take-append-le}

split : (n : ℕ) (xs : List ℕ) → xs ≡ take n xs ++ drop n xs
split zero xs = refl
split (suc n) [] = refl
split (suc n) (x ∷ xs) = let rest = split n xs in λ t. x ∷ rest t

-- of what is left, some stands ahead, and n of these bytes are consumed
pub gives_ahead : (b : Bool) (ahead : List ℕ) (known new : Option (List ℕ)) (given : List ℕ) (n : ℕ) → n ≤ length ahead → given ≡ take n ahead
    → DropsConsumable (if b then None else prepend_known ahead known) new (Some (length ahead)) n → Consumes (if b then None else prepend_known ahead known) new given
gives_ahead true ahead known new given n le is d = tt
gives_ahead false ahead None new given n le is d = tt
gives_ahead false ahead (Some ys) new given n le is d =
    subst (λ (o : Option (List ℕ)). Consumes (Some (ahead ++ ys)) o given) (sym (d le)) (split n (ahead ++ ys) ∙ ap (λ l. l ++ drop n (ahead ++ ys)) (take-append-le n ahead ys le ∙ sym is))
