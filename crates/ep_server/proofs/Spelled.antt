-- What help says of the numbers of replicas.
use Rattle.std.proofs.Common.{◌≡◌, ℕ, ◌+◌, ◌*◌, ◌<◌, List, [], ◌∷◌, ◌++◌, codes, decimal, ap, ◌∙◌}
use Rattle.std.proofs.lemmas.Fmt.{decimal_digit}
use Rattle.ep_server.specs.Words.{numbers_text}

pub with_digit :
    (faults digit : ℕ) → 2 * faults ≡ digit → digit < 10 →
    numbers_text faults ≡ codes ": it takes a number from 0 to " ++ (48 + digit) ∷ []
with_digit faults digit is small =
    ap (λ (ds : List ℕ). codes ": it takes a number from 0 to " ++ ds) (ap decimal is ∙ decimal_digit digit small)
