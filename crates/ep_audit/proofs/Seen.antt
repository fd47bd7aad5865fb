-- What was seen.
use Rattle.std.proofs.Common.{◌≡◌, ℕ, true, false, List, length, arith}
use Rattle.std.proofs.lemmas.Bool.{le-leb, lt-leb}
use Rattle.ep_base.specs.Places.{place, Has}
use Rattle.ep_rules.specs.History.{is_new}
use Rattle.ep_rules.proofs.Places.{not_has}

pub new_false : (xs : List ℕ) (i : ℕ) → Has xs i → is_new xs i ≡ false
new_false xs i h = lt-leb (length xs) (place xs i) h

pub new_true : (xs : List ℕ) (i : ℕ) → ¬ Has xs i → is_new xs i ≡ true
new_true xs i n = let e = not_has xs i n in le-leb (length xs) (place xs i) (omega arith)
