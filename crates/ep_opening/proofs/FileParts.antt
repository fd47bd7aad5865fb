-- The parts of a file that closes a journal.
use Rattle.std.proofs.Common.{◌≡◌, ℕ, ◌≤◌, true, false, not, List, Option, Some, None, sym, ap, subst}
use Rattle.std.specs.Prelude.{is_none}
use Rattle.std.proofs.lemmas.Bool.{false≢true}
use Rattle.ep_opening.specs.Files.{HasItsSeal}
use Rattle.ep_rules.specs.OneMap.{Store, is_closed}

-- whether a seal was executed

pub open_now : (s : Store) → None ≡ s.seal → is_closed s ≡ false
open_now s is = sym (ap (λ (o : Option (List ℕ)). not (is_none o)) is)

pub closed_now : (s : Store) (v : List ℕ) → Some v ≡ s.seal → is_closed s ≡ true
closed_now s v is = sym (ap (λ (o : Option (List ℕ)). not (is_none o)) is)

-- the file

pub has_its_seal : (g : ℕ) (s : Store) (seal : Option (List ℕ)) → 2 ≤ g → is_closed s ≡ true → seal ≡ s.seal → HasItsSeal g seal
has_its_seal g s seal later closed is = go seal (subst (λ (o : Option (List ℕ)). not (is_none o) ≡ true) (sym is) closed)
  where
    go : (o : Option (List ℕ)) → not (is_none o) ≡ true → HasItsSeal g o
    go None e = absurd (false≢true e)
    go (Some v) e = later
