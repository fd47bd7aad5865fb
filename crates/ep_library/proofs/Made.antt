-- Files that parts make.
use Rattle.std.proofs.Common.{◌≡◌, ℕ, List, inr, subst}
use Rattle.ep_library.specs.Openings.{file_bytes, CopiesFile, Spells, Written}
use Rattle.ep_library.specs.declared.opening_parts.OpeningParts.{OpeningParts}

-- what is done with the bytes of the file is done with those that the parts make
pub spelled : (status : ℕ) (p : OpeningParts) (bytes : List ℕ) (old new : Written)
    → bytes ≡ file_bytes p → CopiesFile status bytes old new → Spells status p old new
spelled status p bytes old new is done = inr (subst (λ (b : List ℕ). CopiesFile status b old new) is done)
