-- A turn in bytes.
use Rattle.std.specs.Prelude.{◌≡◌, ℕ, List, Some}
use Rattle.ep_patience.specs.OpenBytes.{asked_bytes, open_list}
use Rattle.ep_patience.specs.Turning.{HasTurned}
use Rattle.ep_patience.specs.declared.patience.Patience.{Patience}
use Rattle.ep_patience.specs.declared.remedy.Remedy.{Remedy}
use Rattle.ep_patience.specs.declared.seen.Seen.{Seen}

-- the bytes are open instances, with which there was a turn, and what it asks for is reported
pub record HasReported (p : Patience) (now : ℕ) (open_bytes : List ℕ) (q : Patience) (reported : List ℕ) : Type 0 where
  pub seen : List Seen
  pub asked : List Remedy
  pub read : open_list open_bytes ≡ Some seen
  pub turned : HasTurned p now seen q asked
  pub written : reported ≡ asked_bytes asked
