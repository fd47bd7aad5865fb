-- What there is of the next generation.
use Rattle.std.proofs.Common.{◌≡◌, ◌⊎◌, ℕ, inl, inr, List, [], Option, Some, None, Result, Ok, Err, IfOk, IfErr, refl, ap, sym, subst, ◌∙◌}
use Rattle.ep_embedded.proofs.Heirs.{gone}
use Rattle.ep_embedded.specs.Bound.{IsBegunBound, IsUnbegunBound}
use Rattle.ep_embedded.specs.Hosting.{Hosting}
use Rattle.ep_embedded.specs.Succeeding.{HasSucceeded, IsLost, MaySucceed}
use Rattle.ep_embedded.specs.declared.heir.Heir.{Heir}
use Rattle.ep_embedded.specs.declared.hosted_checkpoint.HostedCheckpoint.{HostedCheckpoint}
use Rattle.ep_embedded.specs.declared.start_fault.StartFault.{StartFault}
use Rattle.ep_embedded.specs.declared.succeed_fault.SucceedFault.{SucceedFault}
use Rattle.ep_opening.specs.Bytes.{opening_bytes}
use Rattle.ep_opening.specs.Files.{File}
use Rattle.ep_opening.specs.Pieces.{Pieces}
use Rattle.ep_library.specs.Arguments.{log_given}
use Rattle.ep_library.specs.Bound.{BeginsBound}
use Rattle.ep_library.specs.Places.{succeed_place}
use Rattle.ep_library.specs.Statuses.{done, succeed_status}
use Rattle.ep_library.specs.Succeeding.{IsHeir, IsSpareLog, Keeps, KeepsBoth, Succeeds}
use Rattle.ep_library.specs.declared.place.Place.{Place}
use Rattle.ep_library.specs.declared.succession.Succession.{Succession}

-- nothing of the file was given, and it is kept
pub kept : (file : File) (k : Pieces) (n b : HostedCheckpoint) (new : Option HostedCheckpoint) → new ≡ Some b → b ≡ n → n.checkpoint ≡ k → n.piece.items ≡ [] → k ≡ record { file = file; left = opening_bytes file } → Keeps done file new
kept file k n b new is own begun piece whole =
    inl (
      refl,
      (
        n,
        is ∙ ap (λ (x : HostedCheckpoint). Some x) own,
        record {
          file = ap (λ (p : Pieces). p.file) begun ∙ ap (λ (p : Pieces). p.file) whole;
          left = ap (λ (p : Pieces). p.left) begun ∙ ap (λ (p : Pieces). p.left) whole;
          piece = piece;
        },
      ),
    )

-- what is begun of copies of the bytes is begun of these
begins_as : (heir : Heir) (bytes : List ℕ) (log : Option (List ℕ)) (begun : Result Hosting StartFault) → IfOk begun (IsBegunBound heir bytes log) → IfErr begun (IsUnbegunBound heir bytes log) → BeginsBound heir bytes log begun
begins_as heir bytes log (Ok h) ok err = ok
begins_as heir bytes log (Err fault) ok err = err

pub begins : (heir : Heir) (bytes own : List ℕ) (given log : Option (List ℕ)) (begun : Result Hosting StartFault) → own ≡ bytes → given ≡ log → IfOk begun (IsBegunBound heir own given) → IfErr begun (IsUnbegunBound heir own given) → BeginsBound heir bytes log begun
begins heir bytes own given log begun same logs ok err =
    subst (λ (l : Option (List ℕ)). BeginsBound heir bytes l begun) logs (subst (λ (bs : List ℕ). BeginsBound heir bs given begun) same (begins_as heir own given begun ok err))

-- it has gone on
pub gone_on : (status : ℕ) (h own : Hosting) (s : Succession) (heir : Heir) (k : Hosting) (file : File) (new : Option Hosting) (left : Option HostedCheckpoint) → IsHeir s heir → ¬ IsSpareLog s → own ≡ h → HasSucceeded own heir (log_given s.is_new s.log.now) file k → KeepsBoth status k file new left → Succeeds status None h s new left
gone_on status h own s heir k file new left is spare same succeeded keeps =
    inr (inr (heir, is, spare, inl (refl, (k, file, subst (λ (x : Hosting). HasSucceeded x heir (log_given s.is_new s.log.now) file k) same succeeded, keeps))))

-- it is gone, though it might go on
pub is_gone : (status : ℕ) (reported : Option Place) (h own : Hosting) (s : Succession) (heir : Heir) (fault : SucceedFault) (new : Option Hosting) (left : Option HostedCheckpoint) → IsHeir s heir → ¬ IsSpareLog s → own ≡ h → MaySucceed h heir → IsLost own heir (log_given s.is_new s.log.now) fault → status ≡ succeed_status fault → reported ≡ succeed_place fault → new ≡ None → left ≡ None → Succeeds status reported h s new left
is_gone status reported h own s heir fault new left is spare same may lost why place none free =
    let log = log_given s.is_new s.log.now in
    inr (inr (heir, is, spare, inr (inr (fault, why, place, gone h heir log fault may (subst (λ (x : Hosting). IsLost x heir log fault) same lost), none, free))))
