-- A file that is given in pieces.
use Rattle.std.specs.Prelude.{◌≡◌, ◌⊎◌, ℕ, ◌-◌, ◌≤◌, max, List, [], ◌++◌, take, drop, length, refl}
use Rattle.std.specs.Coded.{Coded, code_by, coded×, coded_ℕ, coded_list}
use Rattle.std.specs.FinMap.{entries}
use Rattle.std.specs.List.{flat_map}
use Rattle.ep_exec.specs.Bytes.{pair_bytes}
use Rattle.ep_frame.specs.Fields.{number_bytes}
use Rattle.sha2.specs.Hashers.{Holds256}
use Rattle.sha2.specs.declared.Sha256.{Sha256}
use Rattle.ep_opening.specs.Bytes.{body_bytes, executed_bytes, file_digest, front_bytes, lead_bytes}
use Rattle.ep_opening.specs.Files.{File, file_code}
use Rattle.ep_opening.specs.declared.stage.Stage.{Stage}
use Rattle.ep_opening.specs.declared.stage.Stage.TheVariants.{Front, Entries, Digest, Over}

-- a file, and the bytes of it that weren't given yet
pub record Pieces : Type 0 where
  pub file : File
  pub left : List ℕ

abbrev pub pieces_code : Coded Pieces
pieces_code = code_by (File × List ℕ) (coded× file_code (coded_list coded_ℕ)) (λ p. (p.file, p.left)) (λ p. record { file = p.0; left = p.1 }) (λ _. refl)

-- what stands before the map's entries, and the first of these from a place on
abbrev pub head_bytes : File → List ℕ
head_bytes f = lead_bytes ++ front_bytes f ++ number_bytes 4 (length (entries f.opening.contents))

abbrev pub entries_from : File → ℕ → List ℕ
entries_from f i = flat_map pair_bytes (drop i (entries f.opening.contents))

-- those from a place on, up to another one
abbrev pub bytes_between : (start end : ℕ) → List (List ℕ × List ℕ) → List ℕ
bytes_between start end es = flat_map pair_bytes (take (end - start) (drop start es))

-- what is left before the digest
abbrev pub body_left : File → Stage → List ℕ
body_left f Front = body_bytes f
body_left f (Entries i) = entries_from f i ++ executed_bytes f.executed
body_left f Digest = []
body_left f Over = []

abbrev pub left_of : File → Stage → List ℕ
left_of f Front = body_left f Front ++ file_digest f
left_of f (Entries i) = body_left f (Entries i) ++ file_digest f
left_of f Digest = file_digest f
left_of f Over = []

-- the hasher has what was given
pub record IsUnderWay (f : File) (s : Stage) (hasher : Sha256) : Type 0 where
  pub given : List ℕ
  pub held : Holds256 hasher given
  pub all : given ++ body_left f s ≡ body_bytes f

-- until all is given
abbrev pub IsGiven : File → Stage → Sha256 → Type 0
IsGiven f Front hasher = IsUnderWay f Front hasher
IsGiven f (Entries i) hasher = IsUnderWay f (Entries i) hasher
IsGiven f Digest hasher = IsUnderWay f Digest hasher
IsGiven f Over hasher = Unit {0}

-- the piece stands first in what is left of the body, and leaves what is left at the other stage, which isn't over
pub record IsPiece (f : File) (s : Stage) (piece : List ℕ) (next : Stage) : Type 0 where
  pub is : body_left f s ≡ piece ++ body_left f next
  pub goes_on : left_of f next ≡ body_left f next ++ file_digest f

-- the digest is given alone: what is left ends with it; or nothing is, and the piece is it, unless all was given before
abbrev pub IsAlone : File → (piece left : List ℕ) → Type 0
IsAlone f piece left =
    ((body : List ℕ) × (left ≡ body ++ file_digest f)) ⊎ ((left ≡ []) × ((piece ≡ file_digest f) ⊎ (piece ≡ [])))

-- how many bytes a field has at most: the executed instances, with their number before them, are the longest
unfoldable pub longest_field : ℕ
longest_field = 189004

-- no more than was asked for, or than a field has; and never nothing
pub record IsShort (most : ℕ) (piece : List ℕ) : Type 0 where
  pub some : 1 ≤ length piece
  pub short : length piece ≤ max most longest_field
