-- A file that isn't read is one of those that are named.
use Rattle.std.proofs.Common.{◌≡◌, ◌<◌, ℕ, zero, suc, List, [], ◌∷◌, Some, length, get_or, map, slice_get, slice_index_or, sym, ap, ◌∙◌, arith}
use Rattle.std.proofs.lemmas.Option.{slice_get-get_or}
use Rattle.ep_cli.specs.Files.{IsOfFile, IsUnread}
use Rattle.ep_cli.specs.declared.files_fault.FilesFault.{FilesFault}
use Rattle.ep_cli.specs.declared.files_fault.FilesFault.TheVariants as files

-- a name's bytes stand at its place
pub record IsAt (i : ℕ) (names : List (List ℕ)) (bytes default : List ℕ) : Type 0 where
  pub less : i < length names
  pub is : slice_index_or names i default ≡ bytes

pub at : {S : Type 0} (f : S → List ℕ) (i : ℕ) (names : List S) (name : S) (default : List ℕ) → slice_get names i ≡ Some name → IsAt i (map f names) (f name) default
at f i [] name default h = absurd (cc)
at f zero (y ∷ names) name default h = let same : y ≡ name = (let s : Some y ≡ Some name = h in cc) in record { less = omega arith; is = ap f same }
at f (suc i) (y ∷ names) name default h =
    let rest = at f i names name default h in
    let less = rest.less in
    record { less = omega arith; is = rest.is }

pub not_file :
    {S : Type 0} (f : S → List ℕ) (e : FilesFault) (i : ℕ) (names : List S) (name d : S) → i < length names → name ≡ get_or names i d → IsOfFile (f name) e → IsUnread (map f names) e
not_file f files.Memory i names name d less is h = tt
not_file f (files.ReadFailed line) i names name d less is h =
    let there : IsAt i (map f names) (f name) (f name) = at f i names name (f name) (slice_get-get_or names i d less ∙ ap Some (sym is)) in
    (f name, (i, there.less, there.is), h)
not_file f (files.Refused line) i names name d less is h = absurd h
