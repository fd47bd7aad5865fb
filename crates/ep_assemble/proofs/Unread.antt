-- A file that isn't read or is missing is one of those that are named.
use Rattle.std.proofs.Common.{◌≡◌, ◌⊎◌, ◌<◌, inl, inr, ℕ, List, Some, length, get_or, map, sym, ap, ◌∙◌, arith}
use Rattle.std.proofs.lemmas.Option.{slice_get-get_or}
use Rattle.ep_cli.proofs.NotRead.{IsAt, at}
use Rattle.ep_assemble.specs.GenerationFiles.{IsLacking, IsOfLacking}
use Rattle.ep_cli.specs.declared.files_fault.FilesFault.{FilesFault}
use Rattle.ep_cli.specs.declared.files_fault.FilesFault.TheVariants as files

pub not_file_of :
    {S : Type 0} (f : S → List ℕ) (e : FilesFault) (i : ℕ) (names : List S) (name d : S) → i < length names → name ≡ get_or names i d → IsOfLacking (f name) e → IsLacking (map f names) e
not_file_of f files.Memory i names name d less is h = tt
not_file_of f (files.ReadFailed line) i names name d less is h =
    let there : IsAt i (map f names) (f name) (f name) = at f i names name (f name) (slice_get-get_or names i d less ∙ ap Some (sym is)) in
    (f name, (i, there.less, there.is), h)
not_file_of f (files.Refused line) i names name d less is h =
    let there : IsAt i (map f names) (f name) (f name) = at f i names name (f name) (slice_get-get_or names i d less ∙ ap Some (sym is)) in
    (f name, (i, there.less, there.is), h)
