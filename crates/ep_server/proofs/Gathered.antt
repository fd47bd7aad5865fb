-- Why what folders have of a generation isn't taken; and how logs name what stands beside them.
use Rattle.std.proofs.Common.{◌≡◌, ◌⊎◌, ◌<◌, inl, inr, ℕ, Bool, List, [], ◌∷◌, ◌++◌, All, codes, Option, Some, Result, Ok, Err, IfOk, IfErr, length, get_or, map, sym, ap, subst, ◌∙◌, arith}
use Rattle.std.proofs.lemmas.List.Elements.{All-push, All-same}
use Rattle.std.proofs.lemmas.Option.{slice_get-get_or}
use Rattle.std.specs.Global.{Vec}
use Rattle.std.specs.Io.KnownBytes.{Appends}
use Rattle.ep_base.specs.Devices.{Puts}
use Rattle.ep_cli.proofs.Puts.{puts_third}
use Rattle.ep_server.specs.Faults.{line_of_folder}
use Rattle.ep_server.specs.declared.folder_fault.FolderFault.{FolderFault}
use Rattle.ep_assemble.proofs.Unread.{not_file_of}
use Rattle.ep_assemble.specs.GenerationFiles.{IsLacking, IsOfLacking}
use Rattle.ep_assemble.specs.Generations.{NamesItsFile}
use Rattle.ep_assemble.specs.declared.opened_log.OpenedLog.{OpenedLog}
use Rattle.ep_cli.proofs.NotRead.{IsAt, at}
use Rattle.ep_cli.specs.Files.{IsOfFile, IsUnread}
use Rattle.ep_cli.specs.declared.files_fault.FilesFault.{FilesFault}
use Rattle.ep_cli.specs.declared.files_fault.FilesFault.TheVariants as files
use Rattle.ep_opening.specs.Bytes.{opening_bytes}
use Rattle.ep_server.specs.NamedFiles.{AreUnopened, IsNamedLog, IsUnopened}
use Rattle.ep_server.specs.Replays.{HasOpened}
use Rattle.ep_server.specs.declared.named_file.NamedFile.{NamedFile}

abbrev pub Taken : Type 0
Taken = Result OpenedLog FilesFault

-- a folder that isn't read
pub unread_folder : (folder : List ℕ) (e : FilesFault) → IsOfFile folder e → IsUnopened folder e
unread_folder folder files.Memory h = tt
unread_folder folder (files.ReadFailed line) h = h
unread_folder folder (files.Refused line) h = absurd h

pub refused_line : (folder : List ℕ) (why : FolderFault) (line : Vec ℕ) → line.items ≡ folder ++ codes ": " ++ line_of_folder why → IsUnopened folder (files.Refused line)
refused_line folder why line is = (why, is)

-- the line, behind the name
pub puts_behind :
    {T E : Type 0} (a b c d : Option (List ℕ)) (first second third last : Bool) (xs ys zs name : List ℕ) (r : Result T E) → xs ≡ name → Appends a b xs → second ≡ first → Appends b c ys → third ≡ second →
    Puts c d third last r zs → Puts a d first last r (name ++ ys ++ zs)
puts_behind a b c d first second third last xs ys zs name r is p same q same' s =
    subst (λ (l : List ℕ). Puts a d first last r (l ++ ys ++ zs)) is (puts_third a b c d first second third last xs ys zs r p same q same' s)

-- by its name
pub folder_at :
    {S : Type 0} (f : S → List ℕ) (e : FilesFault) (i : ℕ) (folders : List S) (folder d : S) → i < length folders → folder ≡ get_or folders i d → IsUnopened (f folder) e → AreUnopened (map f folders) e
folder_at f e i folders folder d less is h =
    let there : IsAt i (map f folders) (f folder) (f folder) = at f i folders folder (f folder) (slice_get-get_or folders i d less ∙ ap Some (sym is)) in
    (f folder, (i, there.less, there.is), h)

-- the log names the file beside it
pub named_file : (r : Taken) → IfOk r NamesItsFile → IfOk r IsNamedLog
named_file (Ok k) h = inl h
named_file (Err e) h = tt

-- or what its generation opens with
pub spelled_named : (kept : OpenedLog) (n : NamedFile) → HasOpened n → kept.opening.items ≡ opening_bytes n.file → kept.digest ≡ n.digest → IsNamedLog kept
spelled_named kept n opened bytes digest = inr (n, opened, bytes, digest)

-- of three reasons, one or two
pub of_files : (opening log folder : List ℕ) (r : Taken) → IfErr r (λ e. IsOfLacking opening e ⊎ IsOfLacking log e) → IfErr r (λ e. IsOfLacking opening e ⊎ IsOfLacking log e ⊎ IsUnopened folder e)
of_files opening log folder (Ok k) h = tt
of_files opening log folder (Err e) (inl h) = inl h
of_files opening log folder (Err e) (inr h) = inr (inl h)

pub of_log : (opening log folder : List ℕ) (r : Taken) → IfErr r (λ e. IsOfLacking log e ⊎ IsUnopened folder e) → IfErr r (λ e. IsOfLacking opening e ⊎ IsOfLacking log e ⊎ IsUnopened folder e)
of_log opening log folder (Ok k) h = tt
of_log opening log folder (Err e) h = inr h

pub of_folder : (opening log folder : List ℕ) (e : FilesFault) → IsUnopened folder e → IsOfLacking opening e ⊎ IsOfLacking log e ⊎ IsUnopened folder e
of_folder opening log folder e h = inr (inr h)

pub from_log : (log folder : List ℕ) (e : FilesFault) → IsOfLacking log e → IsOfLacking log e ⊎ IsUnopened folder e
from_log log folder e h = inl h

pub from_folder : (log folder : List ℕ) (r : Taken) → IfErr r (IsUnopened folder) → IfErr r (λ e. IsOfLacking log e ⊎ IsUnopened folder e)
from_folder log folder (Ok k) h = tt
from_folder log folder (Err e) h = inr h

-- the same of files that may be missing
pub shown_of_files : (opening log folder : List ℕ) (r : Taken) → IfErr r (λ e. IsOfFile opening e ⊎ IsOfFile log e) → IfErr r (λ e. IsOfFile opening e ⊎ IsOfFile log e ⊎ IsUnopened folder e)
shown_of_files opening log folder (Ok k) h = tt
shown_of_files opening log folder (Err e) (inl h) = inl h
shown_of_files opening log folder (Err e) (inr h) = inr (inl h)

pub shown_of_log : (opening log folder : List ℕ) (r : Taken) → IfErr r (λ e. IsOfFile log e ⊎ IsUnopened folder e) → IfErr r (λ e. IsOfFile opening e ⊎ IsOfFile log e ⊎ IsUnopened folder e)
shown_of_log opening log folder (Ok k) h = tt
shown_of_log opening log folder (Err e) h = inr h

pub from_log_file : (log folder : List ℕ) (e : FilesFault) → IsOfFile log e → IsOfFile log e ⊎ IsUnopened folder e
from_log_file log folder e h = inl h

pub from_folder_file : (log folder : List ℕ) (r : Taken) → IfErr r (IsUnopened folder) → IfErr r (λ e. IsOfFile log e ⊎ IsUnopened folder e)
from_folder_file log folder (Ok k) h = tt
from_folder_file log folder (Err e) h = inr h

-- of four reasons, three or the last one
pub gathered :
    (openings logs folders receipts : List (List ℕ)) (e : FilesFault) → IsLacking openings e ⊎ IsLacking logs e ⊎ AreUnopened folders e → IsLacking openings e ⊎ IsLacking logs e ⊎ AreUnopened folders e ⊎ IsUnread receipts e
gathered openings logs folders receipts e (inl h) = inl h
gathered openings logs folders receipts e (inr (inl h)) = inr (inl h)
gathered openings logs folders receipts e (inr (inr h)) = inr (inr (inl h))

pub no_receipts : (openings logs folders receipts : List (List ℕ)) (e : FilesFault) → IsUnread receipts e → IsLacking openings e ⊎ IsLacking logs e ⊎ AreUnopened folders e ⊎ IsUnread receipts e
no_receipts openings logs folders receipts e h = inr (inr (inr h))

-- one of the folders, of which the names of an opening file and of a log stand in the same place
pub one_of_them :
    {S : Type 0} (f : S → List ℕ) (e : FilesFault) (i : ℕ) (folders openings logs : List S) (folder opening log d d' d'' : S) → length openings ≡ length folders → length logs ≡ length folders → i < length folders →
    folder ≡ get_or folders i d → opening ≡ get_or openings i d' → log ≡ get_or logs i d'' → IsOfLacking (f opening) e ⊎ IsOfLacking (f log) e ⊎ IsUnopened (f folder) e →
    IsLacking (map f openings) e ⊎ IsLacking (map f logs) e ⊎ AreUnopened (map f folders) e
one_of_them f e i folders openings logs folder opening log d d' d'' same same' less is is' is'' (inl h) = inl (not_file_of f e i openings opening d' (omega arith) is' h)
one_of_them f e i folders openings logs folder opening log d d' d'' same same' less is is' is'' (inr (inl h)) = inr (inl (not_file_of f e i logs log d'' (omega arith) is'' h))
one_of_them f e i folders openings logs folder opening log d d' d'' same same' less is is' is'' (inr (inr h)) = inr (inr (folder_at f e i folders folder d less is h))

-- one more that is named
pub one_more_named : (xs ys : List OpenedLog) (x : OpenedLog) → All IsNamedLog xs → IsNamedLog x → ys ≡ xs ++ x ∷ [] → All IsNamedLog ys
one_more_named xs ys x all this is = All-same IsNamedLog ys (xs ++ x ∷ []) is (All-push IsNamedLog xs x all this)
