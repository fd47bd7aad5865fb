-- What becomes of the files that a command names.
use Rattle.std.proofs.Common.{◌≡◌, ◌<◌, ◌≤◌, ◌+◌, inl, ℕ, List, [], ◌∷◌, ◌++◌, All, Result, length, length-append, map, take, get_or, IfOk, IfErr, sym, ap, ◌∙◌, arith}
use Rattle.std.proofs.lemmas.List.{length-map, map-append, take_all, take_more}
use Rattle.std.specs.Global.{Vec}
use Rattle.ep_assemble.specs.Files.{IsCollected, IsNotCollected}
use Rattle.ep_assemble.specs.GenerationFiles.{IsCollectedOf, IsNotCollectedOf}
use Rattle.ep_assemble.specs.Logs.{contents}
use Rattle.ep_assemble.specs.declared.opened_log.OpenedLog.{OpenedLog}
use Rattle.ep_cli.proofs.Given.{gives}
use Rattle.ep_cli.specs.Endings.{Prints}
use Rattle.ep_cli.specs.Files.{IsReason}
use Rattle.ep_cli.specs.Outputs.{Output}
use Rattle.ep_cli.specs.declared.files_fault.FilesFault.{FilesFault}
use Rattle.ep_cli.specs.declared.printout.Printout.{Printout}
use Rattle.ep_cli.specs.declared.status.Status.{Status}
use Rattle.ep_assemble.specs.ShownFiles.{AreNotShown, AreShown}
use Rattle.ep_server.specs.NamedFiles.{CollectsFiles, CollectsGeneration, IsNamedLog, ShowsFiles}

-- one name more, each by its folder
pub one_more : {S : Type 0} (f : S → List ℕ) (k : List ℕ → List ℕ) (i : ℕ) (xs : List S) (x d : S) (ys ys' : List S) (y : S) → i < length xs → x ≡ get_or xs i d → map f ys ≡ map k (map f (take i xs)) →
    f y ≡ k (f x) → ys' ≡ ys ++ y ∷ [] → map f ys' ≡ map k (map f (take (i + 1) xs))
one_more {S = S} f k i xs x d ys ys' y less is so_far here more =
    let front : List S = take i xs in
    let longer : take (i + 1) xs ≡ front ++ x ∷ [] = take_more xs i d less ∙ ap (λ (z : S). front ++ z ∷ []) (sym is) in
    ap (map f) more ∙ map-append f ys (y ∷ []) ∙ ap (λ (l : List (List ℕ)). l ++ f y ∷ []) so_far ∙ ap (λ (b : List ℕ). map k (map f front) ++ b ∷ []) here
    ∙ sym (map-append k (map f front) (f x ∷ [])) ∙ ap (map k) (sym (map-append f front (x ∷ []))) ∙ ap (λ (l : List S). map k (map f l)) (sym longer)

-- and all of them
pub all_named : {S : Type 0} (f : S → List ℕ) (k : List ℕ → List ℕ) (i : ℕ) (xs ys : List S) → length xs ≤ i → map f ys ≡ map k (map f (take i xs)) → map f ys ≡ map k (map f xs)
all_named {S = S} f k i xs ys all so_far = so_far ∙ ap (λ (l : List S). map k (map f l)) (take_all i xs all)

pub counted : {S : Type 0} (i : ℕ) (ys ys' : List S) (y : S) → length ys ≡ i → ys' ≡ ys ++ y ∷ [] → length ys' ≡ i + 1
counted {S = S} i ys ys' y so_far more =
    let longer : length ys' ≡ length (ys ++ y ∷ []) = ap (λ (l : List S). length l) more in
    let sum : length (ys ++ y ∷ []) ≡ length ys + 1 = length-append ys (y ∷ []) in
    omega arith

as_many : {S : Type 0} (f : S → List ℕ) (names : List S) (vs : List (Vec ℕ)) → length vs ≡ length names → length (contents vs) ≡ length (map f names)
as_many f names vs same = length-map vs (λ (v : Vec ℕ). v.items) ∙ same ∙ sym (length-map names f)

pub are_collected :
    {S : Type 0} (f : S → List ℕ) (logs receipts : List S) (log_bytes receipt_bytes : List (Vec ℕ)) (made : Result Printout FilesFault) (status : Status) (out fault : Output) →
    length log_bytes ≡ length logs → length receipt_bytes ≡ length receipts →
    IfOk made (λ p. IsCollected (map f logs) (map f receipts) (contents log_bytes) (contents receipt_bytes) p.text.items p.lines.items) →
    IfErr made (IsReason (IsNotCollected (map f logs) (map f receipts) (contents log_bytes) (contents receipt_bytes))) → Prints made status out fault →
    CollectsFiles (map f logs) (map f receipts) status out fault
are_collected f logs receipts log_bytes receipt_bytes made status out fault all every ok err puts =
    inl
    (record {
      log_bytes = contents log_bytes;
      log_count = as_many f logs log_bytes all;
      receipt_bytes = contents receipt_bytes;
      receipt_count = as_many f receipts receipt_bytes every;
      gives = gives (IsCollected (map f logs) (map f receipts) (contents log_bytes) (contents receipt_bytes)) (IsNotCollected (map f logs) (map f receipts) (contents log_bytes) (contents receipt_bytes)) made status out fault ok err puts;
    })

pub are_collected_of :
    {S : Type 0} (f : S → List ℕ) (g : ℕ) (folders openings logs receipts : List S) (kept : List OpenedLog) (receipt_bytes : List (Vec ℕ)) (made : Result Printout FilesFault) (status : Status) (out fault : Output) →
    length kept ≡ length logs → All IsNamedLog kept → length receipt_bytes ≡ length receipts →
    IfOk made (λ p. IsCollectedOf g (map f logs) (map f receipts) kept (contents receipt_bytes) p.text.items p.lines.items) →
    IfErr made (IsReason (IsNotCollectedOf g (map f openings) (map f logs) (map f receipts) kept (contents receipt_bytes))) → Prints made status out fault →
    CollectsGeneration g (map f folders) (map f openings) (map f logs) (map f receipts) status out fault
are_collected_of f g folders openings logs receipts kept receipt_bytes made status out fault all named every ok err puts =
    inl
    (record {
      kept = kept;
      kept_count = all ∙ sym (length-map logs f);
      named = named;
      receipt_bytes = contents receipt_bytes;
      receipt_count = as_many f receipts receipt_bytes every;
      gives = gives (IsCollectedOf g (map f logs) (map f receipts) kept (contents receipt_bytes)) (IsNotCollectedOf g (map f openings) (map f logs) (map f receipts) kept (contents receipt_bytes)) made status out fault ok err puts;
    })

pub are_shown :
    (g : ℕ) (folder opening_name log_name : List ℕ) (kept : OpenedLog) (made : Result Printout FilesFault) (status : Status) (out fault : Output) →
    IsNamedLog kept → IfOk made (λ p. AreShown g log_name kept.opening.items kept.digest kept.log.items p.text.items p.lines.items) →
    IfErr made (IsReason (AreNotShown g opening_name log_name kept.opening.items kept.digest kept.log.items)) → Prints made status out fault → ShowsFiles g folder opening_name log_name status out fault
are_shown g folder opening_name log_name kept made status out fault named ok err puts =
    inl
    (kept, named, gives (AreShown g log_name kept.opening.items kept.digest kept.log.items) (AreNotShown g opening_name log_name kept.opening.items kept.digest kept.log.items) made status out fault ok err puts)
