-- What is shown of a log.
use Rattle.std.proofs.Common.{◌≡◌, ℕ, ltb, List, [], ◌∷◌, Some, None, Result, Ok, Err, IfOk, IfErr, length, slice_get, refl, sym, ap, subst, ◌∙◌}
use Rattle.ep_assemble.specs.Logs.{IsReadTo}
use Rattle.ep_assemble.specs.declared.assembled.End.{End}
use Rattle.ep_journal.specs.Entries.{Log as Journal}
use Rattle.ep_journal.specs.Leaving.{standing}
use Rattle.ep_log.specs.Origins.{Origin}
use Rattle.ep_log.specs.Reading.{IsRead}
use Rattle.ep_log.specs.declared.log_version.LogVersion.{LogVersion}
use Rattle.ep_opening.specs.Bytes.{opening_bytes}
use Rattle.ep_opening.specs.Files.{File}
use Rattle.ep_assemble.specs.Shown.{IsNotLogged, IsNotOpened, IsNotShown, IsShown, IsTextOf, Leaves, map_text, no_end, origin_of}
use Rattle.ep_assemble.specs.declared.show_fault.ShowFault.{ShowFault}
use Rattle.ep_assemble.specs.declared.shown.Shown.{Shown}
use Rattle.ep_assemble.specs.declared.show_fault.ShowFault.TheVariants.{Memory, Opening, OtherGeneration, Log}

pub not_opened : (g : ℕ) (opening digest log : List ℕ) (e : ShowFault) → IsNotOpened g opening e → IsNotShown g opening digest log e
not_opened g opening digest log Memory h = tt
not_opened g opening digest log (Opening fault) h = h
not_opened g opening digest log OtherGeneration h = h
not_opened g opening digest log (Log fault) h = absurd h

pub not_logged : (g : ℕ) (opening digest log : List ℕ) (file : File) (e : ShowFault) → opening ≡ opening_bytes file → file.generation ≡ g → IsNotLogged file digest log e → IsNotShown g opening digest log e
not_logged g opening digest log file Memory is of h = tt
not_logged g opening digest log file (Opening fault) is of h = absurd h
not_logged g opening digest log file OtherGeneration is of h = absurd h
not_logged g opening digest log file (Log fault) is of h = record { file = file; is = is; holds = (of, h.0, h.1) }

pub none_there : (log : List ℕ) → slice_get log 0 ≡ None → log ≡ []
none_there [] gone = refl
none_there (b ∷ bs) gone = absurd (cc)

-- a log without a byte leaves the map of the file
pub empty_shown :
    (file : File) (digest log : List ℕ) (r : Result Shown ShowFault) → log ≡ [] → IfOk r (λ s. (s.text.items ≡ map_text file.generation 0 file.opening.contents) × (s.end ≡ no_end)) →
    IfOk r (λ s. IsTextOf file digest log s.text.items s.end)
empty_shown file digest log (Ok s) none h =
    record { count = 0; map = file.opening.contents; leaves = subst (λ (l : List ℕ). Leaves file digest l 0 file.opening.contents s.end) (sym none) (refl, refl, h.1); reported = h.0 }
empty_shown file digest log (Err e) none h = tt

pub memory_alone : (file : File) (digest log : List ℕ) (r : Result Shown ShowFault) → IfErr r (λ e. e ≡ Memory) → IfErr r (IsNotLogged file digest log)
memory_alone file digest log (Ok s) h = tt
memory_alone file digest log (Err e) h = subst (IsNotLogged file digest log) (sym h) tt

-- one that was read leaves what its entries do
left_by :
    (file : File) (digest log : List ℕ) (first : ℕ) (j : Journal) (end : End) → slice_get log 0 ≡ Some first → IsReadTo (origin_of file digest) log j end →
    Leaves file digest log (length j.entries) (standing j).state.store.contents end
left_by file digest [] first j end some read = absurd (cc)
left_by file digest (b ∷ bs) first j end some read = (j, read, refl, refl)

pub read_shown :
    (file : File) (digest log : List ℕ) (first g : ℕ) (o : Origin) (v : LogVersion) (j : Journal) (whole behind : ℕ) (r : Result Shown ShowFault) → slice_get log 0 ≡ Some first → o ≡ origin_of file digest →
    g ≡ file.generation → IsRead o log v j whole behind → IfOk r (λ s. s.text.items ≡ map_text g (length j.entries) (standing j).state.store.contents) →
    IfOk r (λ s. s.end ≡ record { whole = whole; is_torn = ltb 0 behind }) → IfOk r (λ s. IsTextOf file digest log s.text.items s.end)
read_shown file digest log first g o v j whole behind (Ok s) some origin same read text end =
    let to : IsReadTo (origin_of file digest) log j (record { whole = whole; is_torn = ltb 0 behind }) =
    record { version = v; behind = behind; read = subst (λ (p : Origin). IsRead p log v j whole behind) origin read; torn = refl } in
    record {
      count = length j.entries;
      map = (standing j).state.store.contents;
      leaves = subst (Leaves file digest log (length j.entries) (standing j).state.store.contents) (sym end) (left_by file digest log first j (record { whole = whole; is_torn = ltb 0 behind }) some to);
      reported = text ∙ ap (λ n. map_text n (length j.entries) (standing j).state.store.contents) same;
    }
read_shown file digest log first g o v j whole behind (Err e) some origin same read text end = tt

-- the map of the log beside a file that was read, of this generation
pub shown_by :
    (g : ℕ) (opening opening' digest log log' text : List ℕ) (end : End) (file : File) → opening' ≡ opening → log' ≡ log → (opening' ≡ opening_bytes file) × (file.generation ≡ g) → IsTextOf file digest log' text end →
    IsShown g opening digest log text end
shown_by g opening opening' digest log log' text end file same_opening same_log is shown =
    record { file = file; is = sym same_opening ∙ is.0; generation = is.1; text_of = subst (λ (l : List ℕ). IsTextOf file digest l text end) same_log shown }
