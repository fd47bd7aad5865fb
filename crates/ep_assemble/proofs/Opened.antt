-- Opening files, read one after the other, and whose they are.
use Rattle.std.proofs.Common.{◌≡◌, ◌<◌, ◌+◌, ℕ, zero, suc, List, [], ◌∷◌, ◌++◌, Some, All, take, length, get_or, slice_get, sym, ap, subst, ◌∙◌}
use Rattle.std.proofs.lemmas.List.{take_more}
use Rattle.std.proofs.lemmas.Option.{slice_get-get_or}
use Rattle.ep_opening.specs.Bytes.{opening_bytes}
use Rattle.ep_opening.specs.Files.{File}
use Rattle.ep_assemble.specs.Generations.{AreFiles, AreNoFiles, AreOfNone, AreUnopened, Differs, HaveOpened, IsClusterOf, IsFirstOther, IsLike, IsNotOpened}
use Rattle.ep_assemble.specs.declared.assemble_fault.AssembleFault.TheVariants.{Memory, Log, Collect, Receipts, TooManyReceipts}
use Rattle.ep_assemble.specs.declared.opened_cluster.OpenedCluster.{OpenedCluster}
use Rattle.ep_assemble.specs.declared.differing.Differing.{Differing}
use Rattle.ep_assemble.specs.declared.generation_fault.GenerationFault.{GenerationFault}
use Rattle.ep_assemble.specs.declared.generation_fault.GenerationFault.TheVariants.{NoLog, Opening, Other, LogSize, Assemble}
use Rattle.ep_assemble.specs.declared.opened_log.OpenedLog.{OpenedLog}

-- what stands at a place
pub at_place : {A : Type 0} (xs : List A) (k : ℕ) (x d : A) → k < length xs → x ≡ get_or xs k d → slice_get xs k ≡ Some x
at_place xs k x d less is = slice_get-get_or xs k d less ∙ ap Some (sym is)

-- one more is looked at
pub taken : {A : Type 0} (xs : List A) (k : ℕ) (x d : A) → k < length xs → x ≡ get_or xs k d → take (k + 1) xs ≡ take k xs ++ x ∷ []
taken xs k x d less is = take_more xs k d less ∙ ap (λ y. take k xs ++ y ∷ []) (sym is)

one_more : (kept : List OpenedLog) (files : List File) (one : OpenedLog) (file : File) → AreFiles kept files → one.opening.items ≡ opening_bytes file → AreFiles (kept ++ one ∷ []) (files ++ file ∷ [])
one_more [] [] one file all is = (is, tt)
one_more [] (f ∷ files) one file all is = absurd all
one_more (k ∷ kept) [] one file all is = absurd all
one_more (k ∷ kept) (f ∷ files) one file all is = (all.0, one_more kept files one file all.1 is)

pub one_read : (i : ℕ) (kept : List OpenedLog) (one d : OpenedLog) (files files' : List File) (file : File) → i < length kept → one ≡ get_or kept i d → AreFiles (take i kept) files →
    one.opening.items ≡ opening_bytes file → files' ≡ files ++ file ∷ [] → AreFiles (take (i + 1) kept) files'
one_read i kept one d files files' file less is all of more =
    subst (λ (ks : List OpenedLog). AreFiles ks files') (sym (taken kept i one d less is)) (subst (λ (fs : List File). AreFiles (take i kept ++ one ∷ []) fs) (sym more) (one_more (take i kept) files one file all of))

pub one_refused : (e : GenerationFault) (place : ℕ) (kept : List OpenedLog) (one d : OpenedLog) (files : List File) → place < length kept → one ≡ get_or kept place d → AreFiles (take place kept) files →
    IsNotOpened place one.opening.items e → AreNoFiles kept e
one_refused NoLog place kept one d files less is all h = absurd h
one_refused (Opening at fault) place kept one d files less is all h =
    record {
      files = files;
      before = subst (λ n. AreFiles (take n kept) files) (sym h.0) all;
      one = one;
      stands = ap (λ n. slice_get kept n) h.0 ∙ at_place kept place one d less is;
      of = h.1;
      refused = h.2;
    }
one_refused (Other at how) place kept one d files less is all h = absurd h
one_refused (LogSize at) place kept one d files less is all h = absurd h
one_refused (Assemble Memory) place kept one d files less is all h = tt
one_refused (Assemble (Log at fault)) place kept one d files less is all h = absurd h
one_refused (Assemble (Collect fault)) place kept one d files less is all h = absurd h
one_refused (Assemble (Receipts p at)) place kept one d files less is all h = absurd h
one_refused (Assemble TooManyReceipts) place kept one d files less is all h = absurd h

pub first_other : (g : ℕ) (first : File) (place : ℕ) (how : Differing) (files : List File) (file d : File) → place < length files → file ≡ get_or files place d → All (IsLike g first) (take place files) →
    Differs how g first file → IsFirstOther g first place how files
first_other g first place how files file d less is all h = record { before = all; file = file; stands = at_place files place file d less is; differs = h }

pub no_files : (g : ℕ) (kept : List OpenedLog) (e : GenerationFault) → AreNoFiles kept e → AreUnopened g kept e
no_files g kept NoLog h = absurd h
no_files g kept (Opening place fault) h = h
no_files g kept (Other place how) h = absurd h
no_files g kept (LogSize place) h = absurd h
no_files g kept (Assemble Memory) h = tt
no_files g kept (Assemble (Log place fault)) h = absurd h
no_files g kept (Assemble (Collect fault)) h = absurd h
no_files g kept (Assemble (Receipts place at)) h = absurd h
no_files g kept (Assemble TooManyReceipts) h = absurd h

pub of_none : (g : ℕ) (kept : List OpenedLog) (files : List File) (e : GenerationFault) → AreFiles kept files → AreOfNone g files e → AreUnopened g kept e
of_none g kept files NoLog are h = record { files = files; are = are; holds = h }
of_none g kept files (Opening place fault) are h = absurd h
of_none g kept files (Other place how) are h = record { files = files; are = are; holds = h }
of_none g kept files (LogSize place) are h = absurd h
of_none g kept files (Assemble Memory) are h = tt
of_none g kept files (Assemble (Log place fault)) are h = absurd h
of_none g kept files (Assemble (Collect fault)) are h = absurd h
of_none g kept files (Assemble (Receipts place at)) are h = absurd h
of_none g kept files (Assemble TooManyReceipts) are h = absurd h

pub have_opened : (g : ℕ) (kept : List OpenedLog) (files : List File) (c : OpenedCluster) → AreFiles kept files → IsClusterOf g files c → HaveOpened g kept c
have_opened g kept files c are of = record { files = files; are = are; of = of }
