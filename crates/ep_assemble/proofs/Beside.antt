-- The logs of a generation, each beside its opening file, read one after the other.
use Rattle.std.proofs.Common.{◌≡◌, ◌≢◌, ◌<◌, ◌+◌, ℕ, ltb, List, [], ◌∷◌, ◌++◌, Some, take, length, get_or, slice_get, refl, sym, ap, subst, ◌∙◌, arith}
use Rattle.std.proofs.lemmas.List.Elements.{All-head}
use Rattle.ep_base.specs.Quorums.{size}
use Rattle.ep_base.specs.declared.version.Version.{Version}
use Rattle.ep_base.specs.declared.version_kind.VersionKind.TheVariants.{V3}
use Rattle.ep_assemble.specs.Clusters.{Collects, IsMember, count_of}
use Rattle.ep_assemble.specs.declared.collect_fault.CollectFault.{CollectFault}
use Rattle.ep_journal.specs.Entries.{Collected, Log as Journal}
use Rattle.ep_assemble.specs.Clusters.{IsRefused as IsUncollected}
use Rattle.ep_log.specs.Origins.{Origin}
use Rattle.ep_log.specs.Reading.{IsRead}
use Rattle.ep_log.specs.declared.log_version.LogVersion.{LogVersion}
use Rattle.ep_assemble.specs.Generations.{AreKept, AreNotKept, HaveOpened, IsFirstAt, IsKept, IsNotKept, IsOfOtherSize, IsRefusedIn, IsUnassembled, AreUnopened, origin_in}
use Rattle.ep_assemble.specs.Logs.{IsReadTo}
use Rattle.ep_assemble.specs.Receipts.{AreUnheld}
use Rattle.ep_assemble.specs.declared.assemble_fault.AssembleFault.{AssembleFault}
use Rattle.ep_assemble.specs.declared.assemble_fault.AssembleFault.TheVariants.{Memory, Log, Collect, Receipts, TooManyReceipts}
use Rattle.ep_assemble.specs.declared.assembled.End.{End}
use Rattle.ep_assemble.specs.declared.opened_cluster.OpenedCluster.{OpenedCluster}
use Rattle.ep_assemble.specs.declared.generation_fault.GenerationFault.{GenerationFault}
use Rattle.ep_assemble.specs.declared.generation_fault.GenerationFault.TheVariants.{NoLog, Opening, Other, LogSize, Assemble}
use Rattle.ep_assemble.specs.declared.opened_log.OpenedLog.{OpenedLog}
use Rattle.ep_assemble.proofs.Opened.{at_place, taken}

one_more : (c : OpenedCluster) (kept : List OpenedLog) (js : List Journal) (ends : List End) (one : OpenedLog) (j : Journal) (end : End) → AreKept c kept js ends → IsKept c one j end →
    AreKept c (kept ++ one ∷ []) (js ++ j ∷ []) (ends ++ end ∷ [])
one_more c [] [] [] one j end all is = (is, tt)
one_more c [] [] (e ∷ ends) one j end all is = absurd all
one_more c [] (x ∷ js) [] one j end all is = absurd all
one_more c [] (x ∷ js) (e ∷ ends) one j end all is = absurd all
one_more c (k ∷ kept) [] [] one j end all is = absurd all
one_more c (k ∷ kept) [] (e ∷ ends) one j end all is = absurd all
one_more c (k ∷ kept) (x ∷ js) [] one j end all is = absurd all
one_more c (k ∷ kept) (x ∷ js) (e ∷ ends) one j end all is = (all.0, one_more c kept js ends one j end all.1 is)

pub one_read :
    (c : OpenedCluster) (i : ℕ) (kept : List OpenedLog) (one d : OpenedLog) (js js' : List Journal) (ends ends' : List End) (j : Journal) (end : End) → i < length kept → one ≡ get_or kept i d →
    AreKept c (take i kept) js ends → IsKept c one j end → js' ≡ js ++ j ∷ [] → ends' ≡ ends ++ end ∷ [] → AreKept c (take (i + 1) kept) js' ends'
one_read c i kept one d js js' ends ends' j end less is all this js_is ends_is =
    subst (λ (ks : List OpenedLog). AreKept c ks js' ends') (sym (taken kept i one d less is))
    (subst (λ (xs : List Journal). AreKept c (take i kept ++ one ∷ []) xs ends') (sym js_is)
    (subst (λ (es : List End). AreKept c (take i kept ++ one ∷ []) (js ++ j ∷ []) es) (sym ends_is) (one_more c (take i kept) js ends one j end all this)))

first_at :
    (c : OpenedCluster) (at place : ℕ) (kept : List OpenedLog) (one d : OpenedLog) (js : List Journal) (ends : List End) (P : OpenedLog → Type 0) → place < length kept → one ≡ get_or kept place d →
    AreKept c (take place kept) js ends → at ≡ place → P one → IsFirstAt c at kept P
first_at c at place kept one d js ends P less is all here holds =
    record {
      journals = js;
      ends = ends;
      before = subst (λ n. AreKept c (take n kept) js ends) (sym here) all;
      one = one;
      stands = ap (λ n. slice_get kept n) here ∙ at_place kept place one d less is;
      holds = holds;
    }

pub one_refused :
    (c : OpenedCluster) (e : GenerationFault) (place : ℕ) (kept : List OpenedLog) (one d : OpenedLog) (js : List Journal) (ends : List End) → place < length kept → one ≡ get_or kept place d →
    AreKept c (take place kept) js ends → IsNotKept c place one e → AreNotKept c kept e
one_refused c NoLog place kept one d js ends less is all h = absurd h
one_refused c (Opening at fault) place kept one d js ends less is all h = absurd h
one_refused c (Other at how) place kept one d js ends less is all h = absurd h
one_refused c (LogSize at) place kept one d js ends less is all h = first_at c at place kept one d js ends (IsOfOtherSize c) less is all h.0 h.1
one_refused c (Assemble Memory) place kept one d js ends less is all h = tt
one_refused c (Assemble (Log at fault)) place kept one d js ends less is all h = first_at c at place kept one d js ends _ less is all h.0 (h.1, h.2)
one_refused c (Assemble (Collect fault)) place kept one d js ends less is all h = absurd h
one_refused c (Assemble (Receipts p at)) place kept one d js ends less is all h = absurd h
one_refused c (Assemble TooManyReceipts) place kept one d js ends less is all h = absurd h

-- as the log was read from what it names
pub read_beside :
    (c : OpenedCluster) (one : OpenedLog) (log : List ℕ) (o : Origin) (v : LogVersion) (j : Journal) (whole behind : ℕ) → log ≡ one.log.items → o ≡ origin_in c one → IsRead o log v j whole behind →
    IsRead (origin_in c one) one.log.items v j whole behind
read_beside c one log o v j whole behind same origin read =
    subst (λ (p : Origin). IsRead p one.log.items v j whole behind) origin (subst (λ (bs : List ℕ). IsRead o bs v j whole behind) same read)

pub other_beside :
    (c : OpenedCluster) (one : OpenedLog) (log : List ℕ) (o : Origin) (v : LogVersion) (j : Journal) (whole behind : ℕ) → log ≡ one.log.items → o ≡ origin_in c one → IsRead o log v j whole behind → j.faults ≢ c.size →
    IsOfOtherSize c one
other_beside c one log o v j whole behind same origin read other =
    record {
      journal = j;
      end = record { whole = whole; is_torn = ltb 0 behind };
      read = record { version = v; behind = behind; read = read_beside c one log o v j whole behind same origin read; torn = refl };
      other = other;
    }

-- What is collected of them is of the cluster.

pub record IsOfIt (c : OpenedCluster) (it : Collected) : Type 0 where
  pub version : it.version ≡ V3 c.generation
  pub size : it.faults ≡ c.size

pub of_it : (c : OpenedCluster) (kept : List OpenedLog) (js : List Journal) (ends : List End) (it : Collected) → AreKept c kept js ends → Collects js it → IsOfIt c it
of_it c [] [] [] it all one =
    let once : count_of 0 [] ≡ 1 = one.all.once 0 (omega arith) in
    let none : count_of 0 [] ≡ 0 = refl in
    absurd (omega arith)
of_it c [] [] (e ∷ ends) it all one = absurd all
of_it c [] (j ∷ js) [] it all one = absurd all
of_it c [] (j ∷ js) (e ∷ ends) it all one = absurd all
of_it c (k ∷ kept) [] [] it all one = absurd all
of_it c (k ∷ kept) [] (e ∷ ends) it all one = absurd all
of_it c (k ∷ kept) (j ∷ js) [] it all one = absurd all
of_it c (k ∷ kept) (j ∷ js) (e ∷ ends) it all one =
    let member : IsMember it.version it.opening it.faults j = All-head (IsMember it.version it.opening it.faults) j js one.all.members in
    record {
      version = sym member.of.version ∙ all.0.read.read.version;
      size = sym member.of.faults ∙ all.0.size;
    }

-- Why no bundle is made.

pub not_kept : (c : OpenedCluster) (kept : List OpenedLog) (files : List (List ℕ)) (e : GenerationFault) → AreNotKept c kept e → IsUnassembled c kept files e
not_kept c kept files NoLog h = absurd h
not_kept c kept files (Opening place fault) h = absurd h
not_kept c kept files (Other place how) h = absurd h
not_kept c kept files (LogSize place) h = h
not_kept c kept files (Assemble Memory) h = tt
not_kept c kept files (Assemble (Log place fault)) h = h
not_kept c kept files (Assemble (Collect fault)) h = absurd h
not_kept c kept files (Assemble (Receipts place at)) h = absurd h
not_kept c kept files (Assemble TooManyReceipts) h = absurd h

pub uncollected : (c : OpenedCluster) (kept : List OpenedLog) (files : List (List ℕ)) (js : List Journal) (ends : List End) (fault : CollectFault) (e : GenerationFault) → AreKept c kept js ends → IsUncollected fault js →
    e ≡ Assemble (Collect fault) → IsUnassembled c kept files e
uncollected c kept files js ends fault e read refused is = subst (IsUnassembled c kept files) (sym is) (record { journals = js; ends = ends; read = read; refused = refused })

unheld_in : (c : OpenedCluster) (kept : List OpenedLog) (files : List (List ℕ)) (js : List Journal) (ends : List End) (it : Collected) (fault : AssembleFault) → AreKept c kept js ends → Collects js it →
    AreUnheld (V3 c.generation) (size c.size) files fault → IsUnassembled c kept files (Assemble fault)
unheld_in c kept files js ends it Memory read one why = tt
unheld_in c kept files js ends it (Log place fault) read one why = absurd why
unheld_in c kept files js ends it (Collect fault) read one why = absurd why
unheld_in c kept files js ends it (Receipts place at) read one why = record { journals = js; ends = ends; read = read; collected = it; collects = one; holds = why }
unheld_in c kept files js ends it TooManyReceipts read one why = record { journals = js; ends = ends; read = read; collected = it; collects = one; holds = why }

pub unheld : (c : OpenedCluster) (kept : List OpenedLog) (files : List (List ℕ)) (js : List Journal) (ends : List End) (it : Collected) (fault : AssembleFault) (e : GenerationFault) → AreKept c kept js ends → Collects js it →
    AreUnheld it.version (size it.faults) files fault → e ≡ Assemble fault → IsUnassembled c kept files e
unheld c kept files js ends it fault e read one why is =
    let of : IsOfIt c it = of_it c kept js ends it read one in
    subst (IsUnassembled c kept files) (sym is) (unheld_in c kept files js ends it fault read one
    (subst (λ (w : Version). AreUnheld w (size c.size) files fault) of.version (subst (λ n. AreUnheld it.version (size n) files fault) of.size why)))

pub unopened : (g : ℕ) (kept : List OpenedLog) (files : List (List ℕ)) (e : GenerationFault) → AreUnopened g kept e → IsRefusedIn g kept files e
unopened g kept files NoLog h = h
unopened g kept files (Opening place fault) h = h
unopened g kept files (Other place how) h = h
unopened g kept files (LogSize place) h = absurd h
unopened g kept files (Assemble Memory) h = tt
unopened g kept files (Assemble (Log place fault)) h = absurd h
unopened g kept files (Assemble (Collect fault)) h = absurd h
unopened g kept files (Assemble (Receipts place at)) h = absurd h
unopened g kept files (Assemble TooManyReceipts) h = absurd h

pub unassembled : (g : ℕ) (kept : List OpenedLog) (files : List (List ℕ)) (c : OpenedCluster) (e : GenerationFault) → HaveOpened g kept c → IsUnassembled c kept files e → IsRefusedIn g kept files e
unassembled g kept files c NoLog opened h = absurd h
unassembled g kept files c (Opening place fault) opened h = absurd h
unassembled g kept files c (Other place how) opened h = absurd h
unassembled g kept files c (LogSize place) opened h = (c, opened, h)
unassembled g kept files c (Assemble Memory) opened h = tt
unassembled g kept files c (Assemble (Log place fault)) opened h = (c, opened, h)
unassembled g kept files c (Assemble (Collect fault)) opened h = (c, opened, h)
unassembled g kept files c (Assemble (Receipts place at)) opened h = (c, opened, h)
unassembled g kept files c (Assemble TooManyReceipts) opened h = (c, opened, h)
