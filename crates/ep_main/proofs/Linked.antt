-- Files of a chain, and what is said of them.
use Rattle.std.proofs.Common.{◌≡◌, ◌+◌, ◌≤◌, ◌<◌, inl, inr, ℕ, zero, suc, List, [], ◌∷◌, ◌++◌, Option, Some, None, Result, Ok, Err, IfOk, length, get_or, map, take, take_all, append-nil, append_assoc, codes, sym, ap, ap₂, subst, ◌∙◌, arith}
use Rattle.std.specs.Prelude.{IfErr, OnOk}
use Rattle.std.proofs.lemmas.List.Elements.{All-append}
use Rattle.std.proofs.lemmas.Option.{slice_get-get_or, slice_get_within}
use Rattle.ep_cli.specs.Files.{IsOfFile}
use Rattle.ep_cli.specs.declared.files_fault.FilesFault.{FilesFault}
use Rattle.ep_cli.specs.declared.files_fault.FilesFault.TheVariants as files
use Rattle.ep_audit.specs.Chained.{IsChainFault, parted, refused, unclosed}
use Rattle.ep_cli.proofs.NotRead.{IsAt, at}
use Rattle.ep_audit.specs.declared.chain_link.ChainLink.{ChainLink}
use Rattle.ep_bundle.specs.Journals.{Contents, Finds}
use Rattle.ep_bundle.specs.declared.bundle_fault.BundleFault.{BundleFault}
use Rattle.ep_bundle.specs.declared.bundle_fault.BundleFault.TheVariants as bundle
use Rattle.ep_report.specs.Lives.{Life, link_line}
use Rattle.ep_audit.specs.declared.chain_fault.ChainFault.{ChainFault}
use Rattle.ep_audit.specs.Verdicts.{summary_of}
use Rattle.ep_audit.specs.declared.verdict.Verdict.{Verdict}
use Rattle.ep_main.specs.ChainLines.{IsRefusal, IsUnreadLate}
use Rattle.ep_main.specs.Chains.{AreRead, Chains, EndsOfFiles, IsBadFile, IsOfBytes, IsLinkOf, IsNoFile, IsNoLink, IsStopped, IsWritten, ReadsLate, SaysOfChain, chain_text, file_line, life_text, link_text, links_text}
use Rattle.ep_report.specs.Lives.{life_in}
use Rattle.ep_cli.specs.Endings.{TurnsAway}
use Rattle.ep_cli.specs.Outputs.{Output, Reported, WroteNothing}
use Rattle.ep_main.specs.Runs.{Concludes}
use Rattle.ep_main.specs.declared.form.Form.{Form}
use Rattle.ep_main.specs.declared.engine_fault.EngineFault.{EngineFault}
use Rattle.ep_main.specs.declared.engine_fault.EngineFault.TheVariants.{Memory}
use Rattle.ep_cli.specs.declared.status.Status.{Status}
use Rattle.ep_cli.specs.declared.status.Status.TheVariants.{Done, AuditRefused, Refused, OutOfMemory, Failed}

-- A file that is no bundle.

pub bad_file : (name zs line : List ℕ) (fault : BundleFault) → IsOfBytes fault → ReadsLate zs (Err fault) → line ≡ file_line name fault → IsBadFile name zs line
bad_file name zs line fault of found reported = record { fault = fault; of = of; read = found; reported = reported }

pub refusal : (name zs : List ℕ) (fault : BundleFault) (f : FilesFault) → IsOfBytes fault → ReadsLate zs (Err fault) → IsRefusal name fault f → IsNoLink name zs f
refusal name zs fault files.Memory of found reported = tt
refusal name zs fault (files.ReadFailed line) of found reported = absurd reported
refusal name zs fault (files.Refused line) of found reported = bad_file name zs line.items fault of found reported

-- what the reader found
pub unread : (zs : List ℕ) (fault : BundleFault) (place : ℕ) (left : Option (List ℕ)) → Finds {A = Contents} (ReadsLate zs) (Err fault) place left → IsUnreadLate zs fault
unread zs bundle.Memory place left found = tt
unread zs bundle.ReadFailed place left found = tt
unread zs (bundle.BadBundle field) place left found = found
unread zs (bundle.NotARun replica entry) place left found = found

no_file : (name zs : List ℕ) (f : FilesFault) → IsNoLink name zs f → IsNoFile name f
no_file name zs files.Memory h = tt
no_file name zs (files.ReadFailed line) h = absurd h
no_file name zs (files.Refused line) h = (zs, h)

pub of_file : (name : List ℕ) (f : FilesFault) → IsOfFile name f → IsNoFile name f
of_file name files.Memory h = tt
of_file name (files.ReadFailed line) h = h
of_file name (files.Refused line) h = absurd h

pub some_link : (zs : List ℕ) (r : Result ChainLink FilesFault) → IfOk r (IsLinkOf zs) → IfOk r (λ l. (ys : List ℕ) × IsLinkOf ys l)
some_link zs (Ok l) h = (zs, h)
some_link zs (Err f) h = tt

pub none_of_file : (name zs : List ℕ) (r : Result ChainLink FilesFault) → IfErr r (IsNoLink name zs) → IfErr r (IsNoFile name)
none_of_file name zs (Ok l) h = tt
none_of_file name zs (Err f) h = no_file name zs f h

pub stopped_at :
    {S : Type 0} (f : S → List ℕ) (e : FilesFault) (i : ℕ) (names : List S) (name d : S) → i < length names → name ≡ get_or names i d → IsNoFile (f name) e → IsStopped (map f names) e
stopped_at f files.Memory i names name d less is h = tt
stopped_at f (files.ReadFailed line) i names name d less is h =
    let there : IsAt i (map f names) (f name) (f name) = at f i names name (f name) (slice_get-get_or names i d less ∙ ap Some (sym is)) in
    (f name, (i, there.less, there.is), h)
stopped_at f (files.Refused line) i names name d less is h =
    let there : IsAt i (map f names) (f name) (f name) = at f i names name (f name) (slice_get-get_or names i d less ∙ ap Some (sym is)) in
    (f name, h.0, (i, there.less, there.is), h.1)

-- The lines of a chain that is accepted, one after the other.

pub links_more :
    (k : ℕ) (ls : List ChainLink) (vs : List Verdict) (l dl : ChainLink) (v dv : Verdict) → k < length ls → length vs ≡ length ls → l ≡ get_or ls k dl → v ≡ get_or vs k dv →
    links_text (take (suc k) ls) (take (suc k) vs) ≡ links_text (take k ls) (take k vs) ++ link_text l v
links_more k [] vs l dl v dv less same at_l at_v = absurd (omega arith)
links_more k (x ∷ ls) [] l dl v dv less same at_l at_v = absurd (let bad : 0 ≡ suc (length ls) = same in cc)
links_more zero (x ∷ ls) (y ∷ vs) l dl v dv less same at_l at_v = append-nil (link_text x y) ∙ ap (λ (z : ChainLink). link_text z y) (sym at_l) ∙ ap (λ (w : Verdict). link_text l w) (sym at_v)
links_more (suc k) (x ∷ ls) (y ∷ vs) l dl v dv less same at_l at_v =
    ap (λ (rest : List ℕ). link_text x y ++ rest) (links_more k ls vs l dl v dv (omega arith) (omega arith) at_l at_v) ∙ sym (append_assoc (link_text x y) (links_text (take k ls) (take k vs)) (link_text l v))

-- What was written, by what the audit says.

pub chains_written :
    (form : Form) (links : List ChainLink) (status result : Status) (text : List ℕ) (out fault : Output) → SaysOfChain form links status text → IsWritten status text result out fault → Chains form links result out fault
chains_written form links Done result text out fault says (inl (is, wrote, kept, silent, same)) =
    subst (λ s. Chains form links s out fault) (sym is) (record { text = text; says = says; wrote = wrote; silent = silent })
chains_written form links AuditRefused result text out fault says (inl (is, wrote, kept, silent, same)) =
    subst (λ s. Chains form links s out fault) (sym is) (record { text = text; says = says; wrote = wrote; silent = silent })
chains_written form links Refused result text out fault says (inl h) = absurd says
chains_written form links OutOfMemory result text out fault says (inl h) = absurd says
chains_written form links Failed result text out fault says (inl h) = absurd says
chains_written form links status result text out fault says (inr (is, failed, reported)) = subst (λ s. Chains form links s out fault) (sym is) (failed, reported)

-- a fault's generation is one of them

pub fault_less : (ls : List ChainLink) (k : ℕ) {fault : ChainFault} → IsChainFault ls k fault → k < length ls
fault_less ls k (refused l fault reached is) = slice_get_within ls k l reached.there
fault_less ls k (parted l p v c fault reached before good is) = slice_get_within ls k l reached.there
fault_less ls k (unclosed verdicts v count linked there none more) = omega arith

pub ends_written :
    (form : Form) (links : List ChainLink) (status result : Status) (text : List ℕ) (out fault : Output) → SaysOfChain form links status text → IsWritten status text result out fault → EndsOfFiles result out fault
ends_written form links Done result text out fault says (inl (is, wrote, kept, silent, same)) = subst (λ s. EndsOfFiles s out fault) (sym is) (kept, same)
ends_written form links AuditRefused result text out fault says (inl (is, wrote, kept, silent, same)) = subst (λ s. EndsOfFiles s out fault) (sym is) (kept, same)
ends_written form links Refused result text out fault says (inl h) = absurd says
ends_written form links OutOfMemory result text out fault says (inl h) = absurd says
ends_written form links Failed result text out fault says (inl h) = absurd says
ends_written form links status result text out fault says (inr (is, failed, reported)) = subst (λ s. EndsOfFiles s out fault) (sym is) (inl (failed, reported))

-- Memory was refused.

pub chains_none : (form : Form) (links : List ChainLink) (e : EngineFault) (result : Status) (out fault : Output) → e ≡ Memory → Concludes (Err e) result fault → WroteNothing out → Chains form links result out fault
chains_none form links e result out fault is concludes silent =
    let why : Concludes (Err Memory) result fault = subst (λ (x : EngineFault). Concludes (Err x) result fault) is concludes in
    subst (λ s. Chains form links s out fault) (sym why.0) (record { silent = silent; reported = why.1 })

pub ends_none : (e : EngineFault) (result : Status) (out fault : Output) → e ≡ Memory → Concludes (Err e) result fault → out.failed ≡ out.had_failed → EndsOfFiles result out fault
ends_none e result out fault is concludes kept =
    let why : Concludes (Err Memory) result fault = subst (λ (x : EngineFault). Concludes (Err x) result fault) is concludes in
    subst (λ s. EndsOfFiles s out fault) (sym why.0) kept

-- The files aren't a chain.

pub ends_stopped :
    (names : List (List ℕ)) (why : FilesFault) (result : Status) (out fault : Output) → IsStopped names why → TurnsAway why result fault → out.failed ≡ out.had_failed →
    EndsOfFiles result out fault
ends_stopped names files.Memory result out fault is turns kept = subst (λ s. EndsOfFiles s out fault) (sym turns.0) kept
ends_stopped names (files.ReadFailed line) result out fault (name, named, own) turns kept =
    subst (λ s. EndsOfFiles s out fault) (sym turns.0) (inr (kept, (name, own.0, subst (Reported fault) own.1 turns.1)))
ends_stopped names (files.Refused line) result out fault is turns kept = subst (λ s. EndsOfFiles s out fault) (sym turns.0) kept

-- one more was read

all_one : (l : ChainLink) → (zs : List ℕ) × IsLinkOf zs l → AreRead (l ∷ [])
all_one l read zero d less = read
all_one l read (suc k) d less = absurd (omega arith)

pub read_more : (ls : List ChainLink) (l : ChainLink) → AreRead ls → (zs : List ℕ) × IsLinkOf zs l → AreRead (ls ++ l ∷ [])
read_more ls l read one = All-append (λ (x : ChainLink). (zs : List ℕ) × IsLinkOf zs x) ls (l ∷ []) read (all_one l one)

-- The lines of generations.

pub link_reported :
    (l : ChainLink) (v : Verdict) (life : Life) (old new : List ℕ) → Some life ≡ life_in l.journals (summary_of v) →
    new ≡ old ++ link_line life (length v.committed.items) (length v.history.items) ++ codes "\n" → new ≡ old ++ link_text l v
link_reported l v life old new some is =
    is ∙ append_assoc old (link_line life (length v.committed.items) (length v.history.items)) (codes "\n") ∙ ap (λ (o : Option Life). old ++ life_text o v) some

pub line_reported :
    {A E : Type 0} (r : Result A E) (l : ChainLink) (v : Verdict) (life : Life) (n m : ℕ) (old new : List ℕ) → Some life ≡ life_in l.journals (summary_of v) → n ≡ length v.committed.items → m ≡ length v.history.items →
    OnOk r (new ≡ old ++ link_line life n m ++ codes "\n") → OnOk r (new ≡ old ++ link_text l v)
line_reported {A} {E} (Ok a) l v life n m old new some is is' h =
    link_reported l v life old new some (h ∙ ap₂ (λ (x y : ℕ). old ++ link_line life x y ++ codes "\n") is is')
line_reported {A} {E} (Err e) l v life n m old new some is is' h = tt

pub link_silent : (l : ChainLink) (v : Verdict) (old : List ℕ) → None ≡ life_in l.journals (summary_of v) → old ≡ old ++ link_text l v
link_silent l v old none = sym (append-nil old) ∙ ap (λ (o : Option Life). old ++ life_text o v) none

pub line_more :
    (k : ℕ) (ls : List ChainLink) (vs : List Verdict) (l dl : ChainLink) (v dv : Verdict) (text text' : List ℕ) → k < length ls → length vs ≡ length ls → l ≡ get_or ls k dl → v ≡ get_or vs k dv →
    text ≡ codes "verdict accepted\n" ++ links_text (take k ls) (take k vs) → text' ≡ text ++ link_text l v →
    text' ≡ codes "verdict accepted\n" ++ links_text (take (k + 1) ls) (take (k + 1) vs)
line_more k ls vs l dl v dv text text' less same at_l at_v held more =
    let next : suc k ≡ k + 1 = omega arith in
    subst (λ (n : ℕ). text' ≡ codes "verdict accepted\n" ++ links_text (take n ls) (take n vs)) next
    (more ∙ ap (λ (t : List ℕ). t ++ link_text l v) held ∙ append_assoc (codes "verdict accepted\n") (links_text (take k ls) (take k vs)) (link_text l v)
    ∙ ap (λ (t : List ℕ). codes "verdict accepted\n" ++ t) (sym (links_more k ls vs l dl v dv less same at_l at_v)))

pub line_all :
    (k : ℕ) (ls : List ChainLink) (vs : List Verdict) (text : List ℕ) → length ls ≤ k → length vs ≡ length ls →
    text ≡ codes "verdict accepted\n" ++ links_text (take k ls) (take k vs) → text ≡ chain_text ls vs
line_all k ls vs text le same held =
    let enough : length vs ≤ k = omega arith in
    held ∙ ap₂ (λ (xs : List ChainLink) (ys : List Verdict). codes "verdict accepted\n" ++ links_text xs ys) (take_all k ls le) (take_all k vs enough)
