-- What is reported of bytes, by what is read of them and which faults are found.
use Rattle.std.proofs.Common.{◌≡◌, ℕ, ◌+◌, ◌<◌, List, [], ◌∷◌, ◌++◌, length, take, get_or, append-nil, append_assoc, Option, Result, Ok, Err, IfOk, refl, sym, ap, subst, ◌∙◌}
use Rattle.std.proofs.lemmas.List.{take_more}
use Rattle.std.specs.Prelude.{Bool, true, false, ◌||◌, IfErr, None, Some, codes}
use Rattle.std.specs.Io.KnownBytes.{Keeps}
use Rattle.ep_explain.specs.Kept.{is_read_failed}
use Rattle.ep_explain.specs.declared.explain_fault.ExplainFault.{ExplainFault}
use Rattle.ep_explain.specs.declared.explain_fault.ExplainFault.TheVariants as explain
use Rattle.ep_base.specs.Devices.{FailsAsReported, reports}
use Rattle.ep_bundle.specs.Contents.{contents_of}
use Rattle.ep_bundle.specs.Journals.{Contents, Finds, ReadsBundle}
use Rattle.ep_bundle.specs.declared.bundle.Bundle.{Bundle}
use Rattle.ep_bundle.specs.declared.bundle_fault.BundleFault.{BundleFault}
use Rattle.ep_bundle.specs.declared.bundle_fault.BundleFault.TheVariants.{Memory, ReadFailed, BadBundle, NotARun}
use Rattle.ep_report.specs.Reports.{text_of}
use Rattle.ep_audit.specs.declared.audit_fault.AuditFault.{AuditFault}
use Rattle.ep_explain.specs.Advice.{IsAdvice, at_line, script_read, script_refused}
use Rattle.ep_explain.specs.Reasons.{section}
use Rattle.ep_explain.specs.declared.subcommand.Subcommand.{Subcommand}
use Rattle.ep_explain.specs.declared.subcommand.Subcommand.TheVariants.{Run}
use Rattle.ep_explain.specs.Explained.{IsNoBundle, IsRefusalReported, IsJudged, IsExplained, unreadable, read, unread}
use Rattle.ep_explain.specs.Sections.{AreReported, none, more, fault_section}
use Rattle.ep_explain.specs.declared.explained.Explained.{Explained}

-- what is read of the bytes
abbrev pub IsRead : List ℕ → Option (List ℕ) → Result Contents BundleFault → Type 0
IsRead zs left o = (end : ℕ) × Finds (ReadsBundle (unread zs)) o end left

-- bytes that are no bundle
pub refused_if :
    {E : Type 0} (left : Option (List ℕ)) (zs : List ℕ) (e : BundleFault) (r : Result Explained E) → IsRead zs left (Err e) →
    IfOk r (λ reported. IsRefusalReported e reported.finding reported.text.items) → IfOk r (λ _. IsNoBundle e) → IfOk r (λ reported. IsExplained zs reported.finding reported.text.items)
refused_if left zs e (Err x) q reported named = tt
refused_if left zs Memory (Ok t) q reported named = absurd named
refused_if left zs ReadFailed (Ok t) q reported named = absurd named
refused_if left zs (BadBundle field) (Ok t) q reported named = unreadable (BadBundle field) q.1 reported
refused_if left zs (NotARun replica entry) (Ok t) q reported named = unreadable (NotARun replica entry) q.1 reported

-- bytes that are a bundle
pub judged_if :
    {E : Type 0} (left : Option (List ℕ)) (zs : List ℕ) (b : Bundle) (r : Result Explained E) → IsRead zs left (Ok (contents_of b)) →
    IfOk r (λ reported. IsJudged b.journals b.receipts.items reported.finding reported.text.items) → IfOk r (λ reported. IsExplained zs reported.finding reported.text.items)
judged_if left zs b (Err x) q reported = tt
judged_if left zs b (Ok t) q reported = let f = q.1 in read (contents_of b) (record { at = q.0; bytes = f.0 }) f.2 reported

-- a source's own fault, reported or not

pub reported_so : {A : Type 0} (r : Result A ExplainFault) (had has reported : Bool) → reports is_read_failed r ≡ reported → has ≡ (reported || had) → FailsAsReported is_read_failed r had has
reported_so r had has reported is flag = flag ∙ ap (λ (b : Bool). b || had) (sym is)

pub unreported : {A : Type 0} (r : Result A ExplainFault) (had has : Bool) → IfErr r (λ e. e ≡ explain.Memory) → has ≡ had → FailsAsReported is_read_failed r had has
unreported (Ok a) had has memory same = same
unreported (Err e) had has memory same = same ∙ ap (λ (b : Bool). b || had) (sym (ap is_read_failed memory))

-- what is known of a source stays known
pub kept_known : (a b : Option (List ℕ)) (zs : List ℕ) → Keeps a b → a ≡ Some zs → b ≡ Some zs
kept_known None b zs kept known = let s : None ≡ Some zs = known in absurd (cc)
kept_known (Some x) None zs kept known = absurd kept
kept_known (Some x) (Some y) zs kept known = ap (λ (l : List ℕ). Some l) kept ∙ known

-- The first k faults, after what the text held.

abbrev pub Reported : ℕ → List AuditFault → List ℕ → List ℕ → Type 0
Reported k xs old new = (reported : List ℕ) × AreReported (take k xs) reported × (new ≡ old ++ reported)

pub reported_none : (xs : List AuditFault) (old : List ℕ) → Reported 0 xs old old
reported_none xs old = ([], none, sym (append-nil old))

pub reported_more : (k : ℕ) (xs : List AuditFault) (x : AuditFault) (old mid new : List ℕ) → k < length xs → x ≡ get_or xs k x → Reported k xs old mid
    → (reasons : List (List ℕ)) × (new ≡ mid ++ text_of (fault_section x reasons)) → Reported (k + 1) xs old new
reported_more k xs x old mid new lt is p w =
    let next : take (k + 1) xs ≡ take k xs ++ x ∷ [] = take_more xs k x lt ∙ ap (λ y. take k xs ++ y ∷ []) (sym is) in
    let added : List ℕ = text_of (fault_section x w.0) in
    (p.0 ++ added, subst (λ ys. AreReported ys (p.0 ++ added)) (sym next) (more (take k xs) p.0 x w.0 p.1), w.1 ∙ ap (λ m. m ++ added) p.2 ∙ append_assoc old p.0 added)

-- a refused line, and its first reason, which names the line
pub led_by : (sub : Subcommand) (line : ℕ) (t t0 r f : List ℕ) (rest : List (List ℕ)) → t ≡ t0 ++ text_of (section r (f ∷ rest)) → t0 ≡ [] → r ≡ script_refused line → (words : List ℕ) × (f ≡ at_line line words) → IsAdvice sub (Some line) false t
led_by sub line t t0 r f rest reported empty is first = (
  refl,
  first.0,
  rest,
  reported ∙ ap (λ x. x ++ text_of (section r (f ∷ rest))) empty ∙ ap (λ x. text_of (section x (f ∷ rest))) is ∙ ap (λ x. text_of (section (script_refused line) (x ∷ rest))) first.1,
)

-- a script for run alone is read, and the reason says which line replay refuses
pub run_read :
    (t t0 f : List ℕ) (rest : List (List ℕ)) → t ≡ t0 ++ text_of (section (script_read Run) (f ∷ rest)) → t0 ≡ [] → rest ≡ [] → (why : List ℕ) × (f ≡ codes "replay refuses line " ++ why) →
    IsAdvice Run None true t
run_read t t0 f rest reported empty alone why = (
  refl,
  f ∷ [],
  (why.0, ap (λ (x : List ℕ). x ∷ []) why.1),
  reported ∙ ap (λ (x : List ℕ). x ++ text_of (section (script_read Run) (f ∷ rest))) empty ∙ ap (λ (r : List (List ℕ)). text_of (section (script_read Run) (f ∷ r))) alone,
)
