-- Frames that hosts carry, and that no replica refuses those of its own version for their version or generation.
use Rattle.std.proofs.Common.{◌≡◌, ◌≤◌, ℕ, zero, suc, cond, eqb, List, [], ◌∷◌, Option, Some, None, inl, inr, sym, ap, subst, ◌∙◌, arith, All, IfSome, Contains}
use Rattle.std.proofs.lemmas.Bool.{eq-eqb}
use Rattle.std.proofs.lemmas.List.Elements.{Contains-append_cases, Contains-push_cases}
use Rattle.ep_base.specs.Versions.{version_number, generation_of}
use Rattle.ep_base.specs.declared.version.Version.{Version}
use Rattle.ep_frame.specs.Meaning.{version_at}
use Rattle.ep_journal.specs.Entries.{AreFramesIn, AreEntriesIn, frames_of}
use Rattle.ep_journal.specs.Events.{event_of, spelled_in}
use Rattle.ep_journal.specs.Refused.{named}
use Rattle.ep_journal.specs.declared.entry.Entry.{Entry}
use Rattle.ep_journal.specs.declared.step_fault.StepFault.TheVariants.{OtherVersion, OtherGeneration}
use Rattle.ep_rules.specs.States.{State}
use Rattle.ep_rules.specs.Steps.{leaves}
use Rattle.ep_host.specs.HostFrames.{AreHostFrames, AreOfVersion, IsOnly, NoneForVersion}

frames_each : (v : Version) (bs : List (List ℕ)) → 2 ≤ version_number v → AreFramesIn v bs → AreHostFrames bs
frames_each v [] known h i d low = absurd (omega arith)
frames_each v (b ∷ bs) known h zero d low = subst (λ (w : Version). 2 ≤ version_number w) (sym h.0) known
frames_each v (b ∷ bs) known h (suc i) d low = frames_each v bs known h.1 i d (omega arith)

-- each entry of a journal of such a version sends such frames
pub entries_each : (v : Version) (f me : ℕ) (s : State) (es : List Entry) → 2 ≤ version_number v → AreEntriesIn v f me s es → All (λ (e : Entry). AreHostFrames e.frames) es
entries_each v f me s [] known h i d low = absurd (omega arith)
entries_each v f me s (e ∷ es) known h zero d low = frames_each v e.frames known h.0.frames
entries_each v f me s (e ∷ es) known h (suc i) d low = entries_each v f me (leaves f me s (event_of e.event) e.done) es known h.2 i d (omega arith)

spelled_same : (v w : Version) → v ≡ w → spelled_in v w ≡ None
spelled_same v w is =
    ap (λ b. cond b (cond (eqb (generation_of v) (generation_of w)) None (Some OtherGeneration)) (Some OtherVersion)) (eq-eqb (version_number v) (version_number w) (ap version_number is))
    ∙ ap (λ b. cond b None (Some OtherGeneration)) (eq-eqb (generation_of v) (generation_of w) (ap generation_of is))

pub none_for_version : NoneForVersion
none_for_version k b fault is (inl memory) = ((λ other. absurd (cc)), (λ other. absurd (cc)))
none_for_version k b fault is (inr (inl h)) =
    let lacks : spelled_in (version_at b) k.version ≡ Some fault = h.1 in
    let none : spelled_in (version_at b) k.version ≡ None = spelled_same (version_at b) k.version is in
    absurd (cc)
none_for_version k b fault is (inr (inr (inl h))) = let e = h.0 in ((λ other. absurd (cc)), (λ other. absurd (cc)))
none_for_version k b fault is (inr (inr (inr (inl h)))) = let e = h.0 in ((λ other. absurd (cc)), (λ other. absurd (cc)))
none_for_version k b fault is (inr (inr (inr (inr h)))) =
    let reports : named fault ≡ Some h.0 = h.1.named in (
      (λ other. absurd (let none : named fault ≡ None = ap named other in cc)),
      (λ other. absurd (let none : named fault ≡ None = ap named other in cc)),
    )

pub only_versioned : (v : Version) (frame given : Option (List ℕ)) → IsOnly v frame given → IfSome given (λ b. version_at b ≡ v)
only_versioned v None given is = subst (λ (o : Option (List ℕ)). IfSome o (λ b. version_at b ≡ v)) (sym is) tt
only_versioned v (Some b) given (inl h) = subst (λ (o : Option (List ℕ)). IfSome o (λ b. version_at b ≡ v)) (sym h.1) h.0
only_versioned v (Some b) given (inr h) = subst (λ (o : Option (List ℕ)). IfSome o (λ b. version_at b ≡ v)) (sym h.1) tt

-- what a journal sends is of its version
frames_all : (v : Version) (bs : List (List ℕ)) → AreFramesIn v bs → AreOfVersion v bs
frames_all v [] h i d low = absurd (omega arith)
frames_all v (b ∷ bs) h zero d low = h.0
frames_all v (b ∷ bs) h (suc i) d low = frames_all v bs h.1 i d (omega arith)

pub entries_all : (v : Version) (f me : ℕ) (s : State) (es : List Entry) → AreEntriesIn v f me s es → All (λ (e : Entry). AreOfVersion v e.frames) es
entries_all v f me s [] h i d low = absurd (omega arith)
entries_all v f me s (e ∷ es) h zero d low = frames_all v e.frames h.0.frames
entries_all v f me s (e ∷ es) h (suc i) d low = entries_all v f me (leaves f me s (event_of e.event) e.done) es h.2 i d (omega arith)

-- one frame that a journal sends is of its version
pub none_in : (b : List ℕ) → Contains [] b → ⊥
none_in b c = let low = c.1 in absurd (omega arith)

of_version : (v : Version) (bs : List (List ℕ)) (b : List ℕ) → AreFramesIn v bs → Contains bs b → version_at b ≡ v
of_version v [] b h c = absurd (none_in b c)
of_version v (x ∷ xs) b h c = elim (Contains-append_cases (x ∷ []) xs b c) [
  | inl first ↦ elim (Contains-push_cases [] x b first) [ inl z ↦ absurd (none_in b z) | inr e ↦ subst (λ (y : List ℕ). version_at y ≡ v) e h.0 ]
  | inr rest ↦ of_version v xs b h.1 rest
]

pub frames_of_version : (v : Version) (f me : ℕ) (s : State) (es : List Entry) (b : List ℕ) → AreEntriesIn v f me s es → Contains (frames_of es) b → version_at b ≡ v
frames_of_version v f me s [] b h c = absurd (none_in b c)
frames_of_version v f me s (e ∷ es) b h c = elim (Contains-append_cases e.frames (frames_of es) b c) [
  | inl here ↦ of_version v e.frames b h.0.frames here
  | inr rest ↦ frames_of_version v f me (leaves f me s (event_of e.event) e.done) es b h.2 rest
]
