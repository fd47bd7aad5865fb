-- Entries and frames of the code, and those that the rule book sees, at the same places.
use Rattle.std.proofs.Common.{◌≡◌, ℕ, zero, suc, ◌+◌, inl, inr, Option, Some, None, List, [], ◌∷◌, slice_get, refl, sym, ap, subst, arith}
use Rattle.std.proofs.lemmas.Bool.{cases_lt}
use Rattle.ep_base.specs.Quorums.{size}
use Rattle.ep_base.specs.declared.version.Version.{Version}
use Rattle.ep_frame.specs.Meaning.{version_at}
use Rattle.ep_journal.specs.Entries.{Collected, entry_of, entries_of, entries_at, journals_of, frames_at, AreFrames, AreReadable, AreFramesIn, IsEntryIn, AreEntriesIn, AreJournals, frame_in}
use Rattle.ep_journal.specs.Events.{event_of, frame_at, IsReadable, lacking}
use Rattle.ep_journal.specs.declared.entry.Entry.{Entry}
use Rattle.ep_journal.specs.declared.event.Event.TheVariants.{Handle}
use Rattle.ep_journal.proofs.Whole.{same_version}
use Rattle.ep_rules.specs.Journals as rules
use Rattle.ep_rules.specs.Journals.{AreLocalRuns, AreNumbered}
use Rattle.ep_rules.specs.States.{State, fresh_state}
use Rattle.ep_rules.specs.Steps.{Frame, leaves}
use Rattle.ep_rules.specs.Worlds.{In}
use Rattle.ep_audit.specs.Lookups.{entry_at}
use Rattle.ep_journal.specs.Openings.{opens}

-- Entries.

pub shown_at : (es : List Entry) (k : ℕ) (e : Entry) → slice_get es k ≡ Some e → slice_get (entries_of es) k ≡ Some (entry_of e)
shown_at [] k e is = absurd (cc)
shown_at (x ∷ es) zero e is = let s : Some x ≡ Some e = is in let q : x ≡ e = cc in ap (λ y. Some (entry_of y)) q
shown_at (x ∷ es) (suc k) e is = shown_at es k e is

-- what the rule book sees at a place is an entry of the code there
pub record Shows (es : List Entry) (k : ℕ) (x : rules.Entry) : Type 0 where
  pub entry : Entry
  pub at : slice_get es k ≡ Some entry
  pub is : x ≡ entry_of entry

pub shown_from : (es : List Entry) (k : ℕ) (x : rules.Entry) → slice_get (entries_of es) k ≡ Some x → Shows es k x
shown_from [] k x is = absurd (cc)
shown_from (e ∷ es) zero x is = let s : Some (entry_of e) ≡ Some x = is in record { entry = e; at = refl; is = (let q : x ≡ entry_of e = cc in q) }
shown_from (e ∷ es) (suc k) x is = let t = shown_from es k x is in record { entry = t.entry; at = t.at; is = t.is }

pub shown_in : (es : List Entry) (e : Entry) → In e es → In (entry_of e) (entries_of es)
shown_in [] e h = absurd h
shown_in (x ∷ es) e (inl is) = inl (ap entry_of is)
shown_in (x ∷ es) e (inr h) = inr (shown_in es e h)

pub in_shown : (es : List Entry) (x : rules.Entry) → In x (entries_of es) → (e : Entry) × In e es × (entry_of e ≡ x)
in_shown [] x h = absurd h
in_shown (e ∷ es) x (inl is) = (e, inl refl, is)
in_shown (e ∷ es) x (inr h) = let t = in_shown es x h in (t.0, inr t.1, t.2)

-- Frames.

pub frame_shown_at : (bs : List (List ℕ)) (k : ℕ) (b : List ℕ) → slice_get bs k ≡ Some b → slice_get (frames_at bs) k ≡ Some (frame_at b)
frame_shown_at [] k b is = absurd (cc)
frame_shown_at (x ∷ bs) zero b is = let s : Some x ≡ Some b = is in let q : x ≡ b = cc in ap (λ y. Some (frame_at y)) q
frame_shown_at (x ∷ bs) (suc k) b is = frame_shown_at bs k b is

pub record ShowsFrame (bs : List (List ℕ)) (k : ℕ) (m : Frame) : Type 0 where
  pub bytes : List ℕ
  pub at : slice_get bs k ≡ Some bytes
  pub is : m ≡ frame_at bytes

pub frame_shown_from : (bs : List (List ℕ)) (k : ℕ) (m : Frame) → slice_get (frames_at bs) k ≡ Some m → ShowsFrame bs k m
frame_shown_from [] k m is = absurd (cc)
frame_shown_from (b ∷ bs) zero m is = let s : Some (frame_at b) ≡ Some m = is in record { bytes = b; at = refl; is = (let q : m ≡ frame_at b = cc in q) }
frame_shown_from (b ∷ bs) (suc k) m is = let t = frame_shown_from bs k m is in record { bytes = t.bytes; at = t.at; is = t.is }

-- What is readable.

pub readable_at : (es : List Entry) (k : ℕ) (e : Entry) → AreReadable es → slice_get es k ≡ Some e → IsReadable e.event × AreFrames e.frames
readable_at [] k e h is = absurd (cc)
readable_at (x ∷ es) zero e h is = let s : Some x ≡ Some e = is in let q : x ≡ e = cc in subst (λ y. IsReadable y.event × AreFrames y.frames) q (h.0, h.1)
readable_at (x ∷ es) (suc k) e h is = readable_at es k e h.2 is

pub readable_in : (es : List Entry) (e : Entry) → AreReadable es → In e es → IsReadable e.event × AreFrames e.frames
readable_in [] e h there = absurd there
readable_in (x ∷ es) e h (inl is) = subst (λ y. IsReadable y.event × AreFrames y.frames) is (h.0, h.1)
readable_in (x ∷ es) e h (inr there) = readable_in es e h.2 there

-- What is of the version.

pub handled_in : (v : Version) (b : List ℕ) → lacking v (Handle b) ≡ None → version_at b ≡ v
handled_in v b none = same_version (version_at b) v none

pub frame_in_version : (v : Version) (bs : List (List ℕ)) (k : ℕ) (b : List ℕ) → AreFramesIn v bs → slice_get bs k ≡ Some b → version_at b ≡ v
frame_in_version v [] k b h is = absurd (cc)
frame_in_version v (x ∷ bs) zero b h is = let s : Some x ≡ Some b = is in let q : x ≡ b = cc in subst (λ y. version_at y ≡ v) q h.0
frame_in_version v (x ∷ bs) (suc k) b h is = frame_in_version v bs k b h.1 is

versioned_from : (v : Version) (f me : ℕ) (s : State) (es : List Entry) (e : Entry) → AreEntriesIn v f me s es → In e es → IsEntryIn v e
versioned_from v f me s [] e h there = absurd there
versioned_from v f me s (x ∷ es) e h (inl is) = subst (λ y. IsEntryIn v y) is h.0
versioned_from v f me s (x ∷ es) e h (inr there) = versioned_from v f me (leaves f me s (event_of x.event) x.done) es e h.2 there

at_in : (es : List Entry) (k : ℕ) (e : Entry) → slice_get es k ≡ Some e → In e es
at_in [] k e is = absurd (cc)
at_in (x ∷ es) zero e is = let s : Some x ≡ Some e = is in inl (cc)
at_in (x ∷ es) (suc k) e is = inr (at_in es k e is)

-- Journals.

pub versioned_in : (c : Collected) → AreJournals c → (r : ℕ) (e : Entry) → In e (entries_at c r) → IsEntryIn c.version e
versioned_in c h r e there = elim (cases_lt r (size c.faults)) [
  | inl lt ↦ versioned_from c.version c.faults r (fresh_state (opens c.opening)) (entries_at c r) e (h.journal r lt).versioned there
  | inr le ↦ (let nobody : In e [] = subst (λ es. In e es) (h.others r le) there in absurd nobody)
]

pub versioned_at : (c : Collected) → AreJournals c → (r k : ℕ) (e : Entry) → slice_get (entries_at c r) k ≡ Some e → IsEntryIn c.version e
versioned_at c h r k e is = versioned_in c h r e (at_in (entries_at c r) k e is)

pub readable_of : (c : Collected) → AreJournals c → (r : ℕ) → AreReadable (entries_at c r)
readable_of c h r = elim (cases_lt r (size c.faults)) [
  | inl lt ↦ (h.journal r lt).readable
  | inr le ↦ subst (λ es. AreReadable es) (sym (h.others r le)) tt
]

pub runs_of : (c : Collected) → AreJournals c → AreLocalRuns (opens c.opening) c.faults (journals_of c)
runs_of c h = record {
  local = λ r. elim (cases_lt r (size c.faults)) [
    | inl lt ↦ (h.journal r lt).run
    | inr le ↦ subst (λ (es : List Entry). rules.IsLocalRun (opens c.opening) c.faults r (entries_of es)) (sym (h.others r le)) (tt, tt)
  ];
  others = λ r le. ap entries_of (h.others r le);
}

pub numbered_of : (c : Collected) → AreJournals c → (r : ℕ) → AreNumbered 1 0 (journals_of c r)
numbered_of c h r = ((runs_of c h).local r).0

-- Entries by number.

pub entry_from : (es : List Entry) (n k : ℕ) (e : Entry) → n ≡ k + 1 → slice_get es k ≡ Some e → entry_at es n ≡ Some e
entry_from es zero k e is there = absurd (omega arith)
entry_from es (suc n) k e is there = let q : k ≡ n = omega arith in subst (λ j. slice_get es j ≡ Some e) q there

pub entry_parts : (es : List Entry) (n : ℕ) (e : Entry) → entry_at es n ≡ Some e → (k : ℕ) × (n ≡ k + 1) × (slice_get es k ≡ Some e)
entry_parts es zero e is = absurd (cc)
entry_parts es (suc n) e is = (n, omega arith, is)

pub frame_parts : (o : Option Entry) (place : ℕ) (b : List ℕ) → frame_in o place ≡ Some b → (e : Entry) × (o ≡ Some e) × (slice_get e.frames place ≡ Some b)
frame_parts None place b is = absurd (cc)
frame_parts (Some e) place b is = (e, refl, is)
