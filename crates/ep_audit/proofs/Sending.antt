-- What was sent, by look-ups.
use Rattle.std.proofs.Common.{◌≡◌, ℕ, ◌+◌, Some, None, List, slice_get, sym, subst, ◌∙◌}
use Rattle.ep_frame.specs.Meaning.{version_at, sender_at, origin_at}
use Rattle.ep_frame.specs.Spelling.{IsFrame}
use Rattle.ep_journal.specs.Entries.{Collected, entries_at, journals_of, frames_at, AreJournals, frame_in}
use Rattle.ep_journal.specs.Events.{frame_at}
use Rattle.ep_journal.specs.declared.entry.Entry.{Entry}
use Rattle.ep_journal.proofs.Growing.{frame_there}
use Rattle.ep_journal.proofs.OneFrame.{one_frame}
use Rattle.ep_rules.specs.Audits.{HasOrigin}
use Rattle.ep_rules.specs.Steps.{Frame}
use Rattle.ep_rules.specs.Journals.{WasSent}
use Rattle.ep_rules.specs.Journals as rules
use Rattle.ep_rules.proofs.ByPlace.{sent_by_place_lem, origin_by_place_lem}
use Rattle.ep_audit.specs.Lookups.{entry_at, sent_there}
use Rattle.ep_audit.proofs.Shown.{shown_at, shown_from, frame_shown_at, frame_shown_from, readable_at, readable_of, versioned_at, frame_in_version, numbered_of, entry_from, entry_parts, frame_parts}

-- what the look-up finds
record Stands (c : Collected) (b sent : List ℕ) : Type 0 where
  pub place : ℕ
  pub entry : Entry
  pub number : (origin_at b).entry ≡ place + 1
  pub at : slice_get (entries_at c (sender_at b)) place ≡ Some entry
  pub frame : slice_get entry.frames (origin_at b).out ≡ Some sent

stands_from : (c : Collected) (b sent : List ℕ) → sent_there c b ≡ Some sent → Stands c b sent
stands_from c b sent is =
    let t = frame_parts (entry_at (entries_at c (sender_at b)) (origin_at b).entry) (origin_at b).out sent is in
    let u = entry_parts (entries_at c (sender_at b)) (origin_at b).entry t.0 t.1 in
    record { place = u.0; entry = t.0; number = u.1; at = u.2; frame = t.2 }

stands_there : (c : Collected) (b sent : List ℕ) → Stands c b sent → sent_there c b ≡ Some sent
stands_there c b sent s =
    subst (λ o. frame_in o (origin_at b).out ≡ Some sent) (sym (entry_from (entries_at c (sender_at b)) (origin_at b).entry s.place s.entry s.number s.at)) s.frame

-- the rule book's entry, with a frame at the place that b names
found : (c : Collected) (b : List ℕ) (k : ℕ) (x : rules.Entry) (m : Frame) → (origin_at b).entry ≡ k + 1 → slice_get (journals_of c (sender_at b)) k ≡ Some x → slice_get x.out (origin_at b).out ≡ Some m →
    (sent : List ℕ) × Stands c b sent × (m ≡ frame_at sent)
found c b k x m number at there =
    let t = shown_from (entries_at c (sender_at b)) k x at in
    let out : slice_get (frames_at t.entry.frames) (origin_at b).out ≡ Some m = subst (λ (y : rules.Entry). slice_get y.out (origin_at b).out ≡ Some m) t.is there in
    let u = frame_shown_from t.entry.frames (origin_at b).out m out in
    (u.bytes, record { place = k; entry = t.entry; number = number; at = t.at; frame = u.at }, u.is)

pub origin_there : (c : Collected) (b sent : List ℕ) → AreJournals c → sent_there c b ≡ Some sent → HasOrigin (journals_of c) (frame_at b)
origin_there c b sent h is =
    let s = stands_from c b sent is in
    (origin_by_place_lem (journals_of c) (frame_at b) (numbered_of c h (sender_at b))).1
    (s.place, _, frame_at sent, s.number, shown_at (entries_at c (sender_at b)) s.place s.entry s.at, frame_shown_at s.entry.frames (origin_at b).out sent s.frame)

pub no_origin : (c : Collected) (b : List ℕ) → AreJournals c → sent_there c b ≡ None → ¬ HasOrigin (journals_of c) (frame_at b)
no_origin c b h is o =
    let t = (origin_by_place_lem (journals_of c) (frame_at b) (numbered_of c h (sender_at b))).0 o in
    let u = found c b t.0 t.1 t.2 t.3 t.4 t.5 in
    let there : sent_there c b ≡ Some u.0 = stands_there c b u.0 u.1 in
    cc

pub was_sent : (c : Collected) (b : List ℕ) → AreJournals c → sent_there c b ≡ Some b → WasSent (journals_of c) (frame_at b)
was_sent c b h is =
    let s = stands_from c b b is in
    (sent_by_place_lem (journals_of c) (frame_at b) (numbered_of c h (sender_at b))).1
    (s.place, _, s.number, shown_at (entries_at c (sender_at b)) s.place s.entry s.at, frame_shown_at s.entry.frames (origin_at b).out b s.frame)

pub sent_is : (c : Collected) (b sent : List ℕ) → AreJournals c → IsFrame b → version_at b ≡ c.version → sent_there c b ≡ Some sent → WasSent (journals_of c) (frame_at b) → sent ≡ b
sent_is c b sent h frame version is w =
    let t = (sent_by_place_lem (journals_of c) (frame_at b) (numbered_of c h (sender_at b))).0 w in
    let u = found c b t.0 t.1 (frame_at b) t.2 t.3 t.4 in
    let there : sent_there c b ≡ Some u.0 = stands_there c b u.0 u.1 in
    let same : u.0 ≡ sent = (let q : Some u.0 ≡ Some sent = sym there ∙ is in cc) in
    let readable = (readable_at (entries_at c (sender_at b)) u.1.place u.1.entry (readable_of c h (sender_at b)) u.1.at).1 in
    let versioned = (versioned_at c h (sender_at b) u.1.place u.1.entry u.1.at).frames in
    sym same ∙ sym (one_frame c.version b u.0 version (frame_in_version c.version u.1.entry.frames (origin_at b).out u.0 versioned u.1.frame) frame (frame_there u.1.entry.frames (origin_at b).out u.0 readable u.1.frame) u.2)
