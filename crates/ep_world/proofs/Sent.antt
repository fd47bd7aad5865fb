-- The frames that a world's entries sent stand where their places say.
use Rattle.std.proofs.Common.{◌≡◌, ℕ, zero, suc, ◌+◌, ◌<◌, ◌≤◌, Option, Some, None, List, [], ◌∷◌, ◌⊎◌, inl, inr, length, slice_get, refl, sym, ap, subst, ◌∙◌, arith}
use Rattle.std.proofs.lemmas.Bool.{cases_lt}
use Rattle.ep_base.specs.Quorums.{size}
use Rattle.ep_frame.specs.Spelling.{IsFrame}
use Rattle.ep_rules.specs.Steps.{Frame}
use Rattle.ep_rules.specs.Worlds.{In}
use Rattle.ep_rules.specs.Journals as rules
use Rattle.ep_rules.specs.Journals.{Scheduled, AreNumbered, IsLocalRun, AreLocalRuns, IsAmong, frames_of}
use Rattle.ep_rules.proofs.Merged.{in_split, in_at, in_of}
use Rattle.ep_rules.proofs.Played.{frames_were_sent_lem, played_match_lem}
use Rattle.ep_rules.proofs.JournalsGrow.{numbers_are_places_lem}
use Rattle.ep_journal.specs.Entries.{Collected, entry_of, entries_of, frames_at, entries_at, AreFrames, AreReadable, AreJournals, frame_in}
use Rattle.ep_journal.specs.Events.{event_of, frame_at}
use Rattle.ep_journal.specs.declared.entry.Entry.{Entry}
use Rattle.ep_journal.specs.declared.event.Event.{Event as Happening}
use Rattle.ep_journal.specs.declared.event.Event.TheVariants as taken
use Rattle.ep_world.specs.Played.{Played, collected, journals_in, entries_in, numbered, frame_at_place, message_in, places_of, IsWorld}
use Rattle.ep_world.specs.Playing.{given, asked}
use Rattle.ep_world.specs.declared.place.Place.{Place}
use Rattle.ep_world.specs.declared.world_event.WorldEvent.{WorldEvent}
use Rattle.ep_world.specs.declared.world_event.WorldEvent.TheVariants.{Propose, GiveUp, Recover, Execute, Deliver}
use Rattle.ep_journal.specs.Openings.{opens}
use Rattle.ep_journal.proofs.Growing.{frame_there}

abbrev pub place_of : Frame → Place
place_of m = record { replica = m.sent.from; entry = m.entry; out = m.place }

-- the entry that sent a frame of a schedule
pub record Source (these : List Scheduled) (m : Frame) : Type 0 where
  pub act : Scheduled
  pub stands : In act these
  pub out : In m act.entry.out

source_of : (these : List Scheduled) (m : Frame) → In m (frames_of these) → Source these m
source_of [] m k = absurd k
source_of (a ∷ these) m k = elim (in_split m a.entry.out (frames_of these) k) [
  | inl here ↦ record { act = a; stands = inl refl; out = here }
  | inr later ↦ (let s = source_of these m later in record { act = s.act; stands = inr s.stands; out = s.out })
]

-- the code's entry, or frame, for each of the rule book's
entry_behind : (es : List Entry) (k : ℕ) (e : rules.Entry) → slice_get (entries_of es) k ≡ Some e → (x : Entry) × (slice_get es k ≡ Some x) × (entry_of x ≡ e)
entry_behind [] k e is = absurd (cc)
entry_behind (x ∷ es) zero e is = (x, refl, (let s : Some (entry_of x) ≡ Some e = is in cc))
entry_behind (x ∷ es) (suc k) e is = entry_behind es k e is

frame_behind : (bs : List (List ℕ)) (k : ℕ) (m : Frame) → slice_get (frames_at bs) k ≡ Some m → (b : List ℕ) × (slice_get bs k ≡ Some b) × (frame_at b ≡ m)
frame_behind [] k m is = absurd (cc)
frame_behind (b ∷ bs) zero m is = (b, refl, (let s : Some (frame_at b) ≡ Some m = is in cc))
frame_behind (b ∷ bs) (suc k) m is = frame_behind bs k m is

readable_entry : (es : List Entry) (k : ℕ) (x : Entry) → AreReadable es → slice_get es k ≡ Some x → AreFrames x.frames
readable_entry [] k x h is = absurd (cc)
readable_entry (y ∷ es) zero x h is =
    let same : y ≡ x = (let s : Some y ≡ Some x = is in cc) in
    subst (λ (z : Entry). AreFrames z.frames) same h.1
readable_entry (y ∷ es) (suc k) x h is = readable_entry es k x h.2 is

-- each replica's entries are a journal; those of others are none
pub readable_in : (c : Collected) (r : ℕ) → AreJournals c → AreReadable (entries_at c r)
readable_in c r h = elim (cases_lt r (size c.faults)) [ inl lt ↦ (h.journal r lt).readable | inr ge ↦ subst AreReadable (sym (h.others r ge)) tt ]

pub numbered_in : (c : Collected) (r : ℕ) → AreJournals c → AreNumbered 1 0 (entries_of (entries_at c r))
numbered_in c r h = elim (cases_lt r (size c.faults)) [ inl lt ↦ (h.journal r lt).run.0 | inr ge ↦ subst (λ (es : List Entry). AreNumbered 1 0 (entries_of es)) (sym (h.others r ge)) tt ]

-- the bytes at the frame's place are that frame
pub record Stands (w : Played) (m : Frame) : Type 0 where
  pub bytes : List ℕ
  pub found : frame_at_place w (Some (place_of m)) ≡ Some bytes
  pub is : frame_at bytes ≡ m
  pub frame : IsFrame bytes

-- a frame at this place of an entry that stands there
stands_at : (w : Played) (m : Frame) (k : ℕ) (x : Entry) (b : List ℕ) → m.entry ≡ suc k → slice_get (entries_in w m.sent.from) k ≡ Some x → slice_get x.frames m.place ≡ Some b → frame_at b ≡ m → IsFrame b → Stands w m
stands_at w m k x b number entry frame is readable = record {
  bytes = b;
  found = ap (λ n. frame_in (numbered (entries_in w m.sent.from) n) m.place) number ∙ ap (λ (o : Option Entry). frame_in o m.place) entry ∙ frame;
  is = is;
  frame = readable;
}

-- each replica's entries are a local run
pub local_in : (w : Played) → IsWorld w → AreLocalRuns (opens w.opening) w.faults (journals_in w)
local_in w h = (played_match_lem (opens w.opening) (λ _. w.opening.base_stamp) w.faults (journals_in w) h.schedule h.shows.played h.shows.journals (λ r. numbered_in (collected w) r h.journals) h.clocked).0

pub stands : (w : Played) (h : IsWorld w) (m : Frame) → In m (frames_of h.schedule) → Stands w m
stands w h m k =
    let s = source_of h.schedule m k in
    let r : ℕ = s.act.replica in
    let run : IsLocalRun (opens w.opening) w.faults r (journals_in w r) = (local_in w h).local r in
    let home : In s.act.entry (journals_in w r) = subst (λ (es : List rules.Entry). In s.act.entry es) (h.shows.journals r) (in_of s.act h.schedule s.stands) in
    let named = (frames_were_sent_lem (opens w.opening) w.faults (journals_in w) r s.act.entry m run home s.out).0 in
    let at = in_at (journals_in w r) s.act.entry home in
    let number : s.act.entry.number ≡ at.0 + 1 = ((numbers_are_places_lem (journals_in w r) run.0 at.0 s.act.entry).0 at.1).1 in
    let entry = entry_behind (entries_in w r) at.0 s.act.entry at.1 in
    let there : slice_get (frames_at entry.0.frames) m.place ≡ Some m = subst (λ (e : rules.Entry). slice_get e.out m.place ≡ Some m) (sym entry.2) named.place in
    let frame = frame_behind entry.0.frames m.place m there in
    stands_at w m at.0 entry.0 frame.0 (let q = named.number in omega arith) (subst (λ q. slice_get (entries_in w q) at.0 ≡ Some entry.0) (sym named.sender) entry.1) frame.1 frame.2
    (frame_there entry.0.frames m.place frame.0 (readable_entry (entries_in w r) at.0 entry.0 (readable_in (collected w) r h.journals) entry.1) frame.1)

-- Messages by their numbers.

frame_of_place : (ms : List Frame) (k : ℕ) (p : Place) → slice_get (places_of ms) k ≡ Some p → (m : Frame) × In m ms × (place_of m ≡ p)
frame_of_place [] k p is = absurd (cc)
frame_of_place (m ∷ ms) zero p is = (m, inl refl, (let s : Some (place_of m) ≡ Some p = is in cc))
frame_of_place (m ∷ ms) (suc k) p is = let t = frame_of_place ms k p is in (t.0, inr t.1, t.2)

-- the message of this number is a frame of the schedule
pub record IsSent (w : Played) (frames : List Frame) (n : ℕ) : Type 0 where
  pub bytes : List ℕ
  pub found : message_in w n ≡ Some bytes
  pub among : In (frame_at bytes) frames
  pub frame : IsFrame bytes

pub sent_at : (w : Played) (h : IsWorld w) (k : ℕ) (p : Place) → slice_get w.messages k ≡ Some p → IsSent w (frames_of h.schedule) (suc k)
sent_at w h k p is =
    let t = frame_of_place (frames_of h.schedule) k p (subst (λ (ps : List Place). slice_get ps k ≡ Some p) h.shows.messages is) in
    let s = stands w h t.0 t.1 in
    record {
      bytes = s.bytes;
      found = ap (λ (o : Option Place). frame_at_place w o) (is ∙ ap Some (sym t.2)) ∙ s.found;
      among = subst (λ (m : Frame). In m (frames_of h.schedule)) (sym s.is) t.1;
      frame = s.frame;
    }

below : (ps : List Place) (k : ℕ) → slice_get ps k ≡ None → length ps ≤ k
below [] k is = omega arith
below (x ∷ ps) zero is = absurd (cc)
below (x ∷ ps) (suc k) is = let q = below ps k is in omega arith

-- what a number names, if it names anything, is such a message
pub by_number : (w : Played) (h : IsWorld w) (n : ℕ) → ((message_in w n ≡ None) × ((n ≡ 0) ⊎ (length w.messages < n))) ⊎ IsSent w (frames_of h.schedule) n
by_number w h zero = inl (refl, inl refl)
by_number w h (suc k) = go (slice_get w.messages k) refl
  where
    go : (o : Option Place) → slice_get w.messages k ≡ o → ((message_in w (suc k) ≡ None) × ((suc k ≡ 0) ⊎ (length w.messages < suc k))) ⊎ IsSent w (frames_of h.schedule) (suc k)
    go None is = inl (ap (λ (o : Option Place). frame_at_place w o) is, inr (let q = below w.messages k is in omega arith))
    go (Some p) is = inr (sent_at w h k p is)

pub no_message : (w : Played) (h : IsWorld w) (n : ℕ) → message_in w n ≡ None → (n ≡ 0) ⊎ (length w.messages < n)
no_message w h n is = elim (by_number w h n) [ inl none ↦ none.1 | inr s ↦ absurd (let f : message_in w n ≡ Some s.bytes = s.found in cc) ]

pub message_frame : (w : Played) (h : IsWorld w) (n : ℕ) (b : List ℕ) → message_in w n ≡ Some b → IsFrame b × In (frame_at b) (frames_of h.schedule)
message_frame w h n b is = elim (by_number w h n) [
  | inl none ↦ absurd (let f : message_in w n ≡ None = none.0 in cc)
  | inr s ↦ (let same : s.bytes ≡ b = (let f : message_in w n ≡ Some s.bytes = s.found in cc) in subst (λ (z : List ℕ). IsFrame z × In (frame_at z) (frames_of h.schedule)) same (s.frame, s.among))
]

-- Whatever is asked, the frame handled is one that was sent.

abbrev of_replica : ℕ → Happening → Option (ℕ × Happening)
of_replica r x = Some (r, x)

abbrev HandlesOf : List Frame → Option (ℕ × Happening) → Type 0
HandlesOf frames None = Unit {0}
HandlesOf frames (Some p) = IsAmong frames (event_of p.1)

among_pair : (frames : List Frame) (r q : ℕ) (x y : Happening) → of_replica r x ≡ of_replica q y → IsAmong frames (event_of x) → IsAmong frames (event_of y)
among_pair frames r q x y is h = subst (λ (o : Option (ℕ × Happening)). HandlesOf frames o) is h

pub among : (w : Played) (h : IsWorld w) (event : WorldEvent) (r : ℕ) (x : Happening) → asked w event ≡ Some (r, x) → IsAmong (frames_of h.schedule) (event_of x)
among w h (Propose replica client request command seen named) r x is = among_pair (frames_of h.schedule) replica r (taken.Propose client request command seen named) x is tt
among w h (GiveUp replica instance) r x is = among_pair (frames_of h.schedule) replica r (taken.GiveUp instance) x is tt
among w h (Recover replica instance) r x is = among_pair (frames_of h.schedule) replica r (taken.Recover instance) x is tt
among w h (Execute replica instance) r x is = among_pair (frames_of h.schedule) replica r (taken.Execute instance) x is tt
among w h (Deliver message) r x is = go (message_in w message) refl is
  where
    go : (o : Option (List ℕ)) → message_in w message ≡ o → given o ≡ Some (r, x) → IsAmong (frames_of h.schedule) (event_of x)
    go None eq e = absurd (cc)
    go (Some b) eq e = among_pair (frames_of h.schedule) (frame_at b).sent.to r (taken.Handle b) x e (message_frame w h message b eq).1
