-- A world with one entry more.
use Rattle.std.proofs.Common.{◌≡◌, ◌≢◌, ℕ, zero, suc, ◌+◌, ◌<◌, ◌≤◌, cond, eqb, List, [], ◌∷◌, ◌++◌, inl, inr, length, get_or, refl, sym, ap, subst, ◌∙◌, arith, append-nil, append_assoc}
use Rattle.std.proofs.lemmas.Bool.{cases_eq, eq-eqb, ne_eqb}
use Rattle.ep_base.specs.Quorums.{size}
use Rattle.ep_rules.specs.States.{State, fresh_state}
use Rattle.ep_rules.specs.Steps.{Frame, sends}
use Rattle.ep_rules.specs.Worlds.{In}
use Rattle.ep_rules.specs.Journals as rules
use Rattle.ep_rules.specs.Journals.{Scheduled, of, acts_of, left, messages_of, IsEntry, AreMarked, AreClocked, IsAmong, Plays, frames_of}
use Rattle.ep_rules.proofs.FewOut.{sends_few}
use Rattle.ep_rules.proofs.JournalsGrow.{of_grows, frames_grow, own_entries_leave_lem, played_grows_lem}
use Rattle.ep_rules.proofs.Played.{from_entry}
use Rattle.ep_journal.specs.Entries.{entry_of, entries_of, frames_at, IsJournal, AreJournals}
use Rattle.ep_journal.specs.Events.{event_of}
use Rattle.ep_journal.specs.declared.entry.Entry.{Entry}
use Rattle.ep_journal.specs.declared.event.Event.{Event as Happening}
use Rattle.ep_replica.specs.Applied.{Applied}
use Rattle.ep_replica.specs.Kept.{Kept}
use Rattle.ep_journal.proofs.Growing.{entries_grow}
use Rattle.ep_journal.specs.Openings.{opens}
use Rattle.ep_replica.proofs.Growing.{journal_grows, clock_grows}
use Rattle.ep_world.specs.Played.{Played, collected, journals_in, entries_in, replica_in, steps_of, places_of, Shows, IsWorld}
use Rattle.ep_world.specs.Playing.{with_entry, grown}
use Rattle.ep_world.specs.Replicas.{places_up_to}
use Rattle.ep_world.specs.declared.place.Place.{Place}

with_length : (ls : List (List Entry)) (r : ℕ) (e : Entry) → length (with_entry ls r e) ≡ length ls
with_length [] r e = refl
with_length (es ∷ ls) zero e = refl
with_length (es ∷ ls) (suc r) e = ap suc (with_length ls r e)

pub with_same : (ls : List (List Entry)) (r : ℕ) (e : Entry) → r < length ls → get_or (with_entry ls r e) r [] ≡ get_or ls r [] ++ e ∷ []
with_same [] r e lt = absurd (omega arith)
with_same (es ∷ ls) zero e lt = refl
with_same (es ∷ ls) (suc r) e lt = with_same ls r e (omega arith)

pub with_other : (ls : List (List Entry)) (r q : ℕ) (e : Entry) → r ≢ q → get_or (with_entry ls r e) q [] ≡ get_or ls q []
with_other [] r q e ne = refl
with_other (es ∷ ls) zero zero e ne = absurd (ne refl)
with_other (es ∷ ls) zero (suc q) e ne = refl
with_other (es ∷ ls) (suc r) zero e ne = refl
with_other (es ∷ ls) (suc r) (suc q) e ne = with_other ls r q e (λ is. ne (ap suc is))

steps_grow : (these : List Scheduled) (a : Scheduled) → steps_of (these ++ (a ∷ [])) ≡ steps_of these ++ (a.replica, a.entry.number) ∷ []
steps_grow [] a = refl
steps_grow (b ∷ these) a = ap (λ (xs : List (ℕ × ℕ)). (b.replica, b.entry.number) ∷ xs) (steps_grow these a)

places_both : (xs ys : List Frame) → places_of (xs ++ ys) ≡ places_of xs ++ places_of ys
places_both [] ys = refl
places_both (x ∷ xs) ys = ap (λ (ps : List Place). record { replica = x.sent.from; entry = x.entry; out = x.place } ∷ ps) (places_both xs ys)

-- Whatever holds of each replica's entries, and of what they are with the new one, holds of each with it.

module _ (w : Played) (r : ℕ) (e : Entry) (there : r < length w.entries) where
  mine : entries_in (grown w r e) r ≡ entries_in w r ++ e ∷ []
  mine = with_same w.entries r e there

  each : (P : ℕ → List Entry → Type 0) → ((q : ℕ) → P q (entries_in w q)) → (P r (entries_in w r) → P r (entries_in w r ++ e ∷ [])) → (q : ℕ) → P q (entries_in (grown w r e) q)
  each P old new q = elim (cases_eq r q) [
    | inl is ↦ subst (λ z. P z (entries_in (grown w r e) z)) is (subst (λ (es : List Entry). P r es) (sym mine) (new (old r)))
    | inr ne ↦ subst (λ (es : List Entry). P q es) (sym (with_other w.entries r q e ne)) (old q)
  ]

abbrev act : ℕ → Entry → Scheduled
act r e = record { replica = r; entry = entry_of e }

of_more : (w : Played) (these : List Scheduled) (r : ℕ) (e : Entry) → r < length w.entries → ((q : ℕ) → of q these ≡ journals_in w q) → (q : ℕ) → of q (these ++ (act r e ∷ [])) ≡ journals_in (grown w r e) q
of_more w these r e there old q = of_grows q these (act r e) ∙ elim (cases_eq r q) [
  | inl is ↦ subst (λ z. cond (eqb r z) (of z these ++ (entry_of e ∷ [])) (of z these) ≡ entries_of (entries_in (grown w r e) z)) is
      (ap (λ b. cond b (of r these ++ (entry_of e ∷ [])) (of r these)) (eq-eqb r r refl) ∙ ap (λ (es : List rules.Entry). es ++ (entry_of e ∷ [])) (old r) ∙ sym (entries_grow (entries_in w r) e) ∙ ap entries_of (sym (mine w r e there)))
  | inr ne ↦ ap (λ b. cond b (of q these ++ (entry_of e ∷ [])) (of q these)) (ne_eqb r q ne) ∙ old q ∙ ap entries_of (sym (with_other w.entries r q e ne))
]

shows_more : (w : Played) (these : List Scheduled) (r : ℕ) (taken : Happening) (e : Entry) (k : Kept) → r < size w.faults → r < length w.entries → Shows w these → Applied (replica_in w r) taken e k → IsAmong (frames_of these) (event_of taken) →
    Shows (grown w r e) (these ++ (act r e ∷ []))
shows_more w these r taken e k lt there h a among = record {
  journals = of_more w these r e there h.journals;
  steps = ap (λ (xs : List (ℕ × ℕ)). xs ++ (r, e.number) ∷ []) h.steps ∙ sym (steps_grow these (act r e));
  messages = ap (λ (ps : List Place). ps ++ places_of (frames_at e.frames)) h.messages ∙ sym (places_both (frames_of these) (frames_at e.frames)) ∙ sym (ap places_of (frames_grow these (act r e)));
  played = played_grows_lem (opens w.opening) w.faults these (act r e) h.played (record {
    replica = lt;
    entry = subst (λ (s : State). IsEntry w.faults r s (entry_of e)) (sym (own_entries_leave_lem (opens w.opening) w.faults these r ∙ ap (λ (es : List rules.Entry). left w.faults r (fresh_state (opens w.opening)) es) (h.journals r))) a.step;
    among = subst (λ (t : Happening). IsAmong (frames_of these) (event_of t)) (sym a.event) among;
  });
}

journals_more : (w : Played) (r : ℕ) (taken : Happening) (e : Entry) (k : Kept) → r < size w.faults → r < length w.entries → AreJournals (collected w) → Applied (replica_in w r) taken e k → AreJournals (collected (grown w r e))
journals_more w r taken e k lt there h a = record {
  count = with_length w.entries r e ∙ h.count;
  opens = h.opens;
  journal = λ q less. elim (cases_eq r q) [
    | inl is ↦ subst (λ z. IsJournal w.version w.opening w.faults z (entries_in (grown w r e) z)) is (subst (λ (es : List Entry). IsJournal w.version w.opening w.faults r es) (sym (mine w r e there)) (journal_grows (replica_in w r) taken e k (h.journal r lt) a))
    | inr ne ↦ subst (λ (es : List Entry). IsJournal w.version w.opening w.faults q es) (sym (with_other w.entries r q e ne)) (h.journal q less)
  ];
  others = λ q ge. with_other w.entries r q e (λ is. omega arith) ∙ h.others q ge;
}

-- what a world keeps to, it keeps to with what one of its replicas takes
pub goes_on : (w : Played) (r : ℕ) (taken : Happening) (e : Entry) (k : Kept) (h : IsWorld w) → r < size w.faults → Applied (replica_in w r) taken e k → IsAmong (frames_of h.schedule) (event_of taken) → IsWorld (grown w r e)
goes_on w r taken e k h lt a among =
    let there : r < length w.entries = (let n = h.journals.count in omega arith) in
    record {
      schedule = h.schedule ++ (act r e ∷ []);
      shows = shows_more w h.schedule r taken e k lt there h.shows a among;
      journals = journals_more w r taken e k lt there h.journals a;
      clocked = each w r e there (λ q es. AreClocked w.opening.base_stamp (entries_of es)) h.clocked (λ c. clock_grows (replica_in w r) taken e k c a);
    }

-- The frames of an entry: their places, and how many there are.

count_frames : (bs : List (List ℕ)) → length (frames_at bs) ≡ length bs
count_frames [] = refl
count_frames (b ∷ bs) = ap suc (count_frames bs)

count_messages : (ms : List Frame) → length (messages_of ms) ≡ length ms
count_messages [] = refl
count_messages (m ∷ ms) = ap suc (count_messages ms)

places_line : (r : ℕ) (e : rules.Entry) (k : ℕ) (ms : List Frame) → AreMarked e k ms → ((m : Frame) → In m ms → m.sent.from ≡ r) → places_up_to r e.number k ++ places_of ms ≡ places_up_to r e.number (k + length ms)
places_line r e k [] h from = append-nil (places_up_to r e.number k) ∙ ap (places_up_to r e.number) (let q : k ≡ k + 0 = omega arith in q)
places_line r e k (m ∷ ms) h from =
    let this : Place = record { replica = r; entry = e.number; out = k } in
    let same : record { replica = m.sent.from; entry = m.entry; out = m.place } ≡ this = (λ t. record { replica = from m (inl refl) t; entry = h.0 t; out = h.1 t }) in
    let count : suc k + length ms ≡ k + suc (length ms) = omega arith in
    ap (λ (p : Place). places_up_to r e.number k ++ (p ∷ places_of ms)) same ∙ sym (append_assoc (places_up_to r e.number k) (this ∷ []) (places_of ms))
    ∙ places_line r e (suc k) ms h.3 (λ x i. from x (inr i)) ∙ ap (places_up_to r e.number) count

pub places_are : (f r : ℕ) (s : State) (e : Entry) → IsEntry f r s (entry_of e) → AreMarked (entry_of e) 0 (entry_of e).out → places_of (frames_at e.frames) ≡ places_up_to r e.number (length e.frames)
places_are f r s e step marked =
    let count : 0 + length (frames_at e.frames) ≡ length e.frames = (let q = count_frames e.frames in omega arith) in
    places_line r (entry_of e) 0 (frames_at e.frames) marked (λ m i. from_entry f r s (entry_of e) m step i) ∙ ap (places_up_to r e.number) count

pub few_frames : (f r : ℕ) (s : State) (e : Entry) → IsEntry f r s (entry_of e) → length e.frames ≤ size f + 1
few_frames f r s e step =
    let few : length (sends f r s (event_of e.event)) ≤ size f = sends_few f r s (event_of e.event) in
    let count : length (messages_of (frames_at e.frames)) ≡ length (sends f r s (event_of e.event)) = ap length step.sent in
    let ms : length (messages_of (frames_at e.frames)) ≡ length (frames_at e.frames) = count_messages (frames_at e.frames) in
    let bs : length (frames_at e.frames) ≡ length e.frames = count_frames e.frames in
    omega arith
