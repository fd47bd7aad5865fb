-- What a step proposes and executes has a place, where there are places up to one more than the highest number that is recorded.
use Rattle.std.proofs.Common.{◌≡◌, ◌≢◌, ℕ, ◌+◌, ◌<◌, ◌≤◌, Bool, true, false, cond, eqb, inl, inr, Option, Some, None, List, [], ◌∷◌, length, IfSome, refl, sym, ap, subst, ◌∙◌, true≢false, arith, slice_get}
use Rattle.std.specs.Prelude.{is_none}
use Rattle.std.proofs.lemmas.Bool.{cases_lt, eqb-true}
use Rattle.ep_base.specs.Instances.{instance_of, number_of, highest_number}
use Rattle.ep_base.specs.Messages.{instance_of_message}
use Rattle.ep_base.specs.Places.{Has}
use Rattle.ep_base.specs.Commands.{Command}
use Rattle.ep_base.specs.declared.decree.Decree.{Decree}
use Rattle.ep_base.specs.declared.reply.Answer.{Answer}
use Rattle.ep_base.proofs.Places.{Has-first}
use Rattle.ep_rules.specs.Cells.{committed_decree, record_or_fresh}
use Rattle.ep_rules.specs.Journals.{IsEntry}
use Rattle.ep_rules.specs.Maps.{get}
use Rattle.ep_rules.specs.Merging.{Takes}
use Rattle.ep_rules.specs.States.{State, committed_in, free_number, is_free}
use Rattle.ep_rules.specs.Steps.{Frame, Event, Propose, Handle, GiveUp, Recover, Execute, order_of}
use Rattle.ep_rules.specs.declared.record.Record.{Record}
use Rattle.ep_rules.proofs.Counting.{least_some, least_before}
use Rattle.ep_rules.proofs.JournalsExecutions.{step_known}
use Rattle.ep_rules.proofs.Merged.{at_in}
use Rattle.ep_rules.proofs.Named.{proposals_name_lem}
use Rattle.ep_rules.proofs.Places.{has_tail}
use Rattle.ep_journal.specs.Entries.{entry_of, frames_at}
use Rattle.ep_journal.specs.Events.{event_of}
use Rattle.ep_journal.specs.Leaving.{state_left}
use Rattle.ep_journal.specs.declared.entry.Entry.{Entry}
use Rattle.ep_journal.specs.declared.event.Event.{Event as Happening}
use Rattle.ep_journal.proofs.Highest.{none_above}
use Rattle.ep_replica.specs.Applied.{Applied}
use Rattle.ep_replica.specs.FirstExecutions.{HavePlaces}
use Rattle.ep_replica.specs.Kept.{Kept}
use Rattle.ep_replica.specs.Pending.{state_of}
use Rattle.ep_replica.specs.Receipts.{proposed_by}
use Rattle.ep_replica.specs.Slots.{HasPlace}
use Rattle.ep_replica.specs.declared.proposal.Proposal.{Proposal}

-- nothing is recorded of an instance with a greater number
abbrev pub IsTop : State → ℕ → Type 0
IsTop s h = (i : ℕ) (r : Record) → get s.records i ≡ Some r → number_of i ≤ h

pub top_read : (j k : Kept) (h : ℕ) → j.opening ≡ k.opening → j.faults ≡ k.faults → j.me ≡ k.me → j.entries ≡ k.entries → IsTop (state_of j) h → IsTop (state_of k) h
top_read j k h o f m e top = subst (λ (s : State). IsTop s h) (λ t. state_left (o t) (f t) (m t) (e t)) top

-- the least free number is at most one more
free_low : (s : State) (me n h : ℕ) → IsTop s h → h ≤ highest_number → free_number s.records me ≡ Some n → n ≤ h
unfolding free_number
free_low s me n h top small free = elim (cases_lt h n) [
  | inl past ↦ absurd (
      let low : n < highest_number = (least_some highest_number (is_free s.records me) n free).0 in
      let above : h < number_of (instance_of me (h + 1)) = omega (arith, past, low) in
      let open_ : is_free s.records me h ≡ true = ap is_none (none_above s.records h (instance_of me (h + 1)) top above) in
      true≢false (sym open_ ∙ least_before highest_number (is_free s.records me) n free h past))
  | inr le ↦ le
]

free_small : (s : State) (me n : ℕ) → free_number s.records me ≡ Some n → n < highest_number
unfolding free_number
free_small s me n free = (least_some highest_number (is_free s.records me) n free).0

-- what its first frame is about is what it takes
first_takes : (me number : ℕ) (ms : List Frame) (frame : Frame) (i taken client request seen : ℕ) (c : Command) (named : Option ℕ) → slice_get ms 0 ≡ Some frame → instance_of_message frame.sent.message ≡ taken
    → proposed_by (Propose client request c seen named) ms i ≢ None → i ≡ taken
first_takes me number [] frame i taken client request seen c named first about some = absurd (cc)
first_takes me number (m ∷ ms) frame i taken client request seen c named first about some = go (eqb (instance_of_message m.sent.message) i) refl
  where
    go : (b : Bool) → eqb (instance_of_message m.sent.message) i ≡ b → i ≡ taken
    go true test =
        let same : m ≡ frame = (let s : Some m ≡ Some frame = first in cc) in
        sym (eqb-true (instance_of_message m.sent.message) i test) ∙ ap (λ (x : Frame). instance_of_message x.sent.message) same ∙ about
    go false test = absurd (some (ap (λ b. cond b (Some (record { client = client; request = request; seen = seen })) None) test))

-- what the entry proposes has a number up to one more
proposed_low : (f me h : ℕ) (s : State) (e : Entry) (ev : Event) → event_of e.event ≡ ev → 0 < f → IsEntry f me s (entry_of e) → IsTop s h → h ≤ highest_number → (i : ℕ) → proposed_by ev (frames_at e.frames) i ≢ None → number_of i ≤ h + 1
proposed_low f me h s e (Propose client request c seen named) is some step top small i proposes =
    let t : Takes me s (entry_of e) = proposals_name_lem f me s (entry_of e) client request seen named c some is step in
    let about : instance_of_message (t.frame).sent.message ≡ instance_of me (t.number + 1) = t.about t.frame (at_in (frames_at e.frames) 0 t.frame t.first) in
    let this : i ≡ instance_of me (t.number + 1) = first_takes me t.number (frames_at e.frames) t.frame i (instance_of me (t.number + 1)) client request seen c named t.first about proposes in
    let low : t.number ≤ h = free_low s me t.number h top small t.free in
    let few : t.number < highest_number = free_small s me t.number t.free in
    subst (λ z. number_of z ≤ h + 1) (sym this) (omega (arith, low, few))
proposed_low f me h s e (Handle m) is some step top small i proposes = absurd (proposes refl)
proposed_low f me h s e (GiveUp j) is some step top small i proposes = absurd (proposes refl)
proposed_low f me h s e (Recover j) is some step top small i proposes = absurd (proposes refl)
proposed_low f me h s e (Execute root) is some step top small i proposes = absurd (proposes refl)

pub has_place : (k k' : Kept) (event : Happening) (e : Entry) (me h top : ℕ) (slots : List (Option Proposal)) → 0 < k.faults → Applied k event e k' → IsTop (state_of k) h → h ≤ highest_number → h + 1 ≤ top → top < length slots → HasPlace me e slots
has_place k k' event e me h top slots some a is small more room number limit proposes =
    let low : number_of (instance_of me number) ≤ h + 1 = proposed_low k.faults k.me h (state_of k) e (event_of e.event) refl some a.step is small (instance_of me number) proposes in
    omega (arith, low, limit, more, room)

-- what it executes is recorded
done_low : (k k' : Kept) (event : Happening) (e : Entry) (h : ℕ) → Applied k event e k' → IsTop (state_of k) h → (i : ℕ) → Has (order_of e.done) i → number_of i ≤ h
done_low k k' event e h a is i has = go (get (state_of k).records i) refl (step_known (state_of k) (event_of e.event) e.done i a.step.step.executes has)
  where
    go : (o : Option Record) → get (state_of k).records i ≡ o → (x : Decree) × (committed_in (state_of k).records i ≡ Some x) → number_of i ≤ h
    go None none known = absurd (let nothing : committed_in (state_of k).records i ≡ None = ap (λ z. committed_decree (record_or_fresh i z).vote) none in let z : None ≡ Some known.0 = sym nothing ∙ known.1 in cc)
    go (Some r) there known = is i r there

places_of : (me places h : ℕ) (ds : List (ℕ × Answer)) → ((i : ℕ) → Has (order_of ds) i → number_of i ≤ h) → h < places → HavePlaces me places ds
places_of me places h [] all less = tt
places_of me places h (d ∷ ds) all less = (λ own. (let low = all d.0 (Has-first d.0 (order_of ds)) in omega (arith, low, less)), places_of me places h ds (λ i k. all i (has_tail d.0 i (order_of ds) k)) less)

pub have_places : (k k' : Kept) (event : Happening) (e : Entry) (me h top places : ℕ) → Applied k event e k' → IsTop (state_of k) h → h + 1 ≤ top → top < places → HavePlaces me places e.done
have_places k k' event e me h top places a is more room = places_of me places h e.done (done_low k k' event e h a is) (omega (arith, more, room))

-- so does what it may commit
pub subject_place : (o : Option ℕ) (top places : ℕ) → IfSome o (λ i. number_of i ≤ top) → top < places → IfSome o (λ i. number_of i < places)
subject_place None top places h less = tt
subject_place (Some i) top places h less = omega (arith, h, less)
