-- What holds of a world: it is a run, and its journals match.
use Rattle.std.proofs.Common.{◌≡◌, ◌≢◌, ℕ, ◌+◌, ◌<◌, ◌≤◌, List, [], ◌∷◌, ◌++◌, Some, Result, Ok, Err, OnOk, IfErr, length, get_or, take, inl, inr, refl, sym, ap, subst, ◌∙◌, arith}
use Rattle.std.proofs.lemmas.Bool.{cases_eq}
use Rattle.std.proofs.lemmas.List.{take_more, take_all}
use Rattle.std.proofs.lemmas.Option.{slice_get-get_or}
use Rattle.ep_base.specs.Quorums.{size}
use Rattle.ep_rules.specs.Audits.{IsAccepted}
use Rattle.ep_rules.specs.Journals as rules
use Rattle.ep_rules.specs.Journals.{Scheduled, AreLocalRuns, IsMatched, IsSchedule, acts_of, left}
use Rattle.ep_rules.specs.Merging.{Merges}
use Rattle.ep_rules.specs.States.{fresh_state, committed_in}
use Rattle.ep_rules.specs.Verdicts.{AreOwn}
use Rattle.ep_rules.specs.declared.receipt.Receipt.{Receipt}
use Rattle.ep_rules.proofs.JournalsCommitted.{journals_agree_lem, journals_propose_lem, journals_depend_lem}
use Rattle.ep_rules.proofs.JournalsGrow.{played_sends_lem}
use Rattle.ep_rules.proofs.JournalsKeep.{journals_keep_lem}
use Rattle.ep_rules.proofs.OneFault.{played_accepted_lem}
use Rattle.ep_rules.proofs.Played.{played_is_a_run_lem, played_match_lem}
use Rattle.ep_rules.proofs.RunsLinear.{linearizability_holds}
use Rattle.ep_rules.proofs.Sorted.{some_schedule_lem}
use Rattle.ep_journal.specs.Entries.{entry_of, entries_of}
use Rattle.ep_journal.specs.Openings.{Opening, opens}
use Rattle.ep_journal.specs.declared.entry.Entry.{Entry}
use Rattle.ep_journal.specs.declared.event.Event.{Event as Happening}
use Rattle.ep_replica.specs.Kept.{Kept}
use Rattle.ep_journal.proofs.Growing.{entries_grow}
use Rattle.ep_world.specs.Played.{Played, collected, journals_in, entries_in, IsPlayed, IsWorld}
use Rattle.ep_world.specs.Playing.{asked, Happens, Happen, Ends, IsNotEnabled}
use Rattle.ep_world.specs.Replicas.{world_of, Took}
use Rattle.ep_world.specs.Safe.{committed, Agree, Keeps, WereProposed, Depend, Linearizable}
use Rattle.ep_world.specs.declared.place.Place.{Place}
use Rattle.ep_journal.specs.declared.refusal.Refusal.{Refusal}
use Rattle.ep_world.specs.declared.refused.Refused.{Refused}
use Rattle.ep_world.specs.declared.world_event.WorldEvent.{WorldEvent}
use Rattle.ep_world.proofs.Grown.{with_other}
use Rattle.ep_world.proofs.Sent.{numbered_in}

pub is_played : (w : Played) → IsWorld w → IsPlayed w
is_played w h = record {
  schedule = h.schedule;
  shows = h.shows;
  run = played_is_a_run_lem (opens w.opening) w.faults h.schedule h.shows.played;
  sent = played_sends_lem (opens w.opening) w.faults h.schedule h.shows.played;
}

pub accepted : (w : Played) → IsWorld w → (receipts : List Receipt) → AreOwn (opens w.opening) w.faults (journals_in w) receipts → IsAccepted (opens w.opening) w.faults (journals_in w) receipts
accepted w h receipts own = played_accepted_lem (opens w.opening) (λ _. w.opening.base_stamp) w.faults (journals_in w) h.schedule h.shows.played h.shows.journals (λ r. numbered_in (collected w) r h.journals) h.clocked receipts own

-- the journals are one run
pub merges : (w : Played) → IsWorld w → 1 ≤ w.faults → w.faults ≤ 3 → (schedule : List Scheduled) × Merges (opens w.opening) w.faults (journals_in w) schedule
merges w h some few =
    let m = played_match_lem (opens w.opening) (λ _. w.opening.base_stamp) w.faults (journals_in w) h.schedule h.shows.played h.shows.journals (λ r. numbered_in (collected w) r h.journals) h.clocked in
    let s = some_schedule_lem (size w.faults) (journals_in w) m.0.others (λ r. numbered_in (collected w) r h.journals) in
    (s.0, record { some = omega arith; few = omega arith; local = m.0; matched = m.1; scheduled = s.1 })

pub agree : (w : Played) → IsWorld w → 1 ≤ w.faults → w.faults ≤ 3 → Agree w
agree w h some few i r q x y = let m = merges w h some few in journals_agree_lem (opens w.opening) w.faults (journals_in w) m.0 m.1 i r q x y

pub were_proposed : (w : Played) → IsWorld w → 1 ≤ w.faults → w.faults ≤ 3 → WereProposed w
were_proposed w h some few r i x = let m = merges w h some few in journals_propose_lem (opens w.opening) w.faults (journals_in w) m.0 m.1 r i x

pub depend : (w : Played) → IsWorld w → 1 ≤ w.faults → w.faults ≤ 3 → Depend w
depend w h some few i j r q x y = let m = merges w h some few in journals_depend_lem (opens w.opening) w.faults (journals_in w) m.0 m.1 i j r q x y

pub linearizable : (w : Played) → IsWorld w → 1 ≤ w.faults → w.faults ≤ 3 → Linearizable w
linearizable w h some few = record {
  schedule = h.schedule;
  shows = h.shows;
  run = linearizability_holds (opens w.opening) w.faults (omega arith) (omega arith) (acts_of h.schedule) (played_is_a_run_lem (opens w.opening) w.faults h.schedule h.shows.played);
}

-- What is committed stays so, event by event.

longer : (w w' : Played) (event : WorldEvent) (h : Happens w event w') → entries_in w' h.replica ≡ entries_in w h.replica ++ h.entry ∷ []
longer w w' event h = ap (λ (k : Kept). k.entries) h.applied.appended

other : (w w' : Played) (event : WorldEvent) (h : Happens w event w') (r : ℕ) → h.replica ≢ r → entries_in w' r ≡ entries_in w r
other w w' event h r ne = ap (λ (v : Played). entries_in v r) h.becomes ∙ with_other w.entries h.replica r h.entry ne

pub keeps_one : (w w' : Played) (event : WorldEvent) → Happens w event w' → Keeps w w'
keeps_one w w' event h i r x is =
    let faults : w'.faults ≡ w.faults = ap (λ (v : Played). v.faults) h.becomes in
    let opening : w'.opening ≡ w.opening = ap (λ (v : Played). v.opening) h.becomes in
    subst (λ (o : Opening). committed_in (left w'.faults r (fresh_state (opens o)) (journals_in w' r)).records i ≡ Some x) (sym opening) (subst (λ f. committed_in (left f r (fresh_state (opens w.opening)) (journals_in w' r)).records i ≡ Some x) (sym faults) (elim (cases_eq h.replica r) [
      | inl same ↦ (
          let more : entries_in w' r ≡ entries_in w r ++ h.entry ∷ [] = subst (λ q. entries_in w' q ≡ entries_in w q ++ h.entry ∷ []) same (longer w w' event h) in
          let journal : journals_in w' r ≡ journals_in w r ++ entry_of h.entry ∷ [] = ap entries_of more ∙ entries_grow (entries_in w r) h.entry in
          subst (λ (es : List rules.Entry). committed_in (left w.faults r (fresh_state (opens w.opening)) es).records i ≡ Some x) (sym journal) (journals_keep_lem (opens w.opening) w.faults r (journals_in w r) (entry_of h.entry ∷ []) i x is))
      | inr ne ↦ subst (λ (es : List Entry). committed_in (left w.faults r (fresh_state (opens w.opening)) (entries_of es)).records i ≡ Some x) (sym (other w w' event h r ne)) is
    ]))

pub keeps_took : (w w' : Played) (event : WorldEvent) (r : ℕ) (taken : Happening) → asked w event ≡ Some (r, taken) → Took w r taken w' → Keeps w w'
keeps_took w w' event r taken is t = keeps_one w w' event (record { replica = r; taken = taken; entry = t.entry; asked = is; there = t.there; applied = t.applied; becomes = t.becomes })

pub keeps_same : (f : ℕ) (ks js : List Kept) (steps other_steps : List (ℕ × ℕ)) (messages others : List Place) → (js ≡ ks) × (other_steps ≡ steps) × (others ≡ messages) → Keeps (world_of f ks steps messages) (world_of f js other_steps others)
keeps_same f ks js steps other_steps messages others is i r x h = subst (λ (w : Played). committed w r i ≡ Some x) (λ t. world_of f (sym is.0 t) (sym is.1 t) (sym is.2 t)) h

keeps_all : (w : Played) (events : List WorldEvent) (w' : Played) → Happen w events w' → Keeps w w'
keeps_all w [] w' h i r x is = subst (λ (v : Played). committed v r i ≡ Some x) (sym h) is
keeps_all w (event ∷ events) w' h i r x is = keeps_all h.0 events w' h.2 i r x (keeps_one w h.0 event h.1 i r x is)

-- whatever was answered
pub keeps : (w : Played) (events : List WorldEvent) (w' : Played) (answer : Result (Unit {0}) Refused) → OnOk answer (Happen w events w') → IfErr answer (λ refused. Ends w events refused w') → Keeps w w'
keeps w events w' (Ok u) h refused = keeps_all w events w' h
keeps w events w' (Err refused) h e = keeps_all w (take refused.index events) w' e.before

-- Events one after another.

pub happen_more : (w v w' : Played) (events : List WorldEvent) (i n : ℕ) (event d : WorldEvent) → n ≡ i + 1 → i < length events → event ≡ get_or events i d → Happen w (take i events) v → Happens v event w' → Happen w (take n events) w'
happen_more w v w' events i n event d next less is h one = subst (λ (xs : List WorldEvent). Happen w xs w') (sym (ap (λ k. take k events) next ∙ take_more events i d less ∙ ap (λ (x : WorldEvent). take i events ++ x ∷ []) (sym is))) (go w (take i events) h)
  where
    go : (u : Played) (xs : List WorldEvent) → Happen u xs v → Happen u (xs ++ event ∷ []) w'
    go u [] same = (w', subst (λ (z : Played). Happens z event w') same one, refl)
    go u (x ∷ xs) k = (k.0, k.1, go k.0 xs k.2)

pub happened : (w w' : Played) (events : List WorldEvent) (i : ℕ) → length events ≤ i → Happen w (take i events) w' → Happen w events w'
happened w w' events i all h = subst (λ (xs : List WorldEvent). Happen w xs w') (take_all i events all) h

pub ends_at : (w v w' : Played) (events : List WorldEvent) (i : ℕ) (event d : WorldEvent) (cause : Refusal) → i < length events → event ≡ get_or events i d → w' ≡ v → Happen w (take i events) v → IsNotEnabled v event cause →
    Ends w events (record { index = i; cause = cause }) w'
ends_at w v w' events i event d cause less is same h why = record {
  event = event;
  stands = slice_get-get_or events i d less ∙ ap Some (sym is);
  before = subst (λ (z : Played). Happen w (take i events) z) (sym same) h;
  cause = subst (λ (z : Played). IsNotEnabled z event cause) (sym same) why;
}
