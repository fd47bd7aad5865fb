-- Journals, clocks, what was asked and what a world plays with more entries; entries by their number.
use Rattle.std.proofs.Common.{◌≡◌, ℕ, zero, suc, ◌+◌, ◌<◌, max, length, Bool, true, false, cond, eqb, inl, inr, Some, List, [], ◌∷◌, ◌++◌, slice_get, refl, sym, ap, subst, ◌∙◌, arith, append-nil, append_assoc}
use Rattle.ep_rules.specs.States.{State, fresh_state}
use Rattle.ep_rules.specs.Steps.{Frame, Sent, leaves, sends}
use Rattle.ep_rules.specs.Worlds.{World, opening, In, moved, ends}
use Rattle.ep_rules.specs.Journals.{Entry, messages_of, of, IsEntry, AreSteps, left, AreMarked, AreNumbered, stamp_after, heard, AreClocked, asked_by, asked_in, Scheduled, act_of, acts_of, Plays, ArePlayed, frames_of}
use Rattle.ep_rules.specs.Merging.{AskedGrows, LocalRunsGrow, ClocksGrow, ClocksStayAbove, PlayedGrows, PlayedSends, OwnEntriesLeave, NumbersArePlaces}
use Rattle.ep_rules.proofs.Merged.{at_in, in_at}
use Rattle.ep_rules.proofs.Played.{messages_both}
use Rattle.ep_rules.proofs.JournalsCommitted.{ends_left, of_both}

pub steps_grow : (f me : ℕ) (s : State) (es : List Entry) (e : Entry) → AreSteps f me s es → IsEntry f me (left f me s es) e → AreSteps f me s (es ++ (e ∷ []))
steps_grow f me s [] e h k = (k, tt)
steps_grow f me s (x ∷ es) e h k = (h.0, steps_grow f me (leaves f me s x.event x.done) es e h.1 k)

pub left_grows : (f me : ℕ) (s : State) (es : List Entry) (e : Entry) → left f me s (es ++ (e ∷ [])) ≡ leaves f me (left f me s es) e.event e.done
left_grows f me s [] e = refl
left_grows f me s (x ∷ es) e = left_grows f me (leaves f me s x.event x.done) es e

pub numbered_grow : (n last : ℕ) (es : List Entry) (e : Entry) → AreNumbered n last es → e.number ≡ n + length es → stamp_after last es < e.stamp → AreMarked e 0 e.out → AreNumbered n last (es ++ (e ∷ []))
numbered_grow n last [] e h number stamp marked = (omega arith, stamp, marked, tt)
numbered_grow n last (x ∷ es) e h number stamp marked = (h.0, h.1, h.2, numbered_grow (suc n) x.stamp es e h.3 (omega arith) stamp marked)

pub clocked_grow : (last : ℕ) (es : List Entry) (e : Entry) → AreClocked last es → e.stamp ≡ 1 + max (stamp_after last es) (heard e.event) → AreClocked last (es ++ (e ∷ []))
clocked_grow last [] e h is = (is, tt)
clocked_grow last (x ∷ es) e h is = (h.0, clocked_grow x.stamp es e h.1 is)

played_on : (f : ℕ) (w : World) (frames : List Frame) (these : List Scheduled) (a : Scheduled) → ArePlayed f w frames these → Plays f (ends f w (acts_of these)) (frames ++ frames_of these) a → ArePlayed f w frames (these ++ (a ∷ []))
played_on f w frames [] a h k = (subst (λ fs. Plays f w fs a) (append-nil frames) k, tt)
played_on f w frames (b ∷ these) a h k =
    (h.0, played_on f (moved f w (act_of b)) (frames ++ b.entry.out) these a h.1 (subst (λ fs. Plays f (ends f w (acts_of (b ∷ these))) fs a) (sym (append_assoc frames b.entry.out (frames_of these))) k))

-- entries by number
number_at : (n last : ℕ) (es : List Entry) (k : ℕ) (e : Entry) → AreNumbered n last es → slice_get es k ≡ Some e → e.number ≡ n + k
number_at n last [] k e h is = absurd (cc)
number_at n last (x ∷ es) zero e h is = let same : x ≡ e = (let s : Some x ≡ Some e = is in cc) in subst (λ z. z.number ≡ n + 0) same (let q = h.0 in omega arith)
number_at n last (x ∷ es) (suc k) e h is = let q = number_at (suc n) x.stamp es k e h.3 is in omega arith

at_number : (es : List Entry) (k : ℕ) (e : Entry) → AreNumbered 1 0 es → In e es → e.number ≡ k + 1 → slice_get es k ≡ Some e
at_number es k e h there is =
    let t = in_at es e there in
    let q : t.0 ≡ k = (let m = number_at 1 0 es t.0 e h t.1 in omega arith) in
    subst (λ j. slice_get es j ≡ Some e) q t.1

pub local_runs_grow_lem : LocalRunsGrow
local_runs_grow_lem base f me es e h k number stamp marked = (numbered_grow 1 0 es e h.0 (omega arith) stamp marked, steps_grow f me (fresh_state base) es e h.1 k)

pub clocks_grow_lem : ClocksGrow
clocks_grow_lem base_stamp es e h is = clocked_grow base_stamp es e h is

pub clocks_stay_above_lem : ClocksStayAbove
clocks_stay_above_lem base_stamp [] e h m = absurd m
clocks_stay_above_lem base_stamp (x ∷ es) e h (inl is) = subst (λ (d : Entry). base_stamp < d.stamp) is (let t = h.0 in omega arith)
clocks_stay_above_lem base_stamp (x ∷ es) e h (inr m) = let r = clocks_stay_above_lem x.stamp es e h.1 m in let t = h.0 in omega arith

pub asked_grows_lem : AskedGrows
asked_grows_lem [] more = refl
asked_grows_lem (e ∷ es) more = ap (λ l. asked_by e.event ++ l) (asked_grows_lem es more) ∙ sym (append_assoc (asked_by e.event) (asked_in es) (asked_in more))

pub played_grows_lem : PlayedGrows
played_grows_lem base f schedule a h k = played_on f (opening base) [] schedule a h k

pub numbers_are_places_lem : NumbersArePlaces
numbers_are_places_lem es h k e = ((λ is. (at_in es k e is, (let q = number_at 1 0 es k e h is in omega arith))), λ t. at_number es k e h t.0 t.1)

-- what a schedule with one act more has of each replica, and sends
pub of_grows : (r : ℕ) (these : List Scheduled) (a : Scheduled) → of r (these ++ (a ∷ [])) ≡ cond (eqb a.replica r) (of r these ++ (a.entry ∷ [])) (of r these)
of_grows r these a = of_both r these (a ∷ []) ∙ go (eqb a.replica r)
  where
    go : (b : Bool) → of r these ++ cond b (a.entry ∷ []) [] ≡ cond b (of r these ++ (a.entry ∷ [])) (of r these)
    go true = refl
    go false = append-nil (of r these)

pub frames_grow : (these : List Scheduled) (a : Scheduled) → frames_of (these ++ (a ∷ [])) ≡ frames_of these ++ a.entry.out
frames_grow [] a = append-nil a.entry.out
frames_grow (b ∷ these) a = ap (λ ms. b.entry.out ++ ms) (frames_grow these a) ∙ sym (append_assoc b.entry.out (frames_of these) a.entry.out)

played_sent : (f : ℕ) (these : List Scheduled) (w : World) (frames : List Frame) → messages_of frames ≡ w.sent → ArePlayed f w frames these → messages_of (frames ++ frames_of these) ≡ (ends f w (acts_of these)).sent
played_sent f [] w frames is h = ap messages_of (append-nil frames) ∙ is
played_sent f (a ∷ these) w frames is h =
    let now : List Sent = sends f a.replica (w.states a.replica) a.entry.event in
    let next : messages_of (frames ++ a.entry.out) ≡ w.sent ++ now = messages_both f frames a.entry.out ∙ ap (λ s. messages_of frames ++ s) h.0.entry.sent ∙ ap (λ s. s ++ now) is in
    ap messages_of (sym (append_assoc frames a.entry.out (frames_of these))) ∙ played_sent f these (moved f w (act_of a)) (frames ++ a.entry.out) next h.1

pub played_sends_lem : PlayedSends
played_sends_lem base f schedule h = played_sent f schedule (opening base) [] refl h

pub own_entries_leave_lem : OwnEntriesLeave
own_entries_leave_lem base f schedule r = ends_left f r schedule (opening base)
