-- What a world plays is a run, whose journals match; a frame out of an entry of a local run was sent.
use Rattle.std.proofs.Common.{◌≡◌, ℕ, suc, ◌+◌, ◌<◌, ◌≤◌, Bool, true, false, cond, eqb, inl, inr, Some, List, [], ◌∷◌, ◌++◌, slice_get, refl, sym, ap, subst, ◌∙◌, arith}
use Rattle.std.proofs.lemmas.Bool.{eqb-true, ne_eqb}
use Rattle.std.specs.Prelude.{Ok, Err, Result}
use Rattle.ep_base.specs.Quorums.{size}
use Rattle.ep_base.specs.declared.message.Message.{Message}
use Rattle.ep_rules.specs.Cells.{Change, Refusal}
use Rattle.ep_rules.specs.States.{State, fresh_state}
use Rattle.ep_rules.specs.Steps.{Frame, Event, Propose, Handle, GiveUp, Recover, Execute, Sent, acts, leaves, sent_from, sent_by, sends}
use Rattle.ep_rules.specs.Worlds.{World, opening, In, IsThere, moved, IsRun}
use Rattle.ep_rules.specs.Journals.{Entry, messages_of, IsEntry, AreSteps, AreMarked, AreNumbered, heard, AreClocked, AreLocalRuns, Scheduled, of, act_of, acts_of, IsAmong, ArePlayed}
use Rattle.ep_rules.specs.Merging.{FramesWereSent, PlayedIsARun, PlayedMatch}
use Rattle.ep_rules.proofs.Merged.{in_split, in_messages, of_in, in_of}

module _ (f : ℕ) where
  -- the frames' messages are the world's
  there : (w : World) (frames : List Frame) → messages_of frames ≡ w.sent → (e : Event) → IsAmong frames e → IsThere w.sent e
  there w frames is (Propose client request c seen spared) h = tt
  there w frames is (Handle m) h = subst (λ s. In m.sent s) is (in_messages m frames h)
  there w frames is (GiveUp i) h = tt
  there w frames is (Recover i) h = tt
  there w frames is (Execute root) h = tt

  pub messages_both : (xs ys : List Frame) → messages_of (xs ++ ys) ≡ messages_of xs ++ messages_of ys
  messages_both [] ys = refl
  messages_both (x ∷ xs) ys = ap (λ z. x.sent ∷ z) (messages_both xs ys)

  played_run : (these : List Scheduled) (w : World) (frames : List Frame) → messages_of frames ≡ w.sent → ArePlayed f w frames these → IsRun f w (acts_of these)
  played_run [] w frames is h = tt
  played_run (a ∷ these) w frames is h =
      let now : List Sent = sends f a.replica (w.states a.replica) a.entry.event in
      let next : messages_of (frames ++ a.entry.out) ≡ w.sent ++ now = messages_both frames a.entry.out ∙ ap (λ s. messages_of frames ++ s) h.0.entry.sent ∙ ap (λ s. s ++ now) is in
      (record { replica = h.0.replica; step = h.0.entry.step; there = there w frames is a.entry.event h.0.among }, played_run these (moved f w (act_of a)) (frames ++ a.entry.out) next h.1)

  -- each replica's acts are steps
  steps_of : (these : List Scheduled) (w : World) (frames : List Frame) → ArePlayed f w frames these → (r : ℕ) → AreSteps f r (w.states r) (of r these)
  steps_of [] w frames h r = tt
  steps_of (a ∷ these) w frames h r = go (eqb a.replica r) refl (steps_of these (moved f w (act_of a)) (frames ++ a.entry.out) h.1 r)
    where
      go : (b : Bool) → eqb a.replica r ≡ b → AreSteps f r (cond b (leaves f r (w.states r) a.entry.event a.entry.done) (w.states r)) (of r these) → AreSteps f r (w.states r) (cond b (a.entry ∷ of r these) (of r these))
      go true q k = (subst (λ z. IsEntry f z (w.states z) a.entry) (eqb-true a.replica r q) h.0.entry, k)
      go false q k = k

  -- none is of another one
  none_of : (these : List Scheduled) (w : World) (frames : List Frame) → ArePlayed f w frames these → (r : ℕ) → size f ≤ r → of r these ≡ []
  none_of [] w frames h r ge = refl
  none_of (a ∷ these) w frames h r ge =
      ap (λ b. cond b (a.entry ∷ of r these) (of r these)) (ne_eqb a.replica r (λ e. let lt = h.0.replica in omega arith)) ∙ none_of these (moved f w (act_of a)) (frames ++ a.entry.out) h.1 r ge

  -- a replica's frames are from it
  from_by : (r : ℕ) (out : List (ℕ × Message)) (s : Sent) → In s (sent_from r out) → s.from ≡ r
  from_by r [] s h = absurd h
  from_by r (e ∷ es) s (inl is) = sym (ap (λ z. z.from) is)
  from_by r (e ∷ es) s (inr h) = from_by r es s h

  from_acts : (r : ℕ) (o : Result (ℕ × Change) Refusal) (s : Sent) → In s (sent_by r o) → s.from ≡ r
  from_acts r (Ok p) s h = from_by r p.1.out s h
  from_acts r (Err e) s h = absurd h

  pub from_entry : (r : ℕ) (s : State) (e : Entry) (m : Frame) → IsEntry f r s e → In m e.out → m.sent.from ≡ r
  from_entry r s e m h k = from_acts r (acts f r s e.event) m.sent (subst (λ z. In m.sent z) h.sent (in_messages m e.out k))

  -- a frame that is among those sent was sent by an act
  pub record Sender (all : List Scheduled) (m : Frame) : Type 0 where
    pub act : Scheduled
    pub stands : In act all
    pub out : In m act.entry.out
    pub from : m.sent.from ≡ act.replica

  senders : (all : List Scheduled) (frames : List Frame) → ((m : Frame) → In m frames → Sender all m) → (w : World) (a : Scheduled) → In a all → IsEntry f a.replica (w.states a.replica) a.entry →
      (m : Frame) → In m (frames ++ a.entry.out) → Sender all m
  senders all frames old w a stands step m h = elim (in_split m frames a.entry.out h) [
    | inl k ↦ old m k
    | inr k ↦ record { act = a; stands = stands; out = k; from = from_entry a.replica (w.states a.replica) a.entry m step k }
  ]

  sender_of : (all these : List Scheduled) (w : World) (frames : List Frame) → ((b : Scheduled) → In b these → In b all) → ((m : Frame) → In m frames → Sender all m) → ArePlayed f w frames these →
      (a : Scheduled) (m : Frame) → In a these → a.entry.event ≡ Handle m → Sender all m
  sender_of all [] w frames sub old h a m k e = absurd k
  sender_of all (b ∷ these) w frames sub old h a m (inl is) e = old m (subst (λ v. IsAmong frames v) (ap (λ (z : Scheduled). z.entry.event) is ∙ e) h.0.among)
  sender_of all (b ∷ these) w frames sub old h a m (inr k) e =
      sender_of all these (moved f w (act_of b)) (frames ++ b.entry.out) (λ c j. sub c (inr j)) (senders all frames old w b (sub b (inl refl)) h.0.entry) h.1 a m k e

-- what a frame of an entry is marked with
pub record Marked (e : Entry) (k : ℕ) (ms : List Frame) (m : Frame) : Type 0 where
  pub number : m.entry ≡ e.number
  pub stamp : m.stamp ≡ e.stamp
  pub after : ℕ
  pub place : m.place ≡ k + after
  pub frame : slice_get ms after ≡ Some m

marked : (e : Entry) (k : ℕ) (ms : List Frame) (m : Frame) → AreMarked e k ms → In m ms → Marked e k ms m
marked e k [] m a h = absurd h
marked e k (x ∷ ms) m a (inl is) = record { number = subst (λ z. z.entry ≡ e.number) is a.0; stamp = subst (λ z. z.stamp ≡ e.stamp) is a.2; after = 0; place = subst (λ z. z.place ≡ k) is a.1 ∙ omega arith; frame = ap Some is }
marked e k (x ∷ ms) m a (inr h) = let t = marked e (suc k) ms m a.3 h in record { number = t.number; stamp = t.stamp; after = suc t.after; place = (let p = t.place in omega arith); frame = t.frame }

at_place : (ms : List Frame) (m : Frame) (k p : ℕ) → k ≡ p → slice_get ms k ≡ Some m → slice_get ms p ≡ Some m
at_place ms m k p is e = subst (λ q. slice_get ms q ≡ Some m) is e

numbered_marks : (n last : ℕ) (es : List Entry) (e : Entry) → AreNumbered n last es → In e es → AreMarked e 0 e.out
numbered_marks n last [] e a h = absurd h
numbered_marks n last (x ∷ es) e a (inl is) = subst (λ z. AreMarked z 0 z.out) is a.2
numbered_marks n last (x ∷ es) e a (inr h) = numbered_marks (suc n) x.stamp es e a.3 h

pub clocked_later : (last : ℕ) (es : List Entry) (e : Entry) → AreClocked last es → In e es → heard e.event < e.stamp
clocked_later last [] e a h = absurd h
clocked_later last (x ∷ es) e a (inl is) = subst (λ z. heard z.event < z.stamp) is (let t = a.0 in omega arith)
clocked_later last (x ∷ es) e a (inr h) = clocked_later x.stamp es e a.1 h

-- each entry of a local run is a step from some state
step_of : (f r : ℕ) (s : State) (es : List Entry) (e : Entry) → AreSteps f r s es → In e es → (t : State) × IsEntry f r t e
step_of f r s [] e a h = absurd h
step_of f r s (x ∷ es) e a (inl is) = (s, subst (λ z. IsEntry f r s z) is a.0)
step_of f r s (x ∷ es) e a (inr h) = step_of f r (leaves f r s x.event x.done) es e a.1 h

pub frames_were_sent_lem : FramesWereSent
frames_were_sent_lem base f journal r e m run stands out =
    let step = step_of f r (fresh_state base) (journal r) e run.1 stands in
    let from : m.sent.from ≡ r = from_entry f r step.0 e m step.1 out in
    let t = marked e 0 e.out m (numbered_marks 1 0 (journal r) e run.0 stands) out in
    let p : t.after ≡ m.place = (let q = t.place in omega arith) in
    let there = at_place e.out m t.after m.place p t.frame in (
      record { sender = from; number = t.number; stamp = t.stamp; place = there },
      record { entry = e; stands = subst (λ q. In e (journal q)) (sym from) stands; number = sym t.number; frame = there },
    )

pub played_is_a_run_lem : PlayedIsARun
played_is_a_run_lem base f these h = played_run f these (opening base) [] refl h

pub played_match_lem : PlayedMatch
played_match_lem base base_stamp f journal these h own numbered clocked =
    let local : AreLocalRuns base f journal = record {
      local = λ r. (numbered r, subst (λ es. AreSteps f r (fresh_state base) es) (own r) (steps_of f these (opening base) [] h r));
      others = λ r ge. sym (own r) ∙ none_of f these (opening base) [] h r ge;
    } in (
      local,
      λ r e m stands is.
          let at = of_in r e these (subst (λ es. In e es) (sym (own r)) stands) in
          let s = sender_of f these these (opening base) [] (λ b k. k) (λ z k. absurd k) h at.0 m at.1 (ap (λ (z : Entry). z.event) at.3 ∙ is) in
          let home : In s.act.entry (journal s.act.replica) = subst (λ es. In s.act.entry es) (own s.act.replica) (in_of s.act these s.stands) in (
            (frames_were_sent_lem base f journal s.act.replica s.act.entry m (local.local s.act.replica) home s.out).1,
            subst (λ v. heard v < e.stamp) is (clocked_later (base_stamp r) (journal r) e (clocked r) stands),
          ),
    )
