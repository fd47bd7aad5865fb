-- Runs with crashes are runs without.
use Rattle.std.proofs.Common.{◌≡◌, ℕ, ◌<◌, ◌≤◌, Bool, true, false, cond, eqb, inl, inr, List, [], ◌∷◌, refl, sym, ap, subst, ◌∙◌}
use Rattle.std.proofs.lemmas.Bool.{eq-eqb}
use Rattle.ep_base.specs.Quorums.{size}
use Rattle.ep_rules.specs.Journals.{Entry, AreSteps, left, AreLocalRuns, WasSent, IsMatched, Scheduled, of, IsSchedule, act_of, acts_of}
use Rattle.ep_rules.specs.States.{fresh_state}
use Rattle.ep_rules.specs.Steps.{Sent, Frame, Handle, leaves, sends}
use Rattle.ep_rules.specs.Worlds.{World, opening, In, moved, ends}
use Rattle.ep_rules.proofs.JournalsGrow.{own_entries_leave_lem}
use Rattle.ep_rules.proofs.Merged.{in_left, in_right, in_messages, at_in, of_in, merged_is_a_run_lem}
use Rattle.ep_rules.proofs.OwnReceipts.{clocked_match_lem, clocked_accepted_lem}
use Rattle.ep_rules.proofs.Played.{frames_were_sent_lem}
use Rattle.ep_rules.proofs.Sorted.{some_schedule_lem}
use Rattle.ep_node.specs.Crashes.{Start, Cluster, fresh_cluster, cluster_after, handed_out, IsOneRun, CrashingRunsAreRuns}
use Rattle.ep_node.proofs.CrashMoves.{Holds, fresh_holds, moves_hold, take_begins, in_begins}
use Rattle.ep_rules.specs.OneMap.{opened}

-- What entries sent, their world has sent.

module _ (f : ℕ) where
  sent_stays : (these : List Scheduled) (w : World) (s : Sent) → In s w.sent → In s (ends f w (acts_of these)).sent
  sent_stays [] w s h = h
  sent_stays (a ∷ these) w s h = sent_stays these (moved f w (act_of a)) s (in_left s w.sent (sends f a.replica (w.states a.replica) a.entry.event) h)

  pub steps_next : (w : World) (a : Scheduled) (these : List Scheduled) (r : ℕ) → AreSteps f r (w.states r) (of r (a ∷ these)) → AreSteps f r ((moved f w (act_of a)).states r) (of r these)
  steps_next w a these r h = go (eqb a.replica r) h
    where
      go : (b : Bool) → AreSteps f r (w.states r) (cond b (a.entry ∷ of r these) (of r these)) → AreSteps f r (cond b (leaves f r (w.states r) a.entry.event a.entry.done) (w.states r)) (of r these)
      go true k = k.1
      go false k = k

  sent_of : (these : List Scheduled) (w : World) → ((r : ℕ) → AreSteps f r (w.states r) (of r these)) → (b : Scheduled) (m : Frame) → In b these → In m b.entry.out → In m.sent (ends f w (acts_of these)).sent
  sent_of [] w steps b m h out = absurd h
  sent_of (a ∷ these) w steps b m (inl is) out =
      let now : List Sent = sends f a.replica (w.states a.replica) a.entry.event in
      let mine : AreSteps f a.replica (w.states a.replica) (a.entry ∷ of a.replica these) = subst (λ t. AreSteps f a.replica (w.states a.replica) (cond t (a.entry ∷ of a.replica these) (of a.replica these))) (eq-eqb a.replica a.replica refl) (steps a.replica) in
      let there : In m.sent now = subst (λ ms. In m.sent ms) mine.0.sent (in_messages m a.entry.out (subst (λ (z : Scheduled). In m z.entry.out) (sym is) out)) in
      sent_stays these (moved f w (act_of a)) m.sent (in_right m.sent w.sent now there)
  sent_of (a ∷ these) w steps b m (inr h) out = sent_of these (moved f w (act_of a)) (λ r. steps_next w a these r (steps r)) b m h out

-- One cluster of which this holds.

module _ (start : Start) (f : ℕ) (some : 0 < f) (few : size f ≤ 256) (c : Cluster) (h : Holds start f c) where
  local_runs : AreLocalRuns (opened start.map) f c.journal
  local_runs = record { local = h.local; others = h.others }

  given_sent : (m : Frame) → In m c.given → WasSent c.journal m
  given_sent m k =
      let o = h.given m k in
      let stands : In o.entry (c.journal o.node) = in_begins o.entry (handed_out c o.node) (c.journal o.node) (take_begins (c.out o.node) (c.journal o.node)) o.stands in
      (frames_were_sent_lem (opened start.map) f c.journal o.node o.entry m (h.local o.node) stands o.out).1

  handled_sent : (r : ℕ) (e : Entry) (m : Frame) → In e (c.journal r) → e.event ≡ Handle m → WasSent c.journal m
  handled_sent r e m stands is = given_sent m (h.handled r e m stands is)

  matched : IsMatched c.journal
  matched = clocked_match_lem start.base_stamp c.journal h.clocked handled_sent

  -- what stands in the journals, the world has sent
  sent_in : (schedule : List Scheduled) → IsSchedule c.journal schedule → (m : Frame) → WasSent c.journal m → In m.sent (ends f (opening (opened start.map)) (acts_of schedule)).sent
  sent_in schedule is m was =
      let from = of_in m.sent.from was.entry schedule (subst (λ es. In was.entry es) (sym (is.0 m.sent.from)) was.stands) in
      sent_of f schedule (opening (opened start.map)) (λ r. subst (λ es. AreSteps f r (fresh_state (opened start.map)) es) (sym (is.0 r)) (h.local r).1) from.0 m from.1
      (subst (λ (z : Entry). In m z.out) (sym from.3) (at_in was.entry.out m.place m was.frame))

  pub one_run : IsOneRun start f c
  one_run =
      let found = some_schedule_lem (size f) c.journal h.others (λ r. (h.local r).0) in
      let schedule : List Scheduled = found.0 in
      let is : IsSchedule c.journal schedule = found.1 in
      record {
        schedule = schedule;
        merges = record { some = some; few = few; local = local_runs; matched = matched; scheduled = is };
        run = merged_is_a_run_lem (opened start.map) f c.journal schedule local_runs matched is;
        states = λ r. own_entries_leave_lem (opened start.map) f schedule r ∙ ap (λ es. left f r (fresh_state (opened start.map)) es) (is.0 r);
        within = h.within;
        given = λ m k. (given_sent m k, sent_in schedule is m (given_sent m k));
        clocked = h.clocked;
        accepted = clocked_accepted_lem (opened start.map) start.base_stamp f c.journal h.clocked handled_sent;
      }

pub crashing_runs_are_runs_lem : CrashingRunsAreRuns
crashing_runs_are_runs_lem start f some few moves k = one_run start f some few (cluster_after fresh_cluster moves) (moves_hold start f fresh_cluster moves (fresh_holds start f) k)
