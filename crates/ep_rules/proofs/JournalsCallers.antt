-- Each caller's order is kept.
use Rattle.std.proofs.Common.{◌≡◌, ℕ, ◌<◌, Bool, true, false, cond, inl, inr, Some, None, List, [], ◌∷◌, ◌++◌, refl, sym, ap, subst, ◌∙◌, arith}
use Rattle.std.proofs.lemmas.Bool.{false≢true}
use Rattle.ep_base.specs.Instances.{leader_of}
use Rattle.ep_base.specs.Sameness.{is_noop}
use Rattle.ep_base.specs.Commands.{Command}
use Rattle.ep_base.specs.declared.decree.Decree.{Decree}
use Rattle.ep_base.specs.declared.reply.Answer.{Answer}
use Rattle.ep_base.specs.Places.{place, Has}
use Rattle.ep_rules.specs.History.{Execution, IsExecutedIn, history}
use Rattle.ep_rules.specs.Maps.{get}
use Rattle.ep_rules.specs.States.{State, fresh_state, command_of}
use Rattle.ep_rules.specs.Steps.{Event, Propose, Handle, GiveUp, Recover, Execute, order_of, Executes}
use Rattle.ep_rules.specs.Worlds.{World, opening, Act, In, moved, IsRun, ends, Committed}
use Rattle.ep_rules.specs.Journals.{Entry, left, Journals, Scheduled, of, Rises, act_of, acts_of}
use Rattle.ep_rules.specs.Verdicts.{agreed, command_at, merged_of, history_of, Agrees}
use Rattle.ep_rules.specs.declared.receipt.Receipt.{Receipt}
use Rattle.ep_rules.specs.Merging.{Merges, CallerOrder}
use Rattle.ep_rules.proofs.Places.{place_head, has_tail, has_filter}
use Rattle.ep_rules.proofs.Earlier.{earlier_first_lem}
use Rattle.ep_rules.proofs.Merged.{of_in, in_before}
use Rattle.ep_rules.proofs.JournalsCommitted.{run_parts, ends_left, acts_both, keeps, is_run, Cut, cut}
use Rattle.ep_rules.proofs.JournalsExecutions.{exec_of, executions, nothing_done, step_known}
use Rattle.ep_rules.proofs.JournalsUnproposed.{unproposed_lem}
use Rattle.ep_rules.proofs.OneProposal.{was_free}
use Rattle.ep_rules.proofs.JournalsReplies.{all_known, history_same}
use Rattle.ep_rules.proofs.Answered.{is_real}
use Rattle.ep_rules.specs.OneMap.{Store}

pub in_has : (ds : List (ℕ × Answer)) (i : ℕ) (x : Answer) → In (i, x) ds → Has (order_of ds) i
in_has [] i x h = absurd h
in_has (d ∷ ds) i x (inl e) = subst (λ z. Has (order_of (d ∷ ds)) z) (ap (λ z. z.0) e) (let p = place_head d.0 (order_of ds) in omega arith)
in_has (d ∷ ds) i x (inr h) = has_tail d.0 i (order_of ds) (in_has ds i x h)

-- an execution of i, and what was committed there at that time
pub record WasExecuted (f : ℕ) (w : World) (these : List Act) (i : ℕ) : Type 0 where
  pub early : List Act
  pub late : List Act
  pub whole : early ++ late ≡ these
  pub replica : ℕ
  pub decree : Decree
  pub committed : Committed (ends f w early) replica i decree

module _ (f : ℕ) (i : ℕ) where
  -- from the executions back to the acts
  later : (w : World) (a : Act) (these : List Act) → WasExecuted f (moved f w a) these i → WasExecuted f w (a ∷ these) i
  later w a these t = record { early = a ∷ t.early; late = t.late; whole = ap (λ z. a ∷ z) t.whole; replica = t.replica; decree = t.decree; committed = t.committed }

  executed_step : (w : World) (a : Act) (these : List Act) (e : Event) → Executes (w.states a.replica) e a.done → (IsExecutedIn (executions f (moved f w a) these) i → WasExecuted f (moved f w a) these i) →
      IsExecutedIn (exec_of w a e (executions f (moved f w a) these)) i → WasExecuted f w (a ∷ these) i
  executed_step w a these (Propose client request c seen spared) h rec k = later w a these (rec k)
  executed_step w a these (Handle m) h rec k = later w a these (rec k)
  executed_step w a these (GiveUp j) h rec k = later w a these (rec k)
  executed_step w a these (Recover j) h rec k = later w a these (rec k)
  executed_step w a these (Execute root) h rec (inl now) =
      let x = step_known (w.states a.replica) (Execute root) a.done i h now in
      record { early = []; late = a ∷ these; whole = refl; replica = a.replica; decree = x.0; committed = x.1 }
  executed_step w a these (Execute root) h rec (inr more) = later w a these (rec more)

  pub executed_in : (these : List Act) (w : World) → IsRun f w these → IsExecutedIn (executions f w these) i → WasExecuted f w these i
  executed_in [] w h k = absurd k
  executed_in (a ∷ these) w h k = executed_step w a these a.event h.0.step.executes (executed_in these (moved f w a) h.1) k

  -- and forth
  pub executed_rest : (w : World) (a : Act) (rest : List Execution) (e : Event) → IsExecutedIn rest i → IsExecutedIn (exec_of w a e rest) i
  executed_rest w a rest (Propose client request c seen spared) k = k
  executed_rest w a rest (Handle m) k = k
  executed_rest w a rest (GiveUp j) k = k
  executed_rest w a rest (Recover j) k = k
  executed_rest w a rest (Execute root) k = inr k

  pub executed_here : (w : World) (a : Act) (rest : List Execution) (e : Event) → Executes (w.states a.replica) e a.done → Has (order_of a.done) i → IsExecutedIn (exec_of w a e rest) i
  executed_here w a rest (Propose client request c seen spared) h k = absurd (nothing_done a.done i h k)
  executed_here w a rest (Handle m) h k = absurd (nothing_done a.done i h k)
  executed_here w a rest (GiveUp j) h k = absurd (nothing_done a.done i h k)
  executed_here w a rest (Recover j) h k = absurd (nothing_done a.done i h k)
  executed_here w a rest (Execute root) h k = inl k

  is_executed : (these : List Scheduled) (w : World) → IsRun f w (acts_of these) → (b : Scheduled) → In b these → Has (order_of b.entry.done) i → IsExecutedIn (executions f w (acts_of these)) i
  is_executed [] w h b m k = absurd m
  is_executed (a ∷ these) w h b (inl e) k =
      executed_here w (act_of a) (executions f (moved f w (act_of a)) (acts_of these)) a.entry.event h.0.step.executes (subst (λ (z : Scheduled). Has (order_of z.entry.done) i) (sym e) k)
  is_executed (a ∷ these) w h b (inr m) k = executed_rest w (act_of a) (executions f (moved f w (act_of a)) (acts_of these)) a.entry.event (is_executed these (moved f w (act_of a)) h.1 b m k)

exec_both : (w : World) (a : Act) (xs ys : List Execution) (e : Event) → exec_of w a e (xs ++ ys) ≡ exec_of w a e xs ++ ys
exec_both w a xs ys (Propose client request c seen spared) = refl
exec_both w a xs ys (Handle m) = refl
exec_both w a xs ys (GiveUp j) = refl
exec_both w a xs ys (Recover j) = refl
exec_both w a xs ys (Execute root) = refl

pub executions_both : (f : ℕ) (early late : List Act) (w : World) → executions f w (early ++ late) ≡ executions f w early ++ executions f (ends f w early) late
executions_both f [] late w = refl
executions_both f (a ∷ early) late w =
    ap (λ es. exec_of w a a.event es) (executions_both f early late (moved f w a)) ∙ exec_both w a (executions f (moved f w a) early) (executions f (ends f (moved f w a) early) late) a.event

isnt_noop : (c : ℕ → Command) (i : ℕ) (b : Bool) → is_noop (c i) ≡ b → cond b false true ≡ true → is_noop (c i) ≡ false
isnt_noop c i true e h = absurd (false≢true h)
isnt_noop c i false e h = e

module _ (base : Store) (f : ℕ) (journal : Journals) (schedule : List Scheduled) (given : Merges base f journal schedule) where
  in_history : (i : ℕ) → Has (history_of (command_at base f journal) schedule) i → is_noop (command_at base f journal i) ≡ false
  in_history i h = isnt_noop (command_at base f journal) i (is_noop (command_at base f journal i)) refl (has_filter (is_real (command_at base f journal)) (merged_of [] schedule) i h).1

  module _ (t : Receipt) (ht : Agrees base f journal t) where
    abbrev now : Scheduled
    now = record { replica = leader_of t.instance; entry = ht.known.proposed.proposal }

    -- the schedule in two parts, at the proposal
    module _ (early late : List Scheduled) (whole : early ++ (now ∷ late) ≡ schedule) where
      acts_whole : acts_of early ++ acts_of (now ∷ late) ≡ acts_of schedule
      acts_whole = sym (acts_both early (now ∷ late)) ∙ ap acts_of whole

      run_early : IsRun f (opening base) (acts_of early)
      run_early = (run_parts f (acts_of early) (acts_of (now ∷ late)) (opening base) (subst (IsRun f (opening base)) (sym acts_whole) (is_run base f journal schedule given))).0

      -- before its proposal nobody executes a command other than a no-op there
      not_yet : of (leader_of t.instance) early ≡ ht.known.proposed.before → is_noop (command_at base f journal t.instance) ≡ false → IsExecutedIn (executions f (opening base) (acts_of early)) t.instance → ⊥
      not_yet own is_command k =
          let p = ht.known.proposed in
          let x = executed_in f t.instance (acts_of early) (opening base) run_early k in
          let there : Committed (ends f (opening base) (acts_of early)) x.replica t.instance x.decree =
          subst (λ these. Committed (ends f (opening base) these) x.replica t.instance x.decree) x.whole
          (keeps base f x.early x.late (subst (IsRun f (opening base)) (sym x.whole) run_early) x.replica t.instance x.decree x.committed) in
          let state : (ends f (opening base) (acts_of early)).states (leader_of t.instance) ≡ left f (leader_of t.instance) (fresh_state base) p.before =
          ends_left f (leader_of t.instance) early (opening base) ∙ ap (λ es. left f (leader_of t.instance) (fresh_state base) es) own in
          let none : get ((ends f (opening base) (acts_of early)).states (leader_of t.instance)).records t.instance ≡ None =
          ap (λ (s : State). get s.records t.instance) state ∙ was_free base f (leader_of t.instance) (journal (leader_of t.instance)) t.instance t.client t.request p in
          let noop : is_noop x.decree.command ≡ true = unproposed_lem base f given.some given.few (acts_of early) run_early t.instance x.replica x.decree none there in
          let same : agreed base f journal t.instance ≡ Some x.decree = all_known base f journal schedule given (acts_of early) (acts_of (now ∷ late)) acts_whole x.replica t.instance x.decree there in
          false≢true (sym is_command ∙ ap (λ o. is_noop (command_of o)) same ∙ noop)

      -- before it what an entry of a lower stamp executes was executed
      done_early : (b : Scheduled) → In b schedule → b.entry.stamp < ht.known.proposed.proposal.stamp → (z : ℕ) → Has (order_of b.entry.done) z → IsExecutedIn (executions f (opening base) (acts_of early)) z
      done_early b m lt z k =
          let first : In b early = in_before early late now b (subst Rises (sym whole) given.scheduled.1) (subst (λ z. In b z) (sym whole) m) lt in
          is_executed f z early (opening base) run_early b first k

    kept : Cut (leader_of t.instance) ht.known.proposed.before ht.known.proposed.proposal schedule → (b : Scheduled) → In b schedule → b.entry.stamp < ht.known.proposed.proposal.stamp → (z : ℕ) → Has (order_of b.entry.done) z →
        Has (history_of (command_at base f journal) schedule) t.instance → Has (history_of (command_at base f journal) schedule) z →
        place (history_of (command_at base f journal) schedule) z < place (history_of (command_at base f journal) schedule) t.instance
    kept at b m less z k in_t in_z =
        let early : List Act = acts_of at.early in
        let late : List Act = acts_of (now ∷ at.late) in
        let e : executions f (opening base) (acts_of schedule) ≡ executions f (opening base) early ++ executions f (ends f (opening base) early) late =
        ap (λ these. executions f (opening base) these) (sym (acts_whole at.early at.late at.whole)) ∙ executions_both f early late (opening base) in
        let lt = earlier_first_lem (command_at base f journal) (executions f (opening base) early) (executions f (ends f (opening base) early) late) t.instance z (in_history t.instance in_t) (in_history z in_z)
        (done_early at.early at.late at.whole b m less z k) (not_yet at.early at.late at.whole at.own (in_history t.instance in_t)) in
        subst (λ h. place h z < place h t.instance) (ap (λ es. history (command_at base f journal) es) (sym e) ∙ history_same base f journal schedule given) lt

    -- what an entry of a lower stamp executes stands before
    pub entry_before : (r : ℕ) (e : Entry) → In e (journal r) → e.stamp < ht.known.proposed.proposal.stamp → (z : ℕ) → Has (order_of e.done) z →
        Has (history_of (command_at base f journal) schedule) t.instance → Has (history_of (command_at base f journal) schedule) z →
        place (history_of (command_at base f journal) schedule) z < place (history_of (command_at base f journal) schedule) t.instance
    entry_before r e m less z k in_t in_z =
        let p = ht.known.proposed in
        let at = cut (leader_of t.instance) p.before p.proposal p.rest schedule (given.scheduled.0 (leader_of t.instance) ∙ sym p.split) in
        let b = of_in r e schedule (subst (λ es. In e es) (sym (given.scheduled.0 r)) m) in
        kept at b.0 b.1 (subst (λ (d : Entry). d.stamp < ht.known.proposed.proposal.stamp) (sym b.3) less) z (subst (λ (d : Entry). Has (order_of d.done) z) (sym b.3) k) in_t in_z

pub caller_order_lem : CallerOrder
caller_order_lem base f journal schedule given t u ht hu le in_t in_u =
    let e = hu.known.executed in
    let s = e.is_stamp in
    let l = ht.later in
    entry_before base f journal schedule given t ht u.replica e.entry e.stands (omega arith) u.instance (in_has e.entry.done u.instance u.answer e.done) in_t in_u
