-- Each executed answer is one map's reply to the history of the schedule.
use Rattle.std.proofs.Common.{◌≡◌, ℕ, zero, suc, ◌<◌, true, inl, inr, Some, List, [], ◌∷◌, ◌++◌, length, slice_get, get_or, refl, sym, ap, subst, ◌∙◌, arith, append-nil}
use Rattle.std.proofs.lemmas.Option.{same_Some}
use Rattle.std.specs.List.{filter, AllByRecursion}
use Rattle.ep_base.specs.Interference.{interfere}
use Rattle.ep_base.specs.Quorums.{size}
use Rattle.ep_base.specs.declared.attrs.Attrs.{Attrs}
use Rattle.ep_base.specs.Commands.{Command}
use Rattle.ep_base.specs.declared.reply.Answer.{Answer}
use Rattle.ep_base.specs.Places.{Has}
use Rattle.ep_rules.specs.History
use Rattle.ep_rules.specs.History.{Execution, AreDependent, IsLocal, AnswersBy, is_new, merged, history}
use Rattle.ep_rules.specs.States.{attrs_of, command_of}
use Rattle.ep_rules.specs.Steps.{Event, Propose, Handle, GiveUp, Recover, Execute, order_of, answers_in, Executes}
use Rattle.ep_rules.specs.Worlds.{World, opening, Act, In, moved, IsRun, ends, Committed}
use Rattle.ep_rules.specs.Journals.{Journals, Scheduled, act_of, acts_of}
use Rattle.ep_rules.specs.Verdicts.{agreed, command_at, merged_of, history_of, IsReply}
use Rattle.ep_rules.specs.Merging.{Merges, EachReply}
use Rattle.ep_rules.proofs.Interleaved.{one_history_lem}
use Rattle.ep_rules.proofs.Merged.{in_at}
use Rattle.ep_rules.proofs.JournalsCommitted.{none_some, keeps, is_run, end_commits, agreed_back, commits_agreed, journals_depend_lem}
use Rattle.ep_rules.proofs.JournalsExecutions.{exec_of, executions, attrs_some, Known, local_runs}
use Rattle.ep_rules.proofs.Answered.{is_real}
use Rattle.ep_rules.specs.OneMap.{Store}

-- the entries of a run that execute, and their executions, make one merged list
module _ (f : ℕ) where
  none_merged : (done : List (ℕ × Answer)) (seen : List ℕ) (rest : List Execution) → done ≡ [] → merged seen rest ≡ merged (seen ++ filter (is_new seen) (order_of done)) rest
  none_merged done seen rest none = ap (λ s. merged s rest) (sym (ap (λ d. seen ++ filter (is_new seen) (order_of d)) none ∙ append-nil seen))

  pub merged_step : (w : World) (a : Act) (seen : List ℕ) (rest : List Execution) (e : Event) → Executes (w.states a.replica) e a.done → merged seen (exec_of w a e rest) ≡ merged (seen ++ filter (is_new seen) (order_of a.done)) rest
  merged_step w a seen rest (Propose client request c known spared) h = none_merged a.done seen rest h
  merged_step w a seen rest (Handle m) h = none_merged a.done seen rest h
  merged_step w a seen rest (GiveUp i) h = none_merged a.done seen rest h
  merged_step w a seen rest (Recover i) h = none_merged a.done seen rest h
  merged_step w a seen rest (Execute root) h = refl

  pub merged_same : (these : List Scheduled) (w : World) (seen : List ℕ) → IsRun f w (acts_of these) → merged seen (executions f w (acts_of these)) ≡ merged_of seen these
  merged_same [] w seen h = refl
  merged_same (a ∷ these) w seen h =
      merged_step w (act_of a) seen (executions f (moved f w (act_of a)) (acts_of these)) a.entry.event h.0.step.executes ∙ merged_same these (moved f w (act_of a)) (seen ++ filter (is_new seen) (order_of a.entry.done)) h.1

-- a place of an entry's executions
at_place : (ds : List (ℕ × Answer)) (k i : ℕ) (x : Answer) → slice_get ds k ≡ Some (i, x) → (k < length (order_of ds)) × (get_or (order_of ds) k i ≡ i) × (get_or (answers_in ds) k x ≡ x)
at_place [] k i x e = none_some (i, x) e
at_place (d ∷ ds) zero i x e = let s = same_Some d (i, x) e in (omega arith, ap (λ z. z.0) s, ap (λ z. z.1) s)
at_place (d ∷ ds) (suc k) i x e = let t = at_place ds k i x e in ((let l = t.0 in omega arith), t.1, t.2)

module _ (base : Store) (f : ℕ) (c : ℕ → Command) (h : List ℕ) where
  pub all_rest : (w : World) (a : Act) (rest : List Execution) (e : Event) → AllByRecursion (AnswersBy base c h) (exec_of w a e rest) → AllByRecursion (AnswersBy base c h) rest
  all_rest w a rest (Propose client request x seen spared) all = all
  all_rest w a rest (Handle m) all = all
  all_rest w a rest (GiveUp i) all = all
  all_rest w a rest (Recover i) all = all
  all_rest w a rest (Execute root) all = all.1

  done_none : (done : List (ℕ × Answer)) (k i : ℕ) (x : Answer) → done ≡ [] → slice_get done k ≡ Some (i, x) → IsReply base c h i x
  done_none done k i x none e = none_some (i, x) (sym (ap (λ d. slice_get d k) none) ∙ e)

  pub here : (w : World) (a : Act) (rest : List Execution) (e : Event) → Executes (w.states a.replica) e a.done → AllByRecursion (AnswersBy base c h) (exec_of w a e rest) → (k i : ℕ) (x : Answer) → slice_get a.done k ≡ Some (i, x) → IsReply base c h i x
  here w a rest (Propose client request x' seen spared) done all k i x e = done_none a.done k i x done e
  here w a rest (Handle m) done all k i x e = done_none a.done k i x done e
  here w a rest (GiveUp j) done all k i x e = done_none a.done k i x done e
  here w a rest (Recover j) done all k i x e = done_none a.done k i x done e
  here w a rest (Execute root) done all k i x e =
      let t = at_place a.done k i x e in
      elim (all.0 k i x t.0 t.1) [
        | inl lost ↦ inl (lost.0, sym t.2 ∙ lost.1)
        | inr reported ↦ inr (reported.0, sym t.2 ∙ reported.1)
      ]

  pub each_reply_of : (these : List Scheduled) (w : World) → IsRun f w (acts_of these) → AllByRecursion (AnswersBy base c h) (executions f w (acts_of these)) → (a : Scheduled) (k i : ℕ) (x : Answer) → In a these → slice_get a.entry.done k ≡ Some (i, x) → IsReply base c h i x
  each_reply_of [] w run all a k i x m e = absurd m
  each_reply_of (b ∷ these) w run all a k i x (inl is) e =
      here w (act_of b) (executions f (moved f w (act_of b)) (acts_of these)) b.entry.event run.0.step.executes all k i x (ap (λ (z : Scheduled). slice_get z.entry.done k) is ∙ e)
  each_reply_of (b ∷ these) w run all a k i x (inr m) e =
      each_reply_of these (moved f w (act_of b)) run.1 (all_rest w (act_of b) (executions f (moved f w (act_of b)) (acts_of these)) b.entry.event all) a k i x m e

module _ (base : Store) (f : ℕ) (journal : Journals) (schedule : List Scheduled) (given : Merges base f journal schedule) where
  pub history_same : history (command_at base f journal) (executions f (opening base) (acts_of schedule)) ≡ history_of (command_at base f journal) schedule
  history_same = ap (λ m. filter (is_real (command_at base f journal)) m) (merged_same f schedule (opening base) [] (is_run base f journal schedule given))

  pub all_known : Known base f (agreed base f journal) (opening base) (acts_of schedule)
  all_known early late whole r i x e =
      commits_agreed base f journal schedule given r i x (end_commits base f journal schedule given r i x
      (subst (λ these. Committed (ends f (opening base) these) r i x) whole (keeps base f early late (subst (IsRun f (opening base)) (sym whole) (is_run base f journal schedule given)) r i x e)))

  pub locals : (r : ℕ) → IsLocal base (λ i. attrs_of (agreed base f journal i)) (command_at base f journal) [] (History.of r (executions f (opening base) (acts_of schedule)))
  locals r = local_runs base f (agreed base f journal) (acts_of schedule) (opening base) (is_run base f journal schedule given) all_known (λ q. refl) r

  pub dependent : AreDependent (λ i. attrs_of (agreed base f journal i)) (command_at base f journal)
  dependent i j a b ne gi gj meet =
      let x = attrs_some (agreed base f journal i) a gi in
      let y = attrs_some (agreed base f journal j) b gj in
      let r = agreed_back base (size f) f journal i x.0 x.1 in
      let q = agreed_back base (size f) f journal j y.0 y.1 in
      let m : interfere x.0.command y.0.command ≡ true = subst (λ o. interfere (command_of o) y.0.command ≡ true) x.1 (subst (λ o. interfere (command_at base f journal i) (command_of o) ≡ true) y.1 meet) in
      elim (journals_depend_lem base f journal schedule given i j r.0 q.0 x.0 y.0 ne r.2 q.2 m) [
        | inl d ↦ inl (a, gi, subst (λ (z : Attrs). Has z.deps j) x.2 d)
        | inr d ↦ inr (b, gj, subst (λ (z : Attrs). Has z.deps i) y.2 d)
      ]

pub each_reply_lem : EachReply
each_reply_lem base f journal schedule given a i x m e =
    let all = one_history_lem base (λ j. attrs_of (agreed base f journal j)) (command_at base f journal) (executions f (opening base) (acts_of schedule)) (dependent base f journal schedule given) (locals base f journal schedule given) in
    let at = in_at a.entry.done (i, x) e in
    each_reply_of base f (command_at base f journal) (history_of (command_at base f journal) schedule) schedule (opening base) (is_run base f journal schedule given)
    (subst (λ h. AllByRecursion (AnswersBy base (command_at base f journal) h) (executions f (opening base) (acts_of schedule))) (history_same base f journal schedule given) all) a at.0 i x m at.1
