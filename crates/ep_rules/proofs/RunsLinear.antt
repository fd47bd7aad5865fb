-- Every run is linearizable.
use Rattle.std.proofs.Common.{◌≡◌, ◌≢◌, ℕ, ◌+◌, ◌<◌, ◌≤◌, ◌⊎◌, Bool, true, false, cond, inl, inr, Some, None, List, [], ◌∷◌, ◌++◌, slice_get, get_or, refl, sym, ap, subst, ◌∙◌, arith}
use Rattle.std.proofs.lemmas.Bool.{false≢true}
use Rattle.std.specs.List.{AllByRecursion}
use Rattle.ep_base.specs.Instances.{instance_of, leader_of, highest_number}
use Rattle.ep_base.specs.Interference.{interfere}
use Rattle.ep_base.specs.Places.{place, Has}
use Rattle.ep_base.specs.Quorums.{size}
use Rattle.ep_base.specs.Sameness.{is_noop}
use Rattle.ep_base.specs.Commands.{Command}
use Rattle.ep_base.specs.declared.decree.Decree.{Decree}
use Rattle.ep_base.specs.declared.reply.Answer.{Answer}
use Rattle.ep_base.specs.declared.reply.Answer.TheVariants.{Lost, Replied}
use Rattle.ep_base.specs.declared.reply.Reply.{Reply}
use Rattle.ep_base.specs.declared.reply.Reply.TheVariants.{Absent}
use Rattle.ep_base.proofs.Interfering.{turn}
use Rattle.ep_rules.specs.History.{Execution, AnswersBy, IsExecutedIn, nothing, done_after, merged, history}
use Rattle.ep_rules.specs.Counts.{AreOnce}
use Rattle.ep_rules.specs.Linearizable.{Responds, IsLegal, Precedes, IsLinearizable, Linearizability}
use Rattle.ep_rules.specs.Maps.{get}
use Rattle.ep_rules.specs.OneMap.{replies, Store}
use Rattle.ep_rules.specs.Operations.{Operation, instances_of, commands_of, history_of}
use Rattle.ep_rules.specs.Safety.{WasProposed}
use Rattle.ep_rules.specs.States.{is_free, free_number, command_of}
use Rattle.ep_rules.specs.Steps.{Event, Propose, Handle, GiveUp, Recover, Execute, order_of}
use Rattle.ep_rules.specs.Verdicts.{IsReply}
use Rattle.ep_rules.specs.Worlds.{World, opening, Act, In, moved, IsRun, ends, Committed}
use Rattle.ep_rules.proofs.OnceDone.{as_once}
use Rattle.ep_rules.proofs.Counting.{least_some}
use Rattle.ep_rules.proofs.Earlier.{earlier_first_lem, has_executed}
use Rattle.ep_rules.proofs.JournalsCallers.{executed_in, executed_here, executed_rest, executions_both}
use Rattle.ep_rules.proofs.JournalsCommitted.{run_parts, keeps}
use Rattle.ep_rules.proofs.JournalsExecutions.{exec_of, executions, step_known, done_is}
use Rattle.ep_rules.proofs.JournalsReplies.{here, all_rest}
use Rattle.ep_rules.proofs.JournalsUnproposed.{unproposed_lem}
use Rattle.ep_rules.proofs.Merged.{in_at}
use Rattle.ep_rules.proofs.Places.{once_filter, has_cons, has_filter, filter_back}
use Rattle.ep_rules.proofs.RunCommits.{decrees, graph_of, reported_in, all_known, dependent, answered, wells}
use Rattle.ep_rules.proofs.RunHistories.{AreOf, commands_are, command_is, instance_in, IsHistory, history_is}
use Rattle.ep_rules.proofs.Runs.{validity_holds}
use Rattle.ep_rules.proofs.Wells.{linked, same_order, has_before}
use Rattle.ep_rules.proofs.Local.{none_of}
use Rattle.ep_rules.proofs.Answered.{is_real}

-- what is no no-op
not_noop : (b : Bool) → cond b false true ≡ true → b ≡ false
not_noop true e = absurd (false≢true e)
not_noop false e = refl

pub has_in : (ds : List (ℕ × Answer)) (i : ℕ) → Has (order_of ds) i → (x : Answer) × In (i, x) ds
has_in [] i k = absurd (omega arith)
has_in (d ∷ ds) i k = elim (has_cons d.0 i (order_of ds) k) [
  | inl e ↦ (d.1, inl (ap (λ j. (j, d.1)) e))
  | inr t ↦ (let r = has_in ds i t in (r.0, inr r.1))
]

-- Executions, and the acts that make them.
module _ (base : Store) (f : ℕ) where
  act_step : (w : World) (a : Act) (rest : List Execution) (e : Event) (i : ℕ) → IsExecutedIn (exec_of w a e rest) i → Has (order_of a.done) i ⊎ IsExecutedIn rest i
  act_step w a rest (Propose client request c seen spared) i k = inr k
  act_step w a rest (Handle m) i k = inr k
  act_step w a rest (GiveUp j) i k = inr k
  act_step w a rest (Recover j) i k = inr k
  act_step w a rest (Execute root) i k = k

  act_for : (these : List Act) (w : World) (i : ℕ) → IsExecutedIn (executions f w these) i → (a : Act) × In a these × Has (order_of a.done) i
  act_for [] w i k = absurd k
  act_for (a ∷ these) w i k = elim (act_step w a (executions f (moved f w a) these) a.event i k) [
    | inl now ↦ (a, inl refl, now)
    | inr more ↦ (let t = act_for these (moved f w a) i more in (t.0, inr t.1, t.2))
  ]

  is_executed : (these : List Act) (w : World) → IsRun f w these → (i : ℕ) (a : Act) → In a these → Has (order_of a.done) i → IsExecutedIn (executions f w these) i
  is_executed [] w h i a m k = absurd m
  is_executed (b ∷ these) w h i a (inl e) k = executed_here f i w b (executions f (moved f w b) these) b.event h.0.step.executes (subst (λ (z : Act). Has (order_of z.done) i) (sym e) k)
  is_executed (b ∷ these) w h i a (inr m) k = executed_rest f i w b (executions f (moved f w b) these) b.event (is_executed these (moved f w b) h.1 i a m k)

  -- each answer, where each execution answers by the history
  each_reply : (c : ℕ → Command) (h : List ℕ) (these : List Act) (w : World) → IsRun f w these → AllByRecursion (AnswersBy base c h) (executions f w these) →
      (a : Act) (k i : ℕ) (x : Answer) → In a these → slice_get a.done k ≡ Some (i, x) → IsReply base c h i x
  each_reply c h [] w run all a k i x m e = absurd m
  each_reply c h (b ∷ these) w run all a k i x (inl is) e =
      here base f c h w b (executions f (moved f w b) these) b.event run.0.step.executes all k i x (ap (λ (z : Act). slice_get z.done k) is ∙ e)
  each_reply c h (b ∷ these) w run all a k i x (inr m) e =
      each_reply c h these (moved f w b) run.1 (all_rest base f c h w b (executions f (moved f w b) these) b.event all) a k i x m e

-- a reply to the history's instances, by its commands
to_legal : (base : Store) → (c : ℕ → Command) (h : List Operation) → AreOf c h → ((i : ℕ) → Has (instances_of h) i → is_real c i ≡ true) → (i : ℕ) (x : Answer) → IsReply base c (instances_of h) i x → IsLegal base h i x
to_legal base c h of are_real i x (inl p) = inl ((λ k. false≢true (sym (ap (λ b. cond b false true) p.0) ∙ are_real i k)), p.1)
to_legal base c h of are_real i x (inr p) = inr (p.0, p.1 ∙ ap (λ cs. Replied (get_or (replies base cs) (place (instances_of h) i) Absent)) (sym (commands_are c h of)))

pub reported_lost : {X : Type 0} (y : Reply) → Replied y ≡ Lost → X
reported_lost y e = absurd (cc)

pub reported_from : (y z : Reply) → Replied y ≡ Replied z → y ≡ z
reported_from y z e = cc

module _ (base : Store) (f : ℕ) (some : 0 < f) (few : size f ≤ 256) (acts : List Act) (run : IsRun f (opening base) acts) where
  is_history : IsHistory base f (decrees base f acts) (history_of base f acts) (merged [] (executions f (opening base) acts))
  is_history = history_is base f (decrees base f acts) acts (opening base) [] [] run (all_known base f some few acts run) (record { instances = refl; commands = tt })

  -- an instance of the history is executed, and is no no-op
  in_history : (i : ℕ) → Has (instances_of (history_of base f acts)) i → Has (merged [] (executions f (opening base) acts)) i × (is_real (reported_in base f acts) i ≡ true)
  in_history i k = has_filter (is_real (reported_in base f acts)) (merged [] (executions f (opening base) acts)) i (subst (λ js. Has js i) is_history.instances k)

  legal : (a : Act) (i : ℕ) (x : Answer) → In a acts → In (i, x) a.done → IsLegal base (history_of base f acts) i x
  legal a i x m k =
      let at = in_at a.done (i, x) k in
      let all : AllByRecursion (AnswersBy base (reported_in base f acts) (instances_of (history_of base f acts))) (executions f (opening base) acts) =
      subst (λ js. AllByRecursion (AnswersBy base (reported_in base f acts) js) (executions f (opening base) acts)) (sym is_history.instances) (answered base f some few acts run) in
      to_legal base (reported_in base f acts) (history_of base f acts) is_history.commands (λ j n. (in_history j n).1) i x
      (each_reply base f (reported_in base f acts) (instances_of (history_of base f acts)) acts (opening base) run all a at.0 i x m at.1)

  responds : (i : ℕ) → Has (instances_of (history_of base f acts)) i → Responds acts i
  responds i k = elim (has_executed [] (executions f (opening base) acts) i (in_history i k).0) [
    | inl none ↦ absurd (omega arith)
    | inr e ↦ (
        let a = act_for base f acts (opening base) i e in
        let x = has_in a.0.done i a.2 in
        elim (legal a.0 i x.0 a.1 x.1) [
          | inl lost ↦ absurd (lost.0 k)
          | inr reported ↦ (a.0, get_or (replies base (commands_of (history_of base f acts))) (place (instances_of (history_of base f acts)) i) Absent, a.1, subst (λ (z : Answer). In (i, z) a.0.done) reported.1 x.1)
        ])
  ]

  responded : (i : ℕ) → Responds acts i → Has (instances_of (history_of base f acts)) i
  responded i t = elim (legal t.0 i (Replied t.1) t.2 t.3) [ inl lost ↦ reported_lost t.1 lost.1 | inr reported ↦ reported.0 ]

  -- the run in two parts
  module _ (before : List Act) (rest : List Act) (whole : before ++ rest ≡ acts) where
    parts : IsRun f (opening base) before × IsRun f (ends f (opening base) before) rest
    parts = run_parts f before rest (opening base) (subst (IsRun f (opening base)) (sym whole) run)

    known_then : (r i : ℕ) (x : Decree) → Committed (ends f (opening base) before) r i x → reported_in base f acts i ≡ x.command
    known_then r i x e = ap command_of (all_known base f some few acts run before rest whole r i x e)

    executions_then : executions f (opening base) acts ≡ executions f (opening base) before ++ executions f (ends f (opening base) before) rest
    executions_then = ap (λ these. executions f (opening base) these) (sym whole) ∙ executions_both f before rest (opening base)

    -- what its leader has no record of isn't executed, where it is no no-op
    not_yet : (i : ℕ) → get ((ends f (opening base) before).states (leader_of i)).records i ≡ None → is_noop (reported_in base f acts i) ≡ false → IsExecutedIn (executions f (opening base) before) i → ⊥
    not_yet i none is_command k =
        let x = executed_in f i before (opening base) parts.0 k in
        let there : Committed (ends f (opening base) before) x.replica i x.decree =
        subst (λ these. Committed (ends f (opening base) these) x.replica i x.decree) x.whole
        (keeps base f x.early x.late (subst (IsRun f (opening base)) (sym x.whole) parts.0) x.replica i x.decree x.committed) in
        let noop : is_noop x.decree.command ≡ true = unproposed_lem base f some few before parts.0 i x.replica x.decree none there in
        false≢true (sym is_command ∙ ap is_noop (known_then x.replica i x.decree there) ∙ noop)

  proposed : (o : Operation) (before rest : List Act) (a : Act) → In o (history_of base f acts) → before ++ (a ∷ rest) ≡ acts → Has (order_of a.done) o.instance → WasProposed base f before o.instance o.command
  proposed o before rest a m whole k =
      let p = parts before (a ∷ rest) whole in
      let x = step_known ((ends f (opening base) before).states a.replica) a.event a.done o.instance p.1.0.step.executes k in
      let same : reported_in base f acts o.instance ≡ x.0.command = known_then before (a ∷ rest) whole a.replica o.instance x.0 x.1 in
      let is_command : is_noop (reported_in base f acts o.instance) ≡ false = not_noop (is_noop (reported_in base f acts o.instance)) (in_history o.instance (instance_in (history_of base f acts) o m)).1 in
      subst (λ d. WasProposed base f before o.instance d) (sym same ∙ sym (command_is (reported_in base f acts) (history_of base f acts) o is_history.commands m))
      (validity_holds base f some few before p.0 o.instance a.replica x.0 x.1 (sym (ap is_noop same) ∙ is_command))

  was_free : (i : ℕ) (d : Command) (p : WasProposed base f acts i d) → get ((ends f (opening base) p.before).states (leader_of i)).records i ≡ None
  unfolding free_number
  was_free i d p =
      let s = (ends f (opening base) p.before).states (leader_of i) in
      subst (λ j. get ((ends f (opening base) p.before).states (leader_of i)).records j ≡ None) p.instance
      (none_of (get s.records (instance_of (leader_of i) (p.number + 1))) (least_some highest_number (is_free s.records (leader_of i)) p.number p.free).1)

  real_time : (i j : ℕ) → Has (instances_of (history_of base f acts)) i → Has (instances_of (history_of base f acts)) j → Precedes base f acts i j → place (instances_of (history_of base f acts)) i < place (instances_of (history_of base f acts)) j
  real_time i j hi hj p =
      let before : List Act = p.proposed.before in
      let rest : List Act = p.proposed.proposal ∷ p.proposed.after in
      let whole : before ++ rest ≡ acts = p.proposed.stands in
      let ri : is_noop (reported_in base f acts i) ≡ false = not_noop (is_noop (reported_in base f acts i)) (in_history i hi).1 in
      let rj : is_noop (reported_in base f acts j) ≡ false = not_noop (is_noop (reported_in base f acts j)) (in_history j hj).1 in
      let first : IsExecutedIn (executions f (opening base) before) i = is_executed base f before (opening base) (parts before rest whole).0 i p.act p.earlier p.executed in
      let lt = earlier_first_lem (reported_in base f acts) (executions f (opening base) before) (executions f (ends f (opening base) before) rest) j i rj ri first (not_yet before rest whole j (was_free j p.command p.proposed) rj) in
      subst (λ js. place js i < place js j) (ap (λ xs. history (reported_in base f acts) xs) (sym (executions_then before rest whole)) ∙ sym is_history.instances) lt

  everywhere : (r : ℕ) (o p : Operation) → In o (history_of base f acts) → In p (history_of base f acts) → interfere o.command p.command ≡ true →
      place (instances_of (history_of base f acts)) o.instance < place (instances_of (history_of base f acts)) p.instance →
      Has ((ends f (opening base) acts).states r).executed p.instance → place ((ends f (opening base) acts).states r).executed o.instance < place ((ends f (opening base) acts).states r).executed p.instance
  everywhere r o p mo mp meet lt k =
      let i : ℕ = o.instance in
      let j : ℕ = p.instance in
      let m : List ℕ = merged [] (executions f (opening base) acts) in
      let d : List ℕ = done_after nothing (executions f (opening base) acts) r in
      let own : d ≡ ((ends f (opening base) acts).states r).executed = done_is f acts (opening base) nothing run (λ q. refl) r in
      let w = wells base f some few acts run in
      let hi = in_history i (instance_in (history_of base f acts) o mo) in
      let hj = in_history j (instance_in (history_of base f acts) p mp) in
      let kj : Has d j = subst (λ l. Has l j) (sym own) k in
      let before : place m i < place m j = filter_back (is_real (reported_in base f acts)) m i j hi.1 hj.1 hi.0 (subst (λ js. place js i < place js j) is_history.instances lt) in
      let ne : i ≢ j = (λ e. let s : place m i ≡ place m j = ap (λ n. place m n) e in omega arith) in
      let inter : interfere (reported_in base f acts i) (reported_in base f acts j) ≡ true =
      ap (λ b. interfere b (reported_in base f acts j)) (sym (command_is (reported_in base f acts) (history_of base f acts) o is_history.commands mo))
      ∙ ap (λ b. interfere o.command b) (sym (command_is (reported_in base f acts) (history_of base f acts) p is_history.commands mp)) ∙ meet in
      let link = linked (graph_of base f acts) (reported_in base f acts) (dependent base f some few acts run) i j ne (w.whole.committed i hi.0) (w.whole.committed j hj.0) inter in
      let ki : Has d i = has_before (graph_of base f acts) d m (w.each r) w.whole j i kj (turn link) before in
      subst (λ l. place l i < place l j) own (same_order (graph_of base f acts) m d w.whole (w.each r) i j ki hj.0 link before)

  is_linearizable : IsLinearizable base f acts
  is_linearizable = record {
    once = subst AreOnce (sym is_history.instances) (as_once _ (once_filter (is_real (reported_in base f acts)) (merged [] (executions f (opening base) acts)) (wells base f some few acts run).whole.once));
    complete = λ i. (responds i, responded i);
    proposed = proposed;
    legal = legal;
    real_time = real_time;
    everywhere = everywhere;
  }

pub linearizability_holds : Linearizability
linearizability_holds base f some few acts run = is_linearizable base f some few acts run
