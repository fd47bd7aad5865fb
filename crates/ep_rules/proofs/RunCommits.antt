-- What a run commits in each instance, and the executions of its replicas.
use Rattle.std.proofs.Common.{◌≡◌, ℕ, zero, suc, ◌<◌, ◌≤◌, Bool, true, false, cond, eqb, inl, inr, Option, Some, None, List, [], ◌∷◌, ◌++◌, refl, sym, ap, subst, ◌∙◌, arith, append-nil}
use Rattle.std.proofs.lemmas.Bool.{eqb-true, cases_lt}
use Rattle.std.specs.List.{AllByRecursion}
use Rattle.ep_base.specs.Interference.{interfere}
use Rattle.ep_base.specs.Places.{Has}
use Rattle.ep_base.specs.Quorums.{size}
use Rattle.ep_base.specs.declared.attrs.Attrs.{Attrs}
use Rattle.ep_base.specs.Commands.{Command}
use Rattle.ep_base.specs.declared.decree.Decree.{Decree}
use Rattle.ep_rules.specs.Cells.{committed_decree, record_or_fresh}
use Rattle.ep_rules.specs.Graph.{Graph}
use Rattle.ep_rules.specs.History
use Rattle.ep_rules.specs.History.{Execution, nothing, AreDependent, AnswersBy, AreLocal, history}
use Rattle.ep_rules.specs.States.{State, committed_in, attrs_of, command_of}
use Rattle.ep_rules.specs.Steps.{leaves}
use Rattle.ep_rules.specs.Verdicts.{or_else}
use Rattle.ep_rules.specs.Worlds.{World, opening, Act, moved, IsRun, ends, Committed}
use Rattle.ep_rules.proofs.Executions.{AllWell, all_well, start}
use Rattle.ep_rules.proofs.Interleaved.{interleaved, one_history_lem}
use Rattle.ep_rules.proofs.JournalsCommitted.{none_some, keeps}
use Rattle.ep_rules.proofs.JournalsExecutions.{executions, attrs_some, Known, local_runs}
use Rattle.ep_rules.proofs.Lookups.{none_there}
use Rattle.ep_rules.proofs.Pairs.{dependency_holds}
use Rattle.ep_rules.proofs.Runs.{agreement_holds}
use Rattle.ep_rules.specs.OneMap.{Store}

-- what the least replica below n that has committed in i has committed there
abbrev pub committed_below : ℕ → World → ℕ → Option Decree
committed_below zero w i = None
committed_below (suc n) w i = or_else (committed_below n w i) (committed_in (w.states n).records i)

-- what a run has committed in each instance
abbrev pub decrees : (base : Store) → ℕ → List Act → ℕ → Option Decree
decrees base f acts i = committed_below (size f) (ends f (opening base) acts) i

abbrev pub graph_of : (base : Store) → ℕ → List Act → Graph
graph_of base f acts i = attrs_of (decrees base f acts i)

abbrev pub reported_in : (base : Store) → ℕ → List Act → ℕ → Command
reported_in base f acts i = command_of (decrees base f acts i)

-- the states of those that are no replicas stay as they are
outside : (f : ℕ) (acts : List Act) (w : World) → IsRun f w acts → (r : ℕ) → size f ≤ r → (ends f w acts).states r ≡ w.states r
outside f [] w h r ge = refl
outside f (a ∷ acts) w h r ge = outside f acts (moved f w a) h.1 r ge ∙ go (eqb a.replica r) refl
  where
    go : (b : Bool) → eqb a.replica r ≡ b → cond b (leaves f r (w.states r) a.event a.done) (w.states r) ≡ w.states r
    go true q = absurd (let is = eqb-true a.replica r q in let lt = h.0.replica in omega arith)
    go false q = refl

committed_back : (n : ℕ) (w : World) (i : ℕ) (x : Decree) → committed_below n w i ≡ Some x → (k : ℕ) × (k < n) × Committed w k i x
committed_back zero w i x e = none_some x e
committed_back (suc n) w i x e = go (committed_below n w i) e (committed_back n w i x)
  where
    go : (o : Option Decree) → or_else o (committed_in (w.states n).records i) ≡ Some x → (o ≡ Some x → (k : ℕ) × (k < n) × Committed w k i x) → (k : ℕ) × (k < suc n) × Committed w k i x
    go (Some y) q rec = let t = rec q in (t.0, (let l = t.1 in omega arith), t.2)
    go None q rec = (n, omega arith, q)

committed_forth : (n : ℕ) (w : World) (i k : ℕ) (x : Decree) → k < n → Committed w k i x → (y : Decree) × (committed_below n w i ≡ Some y)
committed_forth zero w i k x lt e = absurd (omega arith)
committed_forth (suc n) w i k x lt e = go (committed_below n w i) refl (committed_forth n w i k x)
  where
    go : (o : Option Decree) → committed_below n w i ≡ o → (k < n → Committed w k i x → (y : Decree) × (o ≡ Some y)) → (y : Decree) × (or_else o (committed_in (w.states n).records i) ≡ Some y)
    go (Some y) q rec = (y, refl)
    go None q rec = elim (cases_lt k n) [
      | inl l ↦ (let t = rec l e in none_some t.0 t.1)
      | inr ge ↦ (x, (let is : n ≡ k = omega arith in ap (λ z. committed_in (w.states z).records i) is ∙ e))
    ]

module _ (base : Store) (f : ℕ) (some : 0 < f) (few : size f ≤ 256) (acts : List Act) (run : IsRun f (opening base) acts) where
  run_nil : IsRun f (opening base) (acts ++ [])
  run_nil = subst (IsRun f (opening base)) (sym (append-nil acts)) run

  end_nil : (r i : ℕ) (x : Decree) → Committed (ends f (opening base) acts) r i x → Committed (ends f (opening base) (acts ++ [])) r i x
  end_nil r i x e = subst (λ these. Committed (ends f (opening base) these) r i x) (sym (append-nil acts)) e

  -- who commits is a replica
  committer : (r i : ℕ) (x : Decree) → Committed (ends f (opening base) acts) r i x → r < size f
  committer r i x e = elim (cases_lt r (size f)) [
    | inl lt ↦ lt
    | inr ge ↦ none_some x (sym (ap (λ o. committed_decree (record_or_fresh i o).vote) (none_there i)) ∙ sym (ap (λ (s : State). committed_in s.records i) (outside f acts (opening base) run r ge)) ∙ e)
  ]

  pub committed_is : (r i : ℕ) (x : Decree) → Committed (ends f (opening base) acts) r i x → decrees base f acts i ≡ Some x
  committed_is r i x e =
      let y = committed_forth (size f) (ends f (opening base) acts) i r x (committer r i x e) e in
      let back = committed_back (size f) (ends f (opening base) acts) i y.0 y.1 in
      y.1 ∙ ap Some (agreement_holds base f some few acts [] run_nil i back.0 r y.0 x back.2 (end_nil r i x e))

  -- at any time
  pub all_known : Known base f (decrees base f acts) (opening base) acts
  all_known early late whole r i x e =
      committed_is r i x (subst (λ these. Committed (ends f (opening base) these) r i x) whole (keeps base f early late (subst (IsRun f (opening base)) (sym whole) run) r i x e))

  pub locals : AreLocal base (graph_of base f acts) (reported_in base f acts) (executions f (opening base) acts)
  locals r = local_runs base f (decrees base f acts) acts (opening base) run all_known (λ q. refl) r

  pub dependent : AreDependent (graph_of base f acts) (reported_in base f acts)
  dependent i j a b ne gi gj meet =
      let x = attrs_some (decrees base f acts i) a gi in
      let y = attrs_some (decrees base f acts j) b gj in
      let r = committed_back (size f) (ends f (opening base) acts) i x.0 x.1 in
      let q = committed_back (size f) (ends f (opening base) acts) j y.0 y.1 in
      let m : interfere x.0.command y.0.command ≡ true = subst (λ o. interfere (command_of o) y.0.command ≡ true) x.1 (subst (λ o. interfere (reported_in base f acts i) (command_of o) ≡ true) y.1 meet) in
      elim (dependency_holds base f some few acts [] run_nil i j r.0 q.0 x.0 y.0 ne r.2 (end_nil q.0 j y.0 q.2) m) [
        | inl d ↦ inl (a, gi, subst (λ (z : Attrs). Has z.deps j) x.2 d)
        | inr d ↦ inr (b, gj, subst (λ (z : Attrs). Has z.deps i) y.2 d)
      ]

  -- each answer of each execution is one map's reply to the history
  pub answered : AllByRecursion (AnswersBy base (reported_in base f acts) (history (reported_in base f acts) (executions f (opening base) acts))) (executions f (opening base) acts)
  answered = one_history_lem base (graph_of base f acts) (reported_in base f acts) (executions f (opening base) acts) dependent locals

  -- each replica's list, and the merged one, are in the order of execution
  pub wells : AllWell (graph_of base f acts) (History.done_after nothing (executions f (opening base) acts)) (History.merged [] (executions f (opening base) acts))
  wells = all_well (graph_of base f acts) nothing [] (executions f (opening base) acts) (start (graph_of base f acts)) (interleaved base (graph_of base f acts) (reported_in base f acts) nothing (executions f (opening base) acts) locals).0
