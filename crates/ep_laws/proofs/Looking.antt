-- Looks at more than F replicas find whatever some replica had executed before.
use Rattle.std.proofs.Common.{◌≡◌, ℕ, ◌<◌, ◌≤◌, inl, inr, true, false, Option, Some, is_some, List, [], ◌∷◌, ◌++◌, take, drop, sym, ap, subst, ◌∙◌, arith}
use Rattle.std.proofs.lemmas.List.{take-append-drop}
use Rattle.ep_base.specs.Commands.{Command}
use Rattle.ep_base.specs.Interference.{interfere}
use Rattle.ep_base.specs.Places.{Has}
use Rattle.ep_base.specs.Quorums.{size}
use Rattle.ep_base.specs.Sameness.{is_noop}
use Rattle.ep_base.specs.declared.decree.Decree.{Decree}
use Rattle.ep_base.specs.declared.reply.Answer.TheVariants.{Replied}
use Rattle.ep_rules.specs.OneMap.{Store}
use Rattle.ep_rules.specs.Operations.{instances_of, history_of}
use Rattle.ep_rules.specs.States.{State, command_of}
use Rattle.ep_rules.specs.Steps.{order_of}
use Rattle.ep_rules.specs.Worlds.{World, opening, Act, In, moved, IsRun, ends, Committed}
use Rattle.ep_rules.proofs.Counting.{count_le, meet}
use Rattle.ep_rules.proofs.JournalsCallers.{in_has}
use Rattle.ep_rules.proofs.JournalsCommitted.{run_parts, ends_both}
use Rattle.ep_rules.proofs.JournalsExecutions.{step_known}
use Rattle.ep_rules.proofs.Permanence.{permanence_holds}
use Rattle.ep_rules.proofs.RunCommits.{reported_in, all_known}
use Rattle.ep_rules.proofs.Runs.{validity_holds}
use Rattle.ep_rules.proofs.RunsLinear.{linearizability_holds}
use Rattle.ep_rules.proofs.Stable.{some_of}
use Rattle.ep_rules.specs.Counting.{count}
use Rattle.std.specs.Option.{option_map}
use Rattle.ep_laws.specs.AheadReads.{LeadsTo}
use Rattle.ep_laws.specs.Reads.{found, world_at}
use Rattle.ep_laws.proofs.Mapped.{mapped_is, mapped_back}
use Rattle.ep_laws.proofs.Backers.{Kept, committed_kept}
use Rattle.ep_laws.proofs.Finding.{is_found}
use Rattle.ep_laws.proofs.Fronts.{between}
use Rattle.ep_laws.proofs.OneKey.{interferes_real, interferes_back}

-- what was executed was committed
record WasCommitted (w : World) (i : ℕ) : Type 0 where
  replica : ℕ
  decree : Decree
  committed : Committed w replica i decree

was_committed : (f : ℕ) (acts : List Act) (w : World) → IsRun f w acts → (a : Act) (i : ℕ) → In a acts → Has (order_of a.done) i → WasCommitted (ends f w acts) i
was_committed f [] w run a i m k = absurd m
was_committed f (b ∷ acts) w run a i (inl e) k =
    let x = step_known (w.states b.replica) b.event b.done i run.0.step.executes (subst (λ (z : Act). Has (order_of z.done) i) (sym e) k) in
    record { replica = b.replica; decree = x.0; committed = permanence_holds f w (b ∷ acts) run i b.replica x.0 x.1 }
was_committed f (b ∷ acts) w run a i (inr m) k = was_committed f acts (moved f w b) run.1 a i m k

module _ (base : Store) (f : ℕ) (some : 0 < f) (few : size f ≤ 256) where
  -- the run up to a point
  pub run_to : (acts : List Act) → IsRun f (opening base) acts → (n : ℕ) → IsRun f (opening base) (take n acts)
  run_to acts run n = (run_parts f (take n acts) (drop n acts) (opening base) (subst (IsRun f (opening base)) (sym (take-append-drop n acts)) run)).0

  -- an instance of the history was executed, and so committed
  history_committed : (acts : List Act) → IsRun f (opening base) acts → (i : ℕ) → Has (instances_of (history_of base f acts)) i → WasCommitted (ends f (opening base) acts) i
  history_committed acts run i k =
      let t = ((linearizability_holds base f some few acts run).complete i).0 k in
      was_committed f acts (opening base) run t.0 i t.2 (in_has t.0.done i (Replied t.1) t.3)

  -- a proposed instance isn't 0
  not_zero : (acts : List Act) → IsRun f (opening base) acts → (i r : ℕ) (x : Decree) → Committed (ends f (opening base) acts) r i x → is_noop x.command ≡ false → i ≡ 0 → ⊥
  not_zero acts run i r x e real zero = let p = validity_holds base f some few acts run i r x e real in let is = p.instance in omega arith

  -- a command, looks at more than F replicas, each in a state that goes on from the point a, and instances among which all is that they find
  module _ (acts : List Act) (run : IsRun f (opening base) acts) (q : Command) (seen : ℕ → Option State) (a : ℕ) (done : List ℕ) (many : f < count (size f) (λ k. is_some (seen k)))
      (goes_on : (k : ℕ) (s : State) → seen k ≡ Some s → LeadsTo base f acts a k s) (within : (k i : ℕ) (s : State) → seen k ≡ Some s → Has (found s q) i → Has done i) where
    abbrev early : List Act
    early = take a acts

    run_early : IsRun f (opening base) early
    run_early = run_to acts run a

    -- a look at one of those that keep a command finds it
    looked_found : (i : ℕ) (d : Command) (kept : Kept base f some few i (ends f (opening base) early) d) → (i ≡ 0 → ⊥) → interfere d q ≡ true → (k : ℕ) (s : State) → kept.keepers k ≡ true → seen k ≡ Some s →
        Has (found s q) i
    looked_found i d kept ne clash k s keeps at =
        let on = goes_on k s at in
        let v = kept.each k keeps on.0 on.1 in
        subst (λ (z : State). Has (found z q) i) on.2
        (is_found ((ends f (ends f (opening base) early) on.0).states k) q i v.0 ne v.1 (interferes_back v.0.decree.command q (ap (λ z. interfere z q) v.2 ∙ clash)))

    -- one of those that keep it is among those that are looked at
    kept_found : (i : ℕ) (d : Command) → Kept base f some few i (ends f (opening base) early) d → (i ≡ 0 → ⊥) → interfere d q ≡ true → Has done i
    kept_found i d kept ne clash =
        let keep = kept.many in
        let both = meet (size f) kept.keepers (λ k. is_some (seen k)) (omega (arith, keep, many)) in
        let at = some_of (seen both.0) both.3 in
        within both.0 i at.0 at.1 (looked_found i d kept ne clash both.0 at.0 both.2 at.1)

    -- so what some replica had committed by then, and interferes with it, is found
    committed_found : (i p : ℕ) (x : Decree) → Committed (ends f (opening base) early) p i x → interfere x.command q ≡ true → Has done i
    committed_found i p x e clash =
        let real = interferes_real x.command q clash in
        kept_found i x.command (committed_kept base f some few early run_early p i x e real) (not_zero early run_early i p x e real) clash

    pub history_found : (whole ms : List Act) → IsRun f (opening base) whole → early ++ ms ≡ whole → (i : ℕ) → Has (instances_of (history_of base f early)) i → interfere (reported_in base f whole i) q ≡ true → Has done i
    history_found whole ms run_whole is i k meets =
        let x = history_committed early run_early i k in
        let known = all_known base f some few whole run_whole early ms is x.replica i x.decree x.committed in
        committed_found i x.replica x.decree x.committed (sym (ap (λ o. interfere (command_of o) q) known) ∙ meets)

  -- looks in the run itself
  module _ (acts : List Act) (run : IsRun f (opening base) acts) (looked : ℕ → Option ℕ) where
    abbrev pub seen_at : ℕ → Option State
    seen_at k = option_map (λ n. (world_at base f acts n).states k) (looked k)

    pub many_seen : f < count (size f) (λ k. is_some (looked k)) → f < count (size f) (λ k. is_some (seen_at k))
    many_seen many =
        let le = count_le (size f) (λ k. is_some (looked k)) (λ k. is_some (seen_at k)) (λ k lt e. mapped_is (λ n. (world_at base f acts n).states k) (looked k) e) in
        omega arith

    pub leads_on : (a : ℕ) → ((k n : ℕ) → looked k ≡ Some n → a ≤ n) → (k : ℕ) (s : State) → seen_at k ≡ Some s → LeadsTo base f acts a k s
    leads_on a later k s e =
        let t = mapped_back (λ n. (world_at base f acts n).states k) (looked k) s e in
        let ms = between a t.0 acts (later k t.0 t.1) in (
          ms.0,
          (run_parts f (take a acts) ms.0 (opening base) (subst (IsRun f (opening base)) (sym ms.1) (run_to acts run t.0))).1,
          ap (λ (w : World). w.states k) (sym (ends_both f (take a acts) ms.0 (opening base)) ∙ ap (λ these. ends f (opening base) these) ms.1) ∙ t.2,
        )

    pub seen_within : (q : Command) (done : List ℕ) → ((k n i : ℕ) → looked k ≡ Some n → Has (found ((world_at base f acts n).states k) q) i → Has done i) →
        (k i : ℕ) (s : State) → seen_at k ≡ Some s → Has (found s q) i → Has done i
    seen_within q done within k i s e h =
        let t = mapped_back (λ n. (world_at base f acts n).states k) (looked k) s e in
        within k t.0 i t.1 (subst (λ (z : State). Has (found z q) i) (sym t.2) h)
