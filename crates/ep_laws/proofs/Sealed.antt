-- Whoever has executed a seal has closed its map.
use Rattle.std.proofs.Common.{◌≡◌, ℕ, true, not, eqb, is_none, Option, Some, None, List, [], ◌∷◌, refl, sym, ap, subst, ◌∙◌, inl, inr, arith}
use Rattle.std.proofs.lemmas.Bool.{eqb-true, false≢true}
use Rattle.ep_base.specs.Commands.{Command, Noop, Get, Put, Del, Swap, Cas, Seal, Opaque, Tx}
use Rattle.ep_base.specs.Interference.{is_seal}
use Rattle.ep_base.specs.Places.{Has}
use Rattle.ep_base.specs.declared.decree.Decree.{Decree}
use Rattle.ep_base.specs.declared.reply.Answer.{Answer}
use Rattle.ep_rules.specs.Graph.{Reaches}
use Rattle.ep_rules.specs.OneMap.{Contents, Store, is_closed, after_under, after, after_all}
use Rattle.ep_rules.specs.Order.{IsPlan}
use Rattle.ep_rules.specs.States.{State, committed_in, command_of, command_in, graph_in}
use Rattle.ep_rules.specs.Steps.{Event, Propose, Handle, GiveUp, Recover, Execute, order_of, Executes, leaves}
use Rattle.ep_rules.specs.Worlds.{World, opening, Act, IsRun, moved, ends}
use Rattle.ep_rules.proofs.Closed.{listed_reached}
use Rattle.ep_rules.proofs.JournalsExecutions.{attrs_some}
use Rattle.ep_rules.proofs.JournalsKeep.{leaves_stays}
use Rattle.ep_rules.proofs.Keeping.{split}
use Rattle.ep_rules.proofs.Places.{has_cons, has_split}
use Rattle.ep_laws.specs.Serving.{ServedSealCloses}
use Rattle.ep_laws.proofs.Same.{same_run}

-- A seal closes a map, which then stays closed.

seal_closes : (o : Option (List ℕ)) (m : Contents) (c : Command) → is_seal c ≡ true → not (is_none (after_under o m c).seal) ≡ true
seal_closes (Some v) m c e = refl
seal_closes None m Noop e = absurd (false≢true e)
seal_closes None m (Get k) e = absurd (false≢true e)
seal_closes None m (Put k v) e = absurd (false≢true e)
seal_closes None m (Del k) e = absurd (false≢true e)
seal_closes None m (Swap keys) e = absurd (false≢true e)
seal_closes None m (Cas k expected new) e = absurd (false≢true e)
seal_closes None m (Seal v) e = refl
seal_closes None m (Opaque p b) e = absurd (false≢true e)
seal_closes None m (Tx is) e = absurd (false≢true e)

stays_under : (o : Option (List ℕ)) (m : Contents) (c : Command) → not (is_none o) ≡ true → not (is_none (after_under o m c).seal) ≡ true
stays_under None m c e = absurd (false≢true e)
stays_under (Some v) m c e = refl

stays_closed : (c : ℕ → Command) (s : Store) (is : List ℕ) → is_closed s ≡ true → is_closed (after_all c s is) ≡ true
stays_closed c s [] e = e
stays_closed c s (i ∷ is) e = stays_closed c (after s (c i)) is (stays_under s.seal s.contents (c i) e)

closed_after : (c : ℕ → Command) (s : Store) (is : List ℕ) (i : ℕ) → Has is i → is_seal (c i) ≡ true → is_closed (after_all c s is) ≡ true
closed_after c s [] i h e = absurd (omega arith)
closed_after c s (x ∷ is) i h e = elim (has_cons x i is h) [
  | inl at ↦ stays_closed c (after s (c x)) is (seal_closes s.seal s.contents (c x) (subst (λ j. is_seal (c j) ≡ true) (sym at) e))
  | inr there ↦ closed_after c (after s (c x)) is i there e
]

-- What was executed is committed, and a seal among it has closed the map.
abbrev ClosedBy : State → Type 0
ClosedBy s = (i : ℕ) → Has s.executed i → (d : Decree) × (committed_in s.records i ≡ Some d) × (is_seal d.command ≡ true → is_closed s.store ≡ true)

planned_committed : (s : State) (root : ℕ) (order : List ℕ) → IsPlan (graph_in s.records) s.executed root order → (i : ℕ) → Has order i → (d : Decree) × (committed_in s.records i ≡ Some d)
planned_committed s root order (inl p) i h = absurd (let none : Has [] i = subst (λ xs. Has xs i) p.1 h in omega arith)
planned_committed s root order (inr p) i h =
    let r : Reaches (graph_in s.records) root i = listed_reached (graph_in s.records) s.executed root p.1.1.0 p.1.1.2 i (subst (λ xs. Has xs i) p.1.1.1 h) in
    let a = p.1.0 i r in
    let x = attrs_some (committed_in s.records i) a.0 a.1 in
    (x.0, x.1)

nothing_done : (done : List (ℕ × Answer)) (i : ℕ) → done ≡ [] → Has (order_of done) i → ⊥
nothing_done done i e h = let none : Has [] i = subst (λ d. Has (order_of d) i) e h in absurd (omega arith)

done_committed : (s : State) (e : Event) (done : List (ℕ × Answer)) → Executes s e done → (i : ℕ) → Has (order_of done) i → (d : Decree) × (committed_in s.records i ≡ Some d)
done_committed s (Propose client request c seen named) done x i h = absurd (nothing_done done i x h)
done_committed s (Handle m) done x i h = absurd (nothing_done done i x h)
done_committed s (GiveUp j) done x i h = absurd (nothing_done done i x h)
done_committed s (Recover j) done x i h = absurd (nothing_done done i x h)
done_committed s (Execute root) done x i h = planned_committed s root (order_of done) x.0 i h

leaves_closed_by : (f me : ℕ) (s : State) (e : Event) (done : List (ℕ × Answer)) → Executes s e done → ClosedBy s → ClosedBy (leaves f me s e done)
leaves_closed_by f me s e done x ok i h = elim (has_split s.executed (order_of done) i h) [
  | inl old ↦ (let t = ok i old in (t.0, leaves_stays f me s e done i t.0 t.1, λ seal. stays_closed (command_in s.records) s.store (order_of done) (t.2 seal)))
  | inr new ↦ (
      let t = done_committed s e done x i new in
      (t.0, leaves_stays f me s e done i t.0 t.1, λ seal. closed_after (command_in s.records) s.store (order_of done) i new (ap (λ o. is_seal (command_of o)) t.1 ∙ seal)))
]

run_closed_by : (f : ℕ) (acts : List Act) (w : World) → IsRun f w acts → ((r : ℕ) → ClosedBy (w.states r)) → (r : ℕ) → ClosedBy ((ends f w acts).states r)
run_closed_by f [] w run ok r = ok r
run_closed_by f (a ∷ acts) w run ok r = run_closed_by f acts (moved f w a) run.1 (λ k. go k) r
  where
    go : (k : ℕ) → ClosedBy ((moved f w a).states k)
    go k = split ClosedBy (eqb a.replica k) (leaves f k (w.states k) a.event a.done) (w.states k)
        (λ e. subst (λ j. ClosedBy (leaves f j (w.states j) a.event a.done)) (eqb-true a.replica k e) (leaves_closed_by f a.replica (w.states a.replica) a.event a.done (run.0.step).executes (ok a.replica)))
        (λ e. ok k)

pub served_seal_closes_lem : ServedSealCloses
served_seal_closes_lem base f two few early run live proposal v s =
    let w : World = ends f (opening base) early in
    let first : (r : ℕ) → ClosedBy (w.states r) = run_closed_by f early (opening base) run (λ r i h. absurd (omega arith)) in
    let t = run_closed_by f s.acts w (same_run f w s.acts s.alone).run first proposal.replica s.instance s.executed in
    let same : t.0 ≡ s.decree = (let e : Some t.0 ≡ Some s.decree = sym t.1 ∙ s.committed in cc) in
    t.2 (ap (λ (d : Decree). is_seal d.command) same ∙ ap is_seal s.command)
