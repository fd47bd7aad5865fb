-- In a run each replica's machine is handed what its executions list, by one command an instance.
use Rattle.std.proofs.Common.{◌≡◌, ℕ, ◌<◌, ◌≤◌, ◌↔◌, Bool, true, false, cond, eqb, inl, inr, Some, List, [], ◌∷◌, ◌++◌, refl, sym, ap, subst, ◌∙◌, arith, append-nil, append_assoc}
use Rattle.std.proofs.lemmas.Bool.{eqb-true, false≢true}
use Rattle.std.specs.List.{filter}
use Rattle.ep_base.specs.Places.{Has}
use Rattle.ep_base.specs.Quorums.{size}
use Rattle.ep_base.specs.Sameness.{is_noop}
use Rattle.ep_base.specs.Commands.{Command}
use Rattle.ep_base.proofs.Places.{Has-first}
use Rattle.ep_rules.specs.Graph.{Graph}
use Rattle.ep_rules.specs.History.{Execution, nothing, done_after, of, merged, IsLocal}
use Rattle.ep_rules.specs.Machines.{Machine, after_operations, reply_to, ArePlanned, ArePlans, executed_at, HandedStays, RunsOneMachine, RunsOneState}
use Rattle.ep_rules.specs.OneMap.{Store}
use Rattle.ep_rules.specs.Operations.{Operation, instances_of, operations_of, history_of}
use Rattle.ep_rules.specs.Order.{IsClosed}
use Rattle.ep_rules.specs.States.{State, graph_in, command_in, command_of}
use Rattle.ep_rules.specs.Steps.{order_of, leaves}
use Rattle.ep_rules.specs.Worlds.{World, opening, Act, In, moved, IsRun, ends}
use Rattle.ep_rules.proofs.AnyMachine.{one_machine_lem, one_state_lem}
use Rattle.ep_rules.proofs.Closed.{leaves_closed, fresh_closed}
use Rattle.ep_rules.proofs.JournalsCallers.{executions_both}
use Rattle.ep_rules.proofs.JournalsCommitted.{run_parts}
use Rattle.ep_rules.proofs.JournalsExecutions.{executions, attrs_some, done_is}
use Rattle.ep_rules.proofs.Places.{has_cons, has_tail}
use Rattle.ep_rules.proofs.RunCommits.{decrees, graph_of, reported_in, all_known, dependent, locals}
use Rattle.ep_rules.proofs.RunHistories.{AreOf, history_is}
use Rattle.ep_rules.proofs.Runs.{ends_append}
use Rattle.ep_rules.proofs.Answered.{is_real}

-- Operations by their instances.

operations_same : (c d : ℕ → Command) (xs : List ℕ) → ((i : ℕ) → Has xs i → c i ≡ d i) → operations_of c xs ≡ operations_of d xs
operations_same c d [] h = refl
operations_same c d (x ∷ xs) h =
    ap (λ e. cond (is_noop e) (operations_of c xs) (record { instance = x; command = e } ∷ operations_of c xs)) (h x (Has-first x xs))
    ∙ ap (λ os. cond (is_noop (d x)) os (record { instance = x; command = d x } ∷ os)) (operations_same c d xs (λ i k. h i (has_tail x i xs k)))

abbrev named : (ℕ → Command) → List ℕ → List Operation
named c [] = []
named c (i ∷ is) = record { instance = i; command = c i } ∷ named c is

operations_named : (c : ℕ → Command) (xs : List ℕ) → operations_of c xs ≡ named c (filter (is_real c) xs)
operations_named c [] = refl
operations_named c (x ∷ xs) = go (is_noop (c x)) (operations_named c xs)
  where
    go : (b : Bool) → operations_of c xs ≡ named c (filter (is_real c) xs) →
        cond b (operations_of c xs) (record { instance = x; command = c x } ∷ operations_of c xs) ≡ named c (cond (cond b false true) (x ∷ filter (is_real c) xs) (filter (is_real c) xs))
    go true e = e
    go false e = ap (λ os. record { instance = x; command = c x } ∷ os) e

of_named : (c : ℕ → Command) (h : List Operation) → AreOf c h → h ≡ named c (instances_of h)
of_named c [] k = refl
of_named c (o ∷ h) k = ap (λ (d : Command). record { instance = o.instance; command = d } ∷ h) k.0 ∙ ap (λ os. record { instance = o.instance; command = c o.instance } ∷ os) (of_named c h k.1)

operations_append : (c : ℕ → Command) (xs ys : List ℕ) → operations_of c (xs ++ ys) ≡ operations_of c xs ++ operations_of c ys
operations_append c [] ys = refl
operations_append c (x ∷ xs) ys = go (is_noop (c x)) (operations_append c xs ys)
  where
    go : (b : Bool) → operations_of c (xs ++ ys) ≡ operations_of c xs ++ operations_of c ys →
        cond b (operations_of c (xs ++ ys)) (record { instance = x; command = c x } ∷ operations_of c (xs ++ ys)) ≡ cond b (operations_of c xs) (record { instance = x; command = c x } ∷ operations_of c xs) ++ operations_of c ys
    go true e = e
    go false e = ap (λ os. record { instance = x; command = c x } ∷ os) e

-- an operation of these instances stands among them, and is no no-op
stands : (c : ℕ → Command) (xs : List ℕ) (o : Operation) → In o (operations_of c xs) → Has xs o.instance × (is_noop (c o.instance) ≡ false)
stands c [] o k = absurd k
stands c (x ∷ xs) o k = go (is_noop (c x)) refl k (stands c xs o)
  where
    later : Has xs o.instance × (is_noop (c o.instance) ≡ false) → Has (x ∷ xs) o.instance × (is_noop (c o.instance) ≡ false)
    later p = (has_tail x o.instance xs p.0, p.1)

    go : (b : Bool) → is_noop (c x) ≡ b → In o (cond b (operations_of c xs) (record { instance = x; command = c x } ∷ operations_of c xs)) →
        (In o (operations_of c xs) → Has xs o.instance × (is_noop (c o.instance) ≡ false)) → Has (x ∷ xs) o.instance × (is_noop (c o.instance) ≡ false)
    go true e k rec = later (rec k)
    go false e (inl s) rec = let i : x ≡ o.instance = ap (λ (p : Operation). p.instance) s in (subst (λ y. Has (x ∷ xs) y) i (Has-first x xs), subst (λ y. is_noop (c y) ≡ false) i e)
    go false e (inr k) rec = later (rec k)

stands_there : (c : ℕ → Command) (xs : List ℕ) (i : ℕ) → Has xs i → is_noop (c i) ≡ false → In (record { instance = i; command = c i }) (operations_of c xs)
stands_there c [] i h is_real = absurd (omega arith)
stands_there c (x ∷ xs) i h is_real = elim (has_cons x i xs h) [
  | inl s ↦ here (is_noop (c x)) (ap (λ y. is_noop (c y)) s ∙ is_real) s
  | inr k ↦ there (is_noop (c x)) (stands_there c xs i k is_real)
]
  where
    here : (b : Bool) → b ≡ false → x ≡ i → In (record { instance = i; command = c i }) (cond b (operations_of c xs) (record { instance = x; command = c x } ∷ operations_of c xs))
    here true e s = absurd (false≢true (sym e))
    here false e s = inl (ap (λ y. record { instance = y; command = c y }) s)

    there : (b : Bool) → In (record { instance = i; command = c i }) (operations_of c xs) → In (record { instance = i; command = c i }) (cond b (operations_of c xs) (record { instance = x; command = c x } ∷ operations_of c xs))
    there true k = k
    there false k = inr k

-- the answers of local runs left out
plans_of : (base : Store) (all : Graph) (c : ℕ → Command) (done : List ℕ) (es : List Execution) → IsLocal base all c done es → ArePlanned all done es
plans_of base all c done [] h = tt
plans_of base all c done (e ∷ es) h = (h.0, h.1, plans_of base all c (done ++ e.order) es h.3)

-- What a replica has executed it has committed.
module _ (f : ℕ) where
  abbrev AllClosed : World → Type 0
  AllClosed w = (r : ℕ) → IsClosed (graph_in (w.states r).records) (w.states r).executed

  abbrev IsKept : State → Type 0
  IsKept s = IsClosed (graph_in s.records) s.executed

  closed_next : (w : World) (a : Act) → IsRun f w (a ∷ []) → AllClosed w → AllClosed (moved f w a)
  closed_next w a h closed r = go (eqb a.replica r) refl
    where
      go : (b : Bool) → eqb a.replica r ≡ b → IsKept (cond b (leaves f r (w.states r) a.event a.done) (w.states r))
      go false q = closed r
      go true q = subst (λ z. IsKept (leaves f z (w.states z) a.event a.done)) (eqb-true a.replica r q) (leaves_closed f a.replica (w.states a.replica) a.event a.done (closed a.replica) h.0.step)

  closed_run : (acts : List Act) (w : World) → IsRun f w acts → AllClosed w → AllClosed (ends f w acts)
  closed_run [] w h closed = closed
  closed_run (a ∷ acts) w h closed = closed_run acts (moved f w a) h.1 (closed_next w a (h.0, tt) closed)

-- A run, and what is executed at any time of it.
module _ (base : Store) (f : ℕ) (some : 0 < f) (few : size f ≤ 256) (acts : List Act) (run : IsRun f (opening base) acts) where
  abbrev cs : ℕ → Command
  cs = reported_in base f acts

  abbrev es : List Execution
  es = executions f (opening base) acts

  plans : ArePlans (graph_of base f acts) es
  plans r = plans_of base (graph_of base f acts) cs [] (of r es) (locals base f some few acts run r)

  -- the history has each instance once that is no no-op
  listed : history_of base f acts ≡ operations_of cs (merged [] es)
  listed =
      let h = history_is base f (decrees base f acts) acts (opening base) [] [] run (all_known base f some few acts run) (record { instances = refl; commands = tt }) in
      of_named cs (history_of base f acts) h.commands ∙ ap (named cs) h.instances ∙ sym (operations_named cs (merged [] es))

  module _ (early late : List Act) (whole : early ++ late ≡ acts) (r : ℕ) where
    first : IsRun f (opening base) early
    first = (run_parts f early late (opening base) (subst (IsRun f (opening base)) (sym whole) run)).0

    done_then : done_after nothing (executions f (opening base) early) r ≡ ((ends f (opening base) early).states r).executed
    done_then = done_is f early (opening base) nothing first (λ q. refl) r

    -- what a replica has executed by then is what the whole run reports
    reported_then : (i : ℕ) → Has ((ends f (opening base) early).states r).executed i → command_in ((ends f (opening base) early).states r).records i ≡ cs i
    reported_then i k =
        let a = closed_run f early (opening base) first (λ q. fresh_closed base) r i k in
        let x = attrs_some _ a.0 a.1 in
        ap command_of (x.1 ∙ sym (all_known base f some few acts run early late whole r i x.0 x.1))

    pub handed_then : executed_at (ends f (opening base) early) r ≡ operations_of cs (done_after nothing (executions f (opening base) early) r)
    handed_then = operations_same _ cs ((ends f (opening base) early).states r).executed reported_then ∙ ap (λ xs. operations_of cs xs) (sym done_then)

  module _ {S R : Type 0} (M : Machine S R) (start : S) where
    machine_then : (r : ℕ) (o : Operation) → In o (executed_at (ends f (opening base) acts) r) →
        (x : R) × (reply_to M start (executed_at (ends f (opening base) acts) r) o.instance ≡ Some x) × (reply_to M start (history_of base f acts) o.instance ≡ Some x)
    machine_then r o k =
        let own = handed_then acts [] (append-nil acts) r in
        let at = stands cs (done_after nothing es r) o (subst (λ os. In o os) own k) in
        let x = one_machine_lem S R M start (graph_of base f acts) cs es (dependent base f some few acts run) plans r o.instance at.0 at.1 in
        (x.0, ap (λ os. reply_to M start os o.instance) own ∙ x.1, ap (λ os. reply_to M start os o.instance) listed ∙ x.2)

pub runs_one_machine_lem : (S R : Type 0) → RunsOneMachine S R
runs_one_machine_lem S R M start base f some few acts run r o k = machine_then base f some few acts run M start r o k

module _ (base : Store) (f : ℕ) (some : 0 < f) (few : size f ≤ 256) (early late : List Act) (run : IsRun f (opening base) (early ++ late)) (r q : ℕ) where
  abbrev both : List Act
  both = early ++ late

  abbrev cb : ℕ → Command
  cb = reported_in base f both

  abbrev first_done : List ℕ
  first_done = done_after nothing (executions f (opening base) early) r

  abbrev second_done : List ℕ
  second_done = done_after nothing (executions f (opening base) both) q

  first_own : executed_at (ends f (opening base) early) r ≡ operations_of cb first_done
  first_own = handed_then base f some few both run early late refl r

  second_own : executed_at (ends f (opening base) both) q ≡ operations_of cb second_done
  second_own = handed_then base f some few both run both [] (append-nil both) q

  module _ (same : (o : Operation) → In o (executed_at (ends f (opening base) early) r) ↔ In o (executed_at (ends f (opening base) both) q)) where
    same_done : (i : ℕ) → is_noop (cb i) ≡ false → Has first_done i ↔ Has second_done i
    same_done i is_real =
        let o : Operation = record { instance = i; command = cb i } in (
          λ h. (stands cb second_done o (subst (λ os. In o os) second_own ((same o).0 (subst (λ os. In o os) (sym first_own) (stands_there cb first_done i h is_real))))).0,
          λ h. (stands cb first_done o (subst (λ os. In o os) first_own ((same o).1 (subst (λ os. In o os) (sym second_own) (stands_there cb second_done i h is_real))))).0,
        )

    state_then : {S R : Type 0} (M : Machine S R) (start : S) → after_operations M start (executed_at (ends f (opening base) early) r) ≡ after_operations M start (executed_at (ends f (opening base) both) q)
    state_then {S} {R} M start =
        let parts = executions_both f early late (opening base) in
        let rest : List Execution = executions f (ends f (opening base) early) late in
        let all : Graph = graph_of base f both in
        let p : ArePlans all (executions f (opening base) early ++ rest) = subst (λ xs. ArePlans all xs) parts (plans base f some few both run) in
        let given : (i : ℕ) → is_noop (cb i) ≡ false → Has first_done i ↔ Has (done_after nothing (executions f (opening base) early ++ rest) q) i =
        subst (λ xs. (i : ℕ) → is_noop (cb i) ≡ false → Has first_done i ↔ Has (done_after nothing xs q) i) parts same_done in
        ap (λ os. after_operations M start os) first_own
        ∙ one_state_lem S R M start all cb (executions f (opening base) early) rest (dependent base f some few both run) p r q given
        ∙ sym (ap (λ os. after_operations M start os) second_own ∙ ap (λ xs. after_operations M start (operations_of cb (done_after nothing xs q))) parts)

pub runs_one_state_lem : (S R : Type 0) → RunsOneState S R
runs_one_state_lem S R M start base f some few early late run r q same = state_then base f some few early late run r q same M start

-- What was handed stays.

executed_grows : (f : ℕ) (acts : List Act) (w : World) (r : ℕ) → (more : List ℕ) × (((ends f w acts).states r).executed ≡ (w.states r).executed ++ more)
executed_grows f [] w r = ([], sym (append-nil _))
executed_grows f (a ∷ acts) w r = go (eqb a.replica r) (executed_grows f acts (moved f w a) r)
  where
    go : (b : Bool) → (more : List ℕ) × (((ends f (moved f w a) acts).states r).executed ≡ (cond b (leaves f r (w.states r) a.event a.done) (w.states r)).executed ++ more) →
        (more : List ℕ) × (((ends f (moved f w a) acts).states r).executed ≡ (w.states r).executed ++ more)
    go true t = (order_of a.done ++ t.0, t.1 ∙ append_assoc (w.states r).executed (order_of a.done) t.0)
    go false t = t

pub handed_stays_lem : HandedStays
handed_stays_lem base f some few early late run r =
    let own = first_own base f some few early late run r r in
    let later = second_own base f some few early late run r r in
    let grown = executed_grows f late (ends f (opening base) early) r in
    let cb : ℕ → Command = reported_in base f (early ++ late) in
    let d1 = done_then base f some few (early ++ late) run early late refl r in
    let d2 = done_then base f some few (early ++ late) run (early ++ late) [] (append-nil (early ++ late)) r in (
      operations_of cb grown.0,
      later ∙ ap (λ xs. operations_of cb xs) (d2 ∙ ap (λ (w : World). (w.states r).executed) (ends_append base f some few early late (opening base)) ∙ grown.1 ∙ ap (λ xs. xs ++ grown.0) (sym d1))
          ∙ operations_append cb (done_after nothing (executions f (opening base) early) r) grown.0
          ∙ ap (λ os. os ++ operations_of cb grown.0) (sym own),
    )
