-- Where all that an instance reaches is committed, its execution is taken.
use Rattle.std.proofs.Common.{◌≡◌, ℕ, inl, inr, Bool, true, false, cond, List, [], ◌∷◌, ◌++◌, Option, Some, None, refl, sym, ap, subst, ◌∙◌, append_assoc}
use Rattle.std.proofs.lemmas.Bool.{lt-ltb}
use Rattle.std.specs.List.{flat_map}
use Rattle.ep_base.specs.Commands.{Command}
use Rattle.ep_base.specs.Instances.{leader_of}
use Rattle.ep_base.specs.Places.{Has}
use Rattle.ep_base.specs.Quorums.{size}
use Rattle.ep_base.specs.declared.attrs.Attrs.{Attrs}
use Rattle.ep_base.specs.declared.reply.Answer.{Answer}
use Rattle.ep_base.proofs.Places.{Has-first}
use Rattle.ep_rules.specs.Cells.{OutOfRange, NotMine, record_or_fresh, committed_decree}
use Rattle.ep_rules.specs.Graph.{Graph}
use Rattle.ep_rules.specs.Graph.Reaches.{itself}
use Rattle.ep_rules.specs.InterferenceSet.{instances}
use Rattle.ep_rules.specs.Maps.{Map, get, entries}
use Rattle.ep_rules.specs.OneMap.{Store, answer, after, answers_of}
use Rattle.ep_rules.specs.Order.{InBlocks, IsPlan}
use Rattle.ep_rules.specs.States.{attrs_of, graph_in, command_in}
use Rattle.ep_rules.specs.Steps.{order_of, answers_in}
use Rattle.ep_rules.specs.declared.record.Record.{Record}
use Rattle.ep_rules.proofs.Places.{has_tail, has_left}
use Rattle.ep_laws.proofs.Entries.{AllEntries, all_get}
use Rattle.ep_laws.proofs.Planning.{plan_of}
use Rattle.ep_laws.specs.Executing.{CanExecute}

-- What is committed is among what is recorded.

all_named : (is : List ℕ) (es : List (ℕ × Record)) → ((j : ℕ) → Has (instances es) j → Has is j) → AllEntries (λ (j : ℕ) (x : Record). Has is j) es
all_named is [] h = tt
all_named is (e ∷ es) h = (h e.0 (Has-first e.0 (instances es)), all_named is es (λ j k. h j (has_tail e.0 j (instances es) k)))

recorded_named : (m : Map Record) (j : ℕ) (a : Attrs) → graph_in m j ≡ Some a → Has (instances (entries m)) j
recorded_named m j a e = go (get m j) refl e
  where
    go : (o : Option Record) → get m j ≡ o → attrs_of (committed_decree (record_or_fresh j o).vote) ≡ Some a → Has (instances (entries m)) j
    go None is e = absurd (cc)
    go (Some x) is e = all_get (λ (k : ℕ) (y : Record). Has (instances (entries m)) k) m j x (all_named (instances (entries m)) (entries m) (λ k h. h)) is

-- The answers of a plan.

abbrev answered : (ℕ → Command) → Store → List ℕ → List (ℕ × Answer)
answered c s [] = []
answered c s (i ∷ is) = (i, answer s (c i)) ∷ answered c (after s (c i)) is

answered_order : (c : ℕ → Command) (s : Store) (is : List ℕ) → order_of (answered c s is) ≡ is
answered_order c s [] = refl
answered_order c s (i ∷ is) = ap (λ l. i ∷ l) (answered_order c (after s (c i)) is)

answered_answers : (c : ℕ → Command) (s : Store) (is : List ℕ) → answers_in (answered c s is) ≡ answers_of c s is
answered_answers c s [] = refl
answered_answers c s (i ∷ is) = ap (λ l. answer s (c i) ∷ l) (answered_answers c (after s (c i)) is)

-- The root is in its plan, or was executed before.

listed : (g : Graph) (done : List ℕ) (root : ℕ) (blocks : List (List ℕ)) → InBlocks g done root blocks → Has (done ++ flat_map (λ b. b) blocks) root
listed g done root [] h = has_left done [] root (h root itself)
listed g done root (block ∷ blocks) h = subst (λ xs. Has xs root) (append_assoc done block (flat_map (λ b. b) blocks)) (listed g (done ++ block) root blocks h.1)

planned : (g : Graph) (done : List ℕ) (root : ℕ) (order : List ℕ) → IsPlan g done root order → Has (done ++ order) root
planned g done root order (inl p) = has_left done order root p.0
planned g done root order (inr p) = subst (λ l. Has (done ++ l) root) (sym p.1.1.1) (listed g done root p.1.1.0 p.1.1.2)

screens : (b : Bool) → b ≡ true → cond b (cond true None (Some NotMine)) (Some OutOfRange) ≡ None
screens true e = refl
screens false e = absurd (cc)

pub can_execute_lem : CanExecute
can_execute_lem f me s root lead complete =
    let plan : (order : List ℕ) × IsPlan (graph_in s.records) s.executed root order =
    plan_of (graph_in s.records) (instances (entries s.records)) root (λ j r. let c = complete j r in recorded_named s.records j c.0 c.1) s.executed complete in
    let done : List (ℕ × Answer) = answered (command_in s.records) s.store plan.0 in
    let same : order_of done ≡ plan.0 = answered_order (command_in s.records) s.store plan.0 in
    record {
      done = done;
      step = record {
        unscreened = screens _ (lt-ltb (leader_of root) (size f) lead);
        taken = tt;
        executes = (
          subst (λ l. IsPlan (graph_in s.records) s.executed root l) (sym same) plan.1,
          answered_answers (command_in s.records) s.store plan.0 ∙ ap (λ l. answers_of (command_in s.records) s.store l) (sym same),
        );
      };
      executed = subst (λ l. Has (s.executed ++ l) root) (sym same) (planned (graph_in s.records) s.executed root plan.0 plan.1);
    }
