-- An instance is executed alone, with its answer, where all that it depends on was executed before.
use Rattle.std.proofs.Common.{◌≡◌, ℕ, ◌⊎◌, inl, inr, List, [], ◌∷◌, Some, refl, sym, subst, ◌∙◌, arith}
use Rattle.ep_base.specs.declared.attrs.Attrs.{Attrs}
use Rattle.ep_base.specs.Places.{Has}
use Rattle.ep_rules.specs.Graph.{Graph, Reaches}
use Rattle.ep_rules.specs.Graph.Reaches.{itself, onward}
use Rattle.ep_rules.specs.Order.{IsClosed, IsComplete, IsNext, IsPlan}
use Rattle.ep_base.specs.declared.reply.Answer.{Answer}
use Rattle.ep_laws.specs.Rows.OneMap.{answers_of}
use Rattle.ep_laws.specs.Rows.States.{State, graph_in, command_in}
use Rattle.ep_laws.specs.Rows.Steps.{IsExecution}
use Rattle.ep_rules.proofs.Places.{has_cons, has_left, has_right, place_head}

some_attrs : (a b : Attrs) → Some a ≡ Some b → a ≡ b
some_attrs a b e = cc

has_one : (i j : ℕ) → j ≡ i → Has (i ∷ []) j
has_one i j e = subst (λ k. Has (i ∷ []) k) (sym e) (let p = place_head i [] in omega arith)

one_has : (i j : ℕ) → Has (i ∷ []) j → j ≡ i
one_has i j h = elim (has_cons i j [] h) [ inl e ↦ sym e | inr none ↦ absurd (omega arith) ]

module _ (g : Graph) (done : List ℕ) (closed : IsClosed g done) (i : ℕ) (x : Attrs) (is : g i ≡ Some x) (deps : (j : ℕ) → Has x.deps j → Has done j) (left : ¬ Has done i) where
  reached : (j : ℕ) → Reaches g i j → (j ≡ i) ⊎ Has done j
  reached j itself = inl refl
  reached j (onward {j = k} a r e h) = go (reached k r)
    where
      go : (k ≡ i) ⊎ Has done k → (j ≡ i) ⊎ Has done j
      go (inl same) = inr (deps j (subst (λ (z : Attrs). Has z.deps j) (some_attrs a x (sym e ∙ subst (λ z. g z ≡ Some x) (sym same) is)) h))
      go (inr d) = let c = closed k d in inr (c.2 j (subst (λ (z : Attrs). Has z.deps j) (some_attrs a c.0 (sym e ∙ c.1)) h))

  complete : IsComplete g i
  complete j r = elim (reached j r) [ inl e ↦ (x, subst (λ k. g k ≡ Some x) (sym e) is) | inr d ↦ (let c = closed j d in (c.0, c.1)) ]

  next : IsNext g done i (i ∷ [])
  next = record {
    first = i;
    reached = itself;
    ready = record { left = left; clear = λ j r. elim (reached j r) [ inl e ↦ inr (subst (λ k. Reaches g k i) (sym e) itself) | inr d ↦ inl d ] };
    least = λ j r ready lt. elim (reached j r) [ inl e ↦ absurd (omega arith) | inr d ↦ absurd (ready.left d) ];
    is = record {
      members = λ j. (
        (λ h. let e = one_has i j h in subst (λ k. (Reaches g i k × Reaches g k i) × ¬ Has done k) (sym e) ((itself, itself), left)),
        (λ t. elim (reached j t.0.0) [ inl e ↦ has_one i j e | inr d ↦ absurd (t.1 d) ]),
      );
      rises = ((λ j h. absurd (omega arith)), tt);
    };
  }

  pub alone : IsPlan g done i (i ∷ [])
  alone = inr (left, (complete, ((i ∷ []) ∷ [], refl, (next, λ j r. elim (reached j r) [ inl e ↦ has_right done (i ∷ []) j (has_one i j e) | inr d ↦ has_left done (i ∷ []) j d ]))))

pub execution : (s : State) (i : ℕ) (x : Attrs) (answer : Answer) → IsClosed (graph_in s.records) s.executed → graph_in s.records i ≡ Some x → ((j : ℕ) → Has x.deps j → Has s.executed j) → ¬ Has s.executed i →
    answers_of (command_in s.records) s.store (i ∷ []) ≡ answer ∷ [] → IsExecution s i ((i, answer) ∷ [])
execution s i x answer closed is deps left reported = (alone (graph_in s.records) s.executed closed i x is deps left, sym reported)

-- nothing is closed, and so is one instance that depends on nothing
pub closed_none : (g : Graph) → IsClosed g []
closed_none g i h = absurd (omega arith)

pub closed_one : (g : Graph) (i seq : ℕ) → g i ≡ Some (record { seq = seq; deps = [] }) → IsClosed g (i ∷ [])
closed_one g i seq is j h = (record { seq = seq; deps = [] }, subst (λ k. g k ≡ Some (record { seq = seq; deps = [] })) (sym (one_has i j h)) is, λ k none. absurd (omega arith))
