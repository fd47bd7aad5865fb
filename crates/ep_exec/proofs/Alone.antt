-- The plan of a root that depends on nothing that is left.
use Rattle.std.proofs.Common.{◌≡◌, ℕ, ◌⊎◌, inl, inr, List, [], ◌∷◌, ◌++◌, Option, Some, None, true, refl, sym, ap, subst, ◌∙◌, arith}
use Rattle.std.proofs.lemmas.Bool.{false≢true}
use Rattle.ep_base.specs.declared.attrs.Attrs.{Attrs}
use Rattle.ep_base.specs.Places.{Has}
use Rattle.ep_rules.specs.Graph.{Graph, Reaches}
use Rattle.ep_rules.specs.Graph.Reaches.{itself, onward}
use Rattle.ep_rules.specs.Order.{IsNext, InBlocks, IsPlan, IsClosed}
use Rattle.ep_rules.proofs.Places.{has_left, has_right, has_single}
use Rattle.ep_exec.specs.Cut.{is_alone}
use Rattle.ep_exec.proofs.Clear.{in_then}
use Rattle.ep_exec.proofs.Counts.{single_has}

-- its attributes
pub record AloneAs (skipped : List ℕ) (o : Option Attrs) : Type 0 where
  pub attrs : Attrs
  pub is : o ≡ Some attrs
  pub deps : (d : ℕ) → Has attrs.deps d → Has skipped d

alone_as : (skipped : List ℕ) (o : Option Attrs) → is_alone skipped o ≡ true → AloneAs skipped o
alone_as skipped None e = absurd (false≢true e)
alone_as skipped (Some a) e = record { attrs = a; is = refl; deps = in_then skipped a.deps e }

module _ (g : Graph) (skipped executed : List ℕ) (root : ℕ) (closed : IsClosed g skipped) (sub : (i : ℕ) → Has skipped i → Has executed i) (left : ¬ Has executed root) (alone : AloneAs skipped (g root)) where
  -- it reaches itself and what is skipped
  reach : {j : ℕ} → Reaches g root j → (root ≡ j) ⊎ Has skipped j
  reach itself = inl refl
  reach (onward {j = j} {k = k} b r e d) = inr (elim (reach r) [
    | inl s ↦ (let both : Some alone.attrs ≡ Some b = sym alone.is ∙ ap g s ∙ e in let same : alone.attrs ≡ b = cc in alone.deps k (subst (λ (a : Attrs). Has a.deps k) (sym same) d))
    | inr h ↦ (let c = closed j h in let both : Some c.0 ≡ Some b = sym c.1 ∙ e in let same : c.0 ≡ b = cc in c.2 k (subst (λ (a : Attrs). Has a.deps k) (sym same) d))
  ])

  next : IsNext g executed root (root ∷ [])
  next = record {
    first = root;
    reached = itself;
    ready = record { left = left; clear = λ j r. elim (reach r) [ inl s ↦ inr (subst (λ x. Reaches g x root) s itself) | inr h ↦ inl (sub j h) ] };
    least = λ j r q lt. elim (reach r) [ inl s ↦ omega arith | inr h ↦ q.left (sub j h) ];
    is = record {
      members = λ j. (
        λ h. (let s = has_single root j h in ((subst (λ x. Reaches g root x) s itself, subst (λ x. Reaches g x root) s itself), subst (λ x. ¬ Has executed x) s left)),
        λ m. elim (reach m.0.0) [ inl s ↦ subst (λ x. Has (root ∷ []) x) s (single_has root) | inr h ↦ absurd (m.1 (sub j h)) ],
      );
      rises = (λ j h. absurd (omega arith), tt);
    };
  }

  none : InBlocks g (executed ++ root ∷ []) root []
  none j r = elim (reach r) [ inl s ↦ has_right executed (root ∷ []) j (subst (λ x. Has (root ∷ []) x) s (single_has root)) | inr h ↦ has_left executed (root ∷ []) j (sub j h) ]

  plan : IsPlan g executed root (root ∷ [])
  plan = inr (
    left,
    (λ j r. elim (reach r) [ inl s ↦ (alone.attrs, ap g (sym s) ∙ alone.is) | inr h ↦ (let c = closed j h in (c.0, c.1)) ], ((root ∷ []) ∷ [], refl, (next, none))),
  )

pub plan_alone : (g : Graph) (skipped executed : List ℕ) (root : ℕ) → IsClosed g skipped → ((i : ℕ) → Has skipped i → Has executed i) → ¬ Has executed root → is_alone skipped (g root) ≡ true → IsPlan g executed root (root ∷ [])
plan_alone g skipped executed root closed sub left e = plan g skipped executed root closed sub left (alone_as skipped (g root) e)
