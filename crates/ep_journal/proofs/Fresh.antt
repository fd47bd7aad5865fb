-- A plan lists what is left, each instance once.
use Rattle.std.proofs.Common.{ℕ, inl, inr, List, [], ◌∷◌, ◌++◌, sym, subst, arith}
use Rattle.std.proofs.lemmas.List.{append_assoc, append-nil}
use Rattle.std.specs.List.{flat_map}
use Rattle.ep_base.specs.Places.{Has}
use Rattle.ep_base.proofs.Places.{Has-first}
use Rattle.ep_rules.specs.Graph.{Graph}
use Rattle.ep_rules.specs.Order.{Ranks, Rises, InBlocks, IsPlan}
use Rattle.ep_rules.proofs.Places.{has_split, has_cons, has_tail}
use Rattle.ep_rules.proofs.Ranks.{ranks_self}
use Rattle.ep_journal.specs.Executing.{AreFresh}

fresh_append : (done xs ys : List ℕ) → AreFresh done xs → AreFresh (done ++ xs) ys → AreFresh done (xs ++ ys)
fresh_append done [] ys p q = subst (λ d. AreFresh d ys) (append-nil done) q
fresh_append done (x ∷ xs) ys p q = (p.0, fresh_append (done ++ (x ∷ [])) xs ys p.1 (subst (λ d. AreFresh d ys) (sym (append_assoc done (x ∷ []) xs)) q))

-- what is after i is not i
after : (g : Graph) (done : List ℕ) (i : ℕ) (is : List ℕ) → ((j : ℕ) → Has (i ∷ is) j → ¬ Has done j) → ((j : ℕ) → Has is j → Ranks g i j) → (j : ℕ) → Has is j → ¬ Has (done ++ (i ∷ [])) j
after g done i is left ranks j h k =
    elim (has_split done (i ∷ []) j k) [
      | inl d ↦ left j (has_tail i j is h) d
      | inr o ↦ elim (has_cons i j [] o) [ inl e ↦ ranks_self g i (subst (λ n. Ranks g i n) (sym e) (ranks j h)) | inr n ↦ absurd (omega arith) ]
    ]

fresh_block : (g : Graph) (done block : List ℕ) → ((j : ℕ) → Has block j → ¬ Has done j) → Rises g block → AreFresh done block
fresh_block g done [] left rises = tt
fresh_block g done (i ∷ is) left rises = (left i (Has-first i is), fresh_block g (done ++ (i ∷ [])) is (after g done i is left rises.0) rises.1)

fresh_blocks : (g : Graph) (done : List ℕ) (root : ℕ) (blocks : List (List ℕ)) → InBlocks g done root blocks → AreFresh done (flat_map (λ b. b) blocks)
fresh_blocks g done root [] h = tt
fresh_blocks g done root (block ∷ blocks) h =
    fresh_append done block (flat_map (λ b. b) blocks) (fresh_block g done block (λ j m. ((h.0.is.members j).0 m).1) h.0.is.rises) (fresh_blocks g (done ++ block) root blocks h.1)

pub fresh_plan : (g : Graph) (done : List ℕ) (root : ℕ) (order : List ℕ) → IsPlan g done root order → AreFresh done order
fresh_plan g done root order (inl p) = subst (AreFresh done) (sym p.1) tt
fresh_plan g done root order (inr p) = subst (AreFresh done) (sym p.1.1.1) (fresh_blocks g done root p.1.1.0 p.1.1.2)
