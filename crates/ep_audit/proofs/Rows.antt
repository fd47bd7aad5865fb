-- Rows of places, and what is found by them.
use Rattle.std.proofs.Common.{◌≡◌, ◌≢◌, ℕ, zero, suc, ◌+◌, ◌<◌, ◌≤◌, ◌⊎◌, inl, inr, Bool, true, false, cond, Option, Some, None, List, [], ◌∷◌, length, get_or, drop, slice_get, refl, sym, ap, subst, ◌∙◌, arith}
use Rattle.std.proofs.lemmas.Bool.{cases_lt}
use Rattle.std.proofs.lemmas.Option.{slice_get-get_or, slice_get_past}
use Rattle.std.proofs.lemmas.List.{get_or_past}
use Rattle.ep_base.specs.Quorums.{size}
use Rattle.ep_base.specs.Instances.{instance_of, leader_of, number_of, highest_number}
use Rattle.ep_frame.proofs.Packing.{instance_again}
use Rattle.ep_journal.specs.Entries.{Collected, entries_at, AreJournals}
use Rattle.ep_journal.specs.declared.entry.Entry.{Entry}
use Rattle.ep_audit.specs.Claims.{proposal_of}
use Rattle.ep_audit.specs.Lookups.{proposed, is_this, proposal_in}
use Rattle.ep_audit.specs.Proposing.{place_in, IsRowFrom, AreRows, IsMarked}

-- the entry at the place
pub at_place : (es : List Entry) (i : ℕ) → slice_get es (place_in es i) ≡ proposal_in es i
at_place [] i = refl
at_place (e ∷ es) i = go (is_this i (proposed e.event e.frames)) (at_place es i)
  where
    go : (b : Bool) → slice_get es (place_in es i) ≡ proposal_in es i → slice_get (e ∷ es) (cond b 0 (suc (place_in es i))) ≡ cond b (Some e) (proposal_in es i)
    go true k = refl
    go false k = k

drop_at : {X : Type 0} (xs : List X) (k : ℕ) (x : X) → slice_get xs k ≡ Some x → drop k xs ≡ x ∷ drop (suc k) xs
drop_at [] k x is = absurd (cc)
drop_at (y ∷ xs) zero x is = let s : Some y ≡ Some x = is in ap (λ z. z ∷ xs) (cc)
drop_at (y ∷ xs) (suc k) x is = drop_at xs k x is

-- one entry more, at the end
pub row_more : (r k : ℕ) (es : List Entry) (e : Entry) (old new : List ℕ) → slice_get es k ≡ Some e → IsMarked r (proposed e.event e.frames) k (length es) old new → IsRowFrom r (suc k) es old → IsRowFrom r k es new
row_more r k es e old new at is h = record { places = λ n le. is n le ∙ go n (is_this (instance_of r n) (proposed e.event e.frames)) refl (h.places n le) }
  where
    next : (n : ℕ) (b : Bool) → is_this (instance_of r n) (proposed e.event e.frames) ≡ b → place_in (drop k es) (instance_of r n) ≡ cond b 0 (suc (place_in (drop (suc k) es) (instance_of r n)))
    next n b t = ap (λ xs. place_in xs (instance_of r n)) (drop_at es k e at) ∙ ap (λ z. cond z 0 (suc (place_in (drop (suc k) es) (instance_of r n)))) t

    go : (n : ℕ) (b : Bool) → is_this (instance_of r n) (proposed e.event e.frames) ≡ b → get_or old n (length es) ≡ suc k + place_in (drop (suc k) es) (instance_of r n)
        → cond b k (get_or old n (length es)) ≡ k + place_in (drop k es) (instance_of r n)
    go n true t was = let z : place_in (drop k es) (instance_of r n) ≡ 0 = next n true t in omega (arith, z)
    go n false t was = let z : place_in (drop k es) (instance_of r n) ≡ suc (place_in (drop (suc k) es) (instance_of r n)) = next n false t in omega (arith, z, was)

-- Rows of all replicas.

-- What the rows find.

-- a place that is found is that of the proposal, and none is found where there is no proposal
abbrev pub Finds : Collected → ℕ → Option ℕ → Type 0
Finds c i None = None ≡ proposal_of c i
Finds c i (Some place) = slice_get (entries_at c (leader_of i)) place ≡ proposal_of c i

none_past : (rows : List (List ℕ)) (k : ℕ) → length rows ≤ k → get_or rows k [] ≡ []
none_past [] k le = refl
none_past (row ∷ rows) zero le = absurd (omega arith)
none_past (row ∷ rows) (suc k) le = none_past rows k (omega arith)

pub finds : (c : Collected) (rows : List (List ℕ)) (i : ℕ) (o : Option ℕ) → AreJournals c → AreRows c (size c.faults) rows → number_of i ≤ highest_number → o ≡ slice_get (get_or rows (leader_of i) []) (number_of i) → Finds c i o
finds c rows i o h r le is = elim (cases_lt (leader_of i) (size c.faults)) [
  | inl lt ↦ inside lt o is
  | inr past ↦ (
      let none : get_or rows (leader_of i) [] ≡ [] = none_past rows (leader_of i) (subst (λ m. m ≤ leader_of i) (sym r.many) past) in
      let missing : o ≡ None = is ∙ ap (λ xs. slice_get xs (number_of i)) none in
      let nobody : proposal_of c i ≡ None = ap (λ es. proposal_in es i) (h.others (leader_of i) past) in
      subst (λ p. Finds c i p) (sym missing) (sym nobody))
]
  where
    inside : leader_of i < size c.faults → (p : Option ℕ) → p ≡ slice_get (get_or rows (leader_of i) []) (number_of i) → Finds c i p
    inside lt p q = elim (cases_lt (number_of i) (length (get_or rows (leader_of i) []))) [
      | inl there ↦ (
          let v : ℕ = get_or (get_or rows (leader_of i) []) (number_of i) (length (entries_at c (leader_of i))) in
          let some : p ≡ Some v = q ∙ slice_get-get_or (get_or rows (leader_of i) []) (number_of i) (length (entries_at c (leader_of i))) there in
          subst (λ o. Finds c i o) (sym some) (ap (slice_get (entries_at c (leader_of i))) (at lt) ∙ at_place (entries_at c (leader_of i)) i))
      | inr past ↦ (
          let none : p ≡ None = q ∙ slice_get_past (get_or rows (leader_of i) []) (number_of i) past in
          let all : length (entries_at c (leader_of i)) ≡ place_in (entries_at c (leader_of i)) i = sym (get_or_past (get_or rows (leader_of i) []) (number_of i) (length (entries_at c (leader_of i))) past) ∙ at lt in
          let nobody : None ≡ proposal_of c i = sym (slice_get_past (entries_at c (leader_of i)) (length (entries_at c (leader_of i))) (omega arith)) ∙ ap (slice_get (entries_at c (leader_of i))) all ∙ at_place (entries_at c (leader_of i)) i in
          subst (λ o. Finds c i o) (sym none) nobody)
    ]
      where
        at : leader_of i < size c.faults → get_or (get_or rows (leader_of i) []) (number_of i) (length (entries_at c (leader_of i))) ≡ place_in (entries_at c (leader_of i)) i
        at lt = (r.row (leader_of i) lt).places (number_of i) le ∙ ap (place_in (entries_at c (leader_of i))) (instance_again i)
