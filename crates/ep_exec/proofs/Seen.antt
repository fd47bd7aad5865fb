-- What a walk has seen is what is closed or on the path.
use Rattle.std.proofs.Common.{ℕ, ◌⊎◌, inl, inr, List, [], ◌∷◌, ◌++◌, arith}
use Rattle.ep_base.specs.Places.{Has}
use Rattle.ep_rules.specs.Graph.{Graph}
use Rattle.ep_rules.proofs.Places.{has_left, has_right, has_split}
use Rattle.ep_exec.proofs.Paths.{merged_members}
use Rattle.ep_exec.specs.Walk.{Flat, members_of, merged, fresh, Sees}

pub on_seen : (seen closed : List ℕ) (t : Flat) (s : List Flat) (d : ℕ) → Sees seen closed (t ∷ s) → Has seen d → ¬ Has closed d → Has t.members d ⊎ Has (members_of s) d
on_seen seen closed t s d w h n = elim ((w d).0 h) [ inl k ↦ absurd (n k) | inr k ↦ has_split t.members (members_of s) d k ]

pub off_seen : (seen closed : List ℕ) (t : Flat) (s : List Flat) (d : ℕ) → Sees seen closed (t ∷ s) → ¬ Has seen d → ¬ (Has t.members d ⊎ Has (members_of s) d)
off_seen seen closed t s d w n h = n ((w d).1 (inr (elim h [ inl k ↦ has_left t.members (members_of s) d k | inr k ↦ has_right t.members (members_of s) d k ])))

pub sees_merged : (seen closed : List ℕ) (t : Flat) (s : List Flat) (d : ℕ) → Sees seen closed (t ∷ s) → Sees seen closed (merged t s d)
sees_merged seen closed t s d w i = (
  λ h. elim ((w i).0 h) [ inl k ↦ inl k | inr k ↦ inr ((merged_members t s d i).1 (has_split t.members (members_of s) i k)) ],
  λ h. (w i).1 (elim h [
    | inl k ↦ inl k
    | inr k ↦ inr (elim ((merged_members t s d i).0 k) [ inl m ↦ has_left t.members (members_of s) i m | inr m ↦ has_right t.members (members_of s) i m ])
  ]),
)

pub sees_fresh : (g : Graph) (seen closed : List ℕ) (s : List Flat) (d : ℕ) → Sees seen closed s → Sees (seen ++ d ∷ []) closed (fresh g d ∷ s)
sees_fresh g seen closed s d w i = (
  λ h. elim (has_split seen (d ∷ []) i h) [
    | inl k ↦ elim ((w i).0 k) [ inl m ↦ inl m | inr m ↦ inr (has_right (d ∷ []) (members_of s) i m) ]
    | inr k ↦ inr (has_left (d ∷ []) (members_of s) i k)
  ],
  λ h. elim h [
    | inl k ↦ has_left seen (d ∷ []) i ((w i).1 (inl k))
    | inr k ↦ elim (has_split (d ∷ []) (members_of s) i k) [ inl m ↦ has_right seen (d ∷ []) i m | inr m ↦ has_left seen (d ∷ []) i ((w i).1 (inr m)) ]
  ],
)

pub sees_closed : (seen closed : List ℕ) (t : Flat) (s : List Flat) → Sees seen closed (t ∷ s) → Sees seen (closed ++ t.members) s
sees_closed seen closed t s w i = (
  λ h. elim ((w i).0 h) [
    | inl k ↦ inl (has_left closed t.members i k)
    | inr k ↦ elim (has_split t.members (members_of s) i k) [ inl m ↦ inl (has_right closed t.members i m) | inr m ↦ inr m ]
  ],
  λ h. (w i).1 (elim h [
    | inl k ↦ elim (has_split closed t.members i k) [ inl m ↦ inl m | inr m ↦ inr (has_left t.members (members_of s) i m) ]
    | inr k ↦ inr (has_right t.members (members_of s) i k)
  ]),
)

pub sees_none : Sees [] [] []
sees_none i = (λ h. absurd (omega arith), λ h. elim h [ inl k ↦ k | inr k ↦ k ])
