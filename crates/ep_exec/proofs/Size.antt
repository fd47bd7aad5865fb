-- Why a walk ends.
use Rattle.std.proofs.Common.{◌≡◌, ℕ, suc, ◌+◌, ◌<◌, ◌≤◌, ◌⊎◌, inl, inr, List, [], ◌∷◌, ◌++◌, length, cond, ltb, sym, subst, arith}
use Rattle.std.proofs.lemmas.Bool.{lt-ltb, le-ltb, cases_Bool}
use Rattle.std.proofs.lemmas.List.{length-append}
use Rattle.ep_base.specs.Places.{place, Has}
use Rattle.ep_rules.specs.Graph.{Graph}
use Rattle.ep_rules.proofs.Places.{has_or, has_left, has_right, has_split, has_cons, not_has}
use Rattle.ep_exec.proofs.Counts.{single_has}
use Rattle.ep_exec.specs.Walk.{Flat, members_of, pooled, joined, merged, deps_at, Follows}
use Rattle.ep_exec.proofs.Stacks.{merged_here, merged_down, pooled_length}
use Rattle.ep_exec.proofs.Paths.{plus, edges_of, merged_members}

-- what is still to be done for the instances that aren't known
abbrev pub weight : Graph → List ℕ → List ℕ → ℕ
weight g ds [] = 0
weight g ds (u ∷ us) = cond (ltb (place ds u) (length ds)) (weight g ds us) (2 + length (deps_at (g u)) + weight g ds us)

weight_fewer : (g : Graph) (xs ys us : List ℕ) → ((u : ℕ) → Has xs u → Has ys u) → weight g ys us ≤ weight g xs us
weight_fewer g xs ys [] sub = omega arith
weight_fewer g xs ys (u ∷ us) sub = go (has_or xs u) (weight_fewer g xs ys us sub)
  where
    go : Has xs u ⊎ (Has xs u → ⊥) → weight g ys us ≤ weight g xs us → weight g ys (u ∷ us) ≤ weight g xs (u ∷ us)
    go (inl h) r = rw (lt-ltb (place xs u) (length xs) h, lt-ltb (place ys u) (length ys) (sub u h)) r
    go (inr n) r = rw (le-ltb (place xs u) (length xs) (let e = not_has xs u n in omega arith)) (elim (cases_Bool (ltb (place ys u) (length ys))) [ inl e ↦ rw e (omega arith) | inr e ↦ rw e (omega arith) ])

pub weight_falls : (g : Graph) (xs ys us : List ℕ) (d : ℕ) → ((u : ℕ) → Has xs u → Has ys u) → Has us d → (Has xs d → ⊥) → Has ys d → weight g ys us + (2 + length (deps_at (g d))) ≤ weight g xs us
weight_falls g xs ys [] d sub h n y = absurd (omega arith)
weight_falls g xs ys (u ∷ us) d sub h n y = elim (has_cons u d us h) [
  | inl e ↦ subst (λ z. weight g ys (z ∷ us) + (2 + length (deps_at (g d))) ≤ weight g xs (z ∷ us)) (sym e)
      (rw (le-ltb (place xs d) (length xs) (let q = not_has xs d n in omega arith), lt-ltb (place ys d) (length ys) y)
      (let r = weight_fewer g xs ys us sub in omega arith))
  | inr k ↦ go (has_or xs u) (weight_falls g xs ys us d sub k n y)
]
  where
    go : Has xs u ⊎ (Has xs u → ⊥) → weight g ys us + (2 + length (deps_at (g d))) ≤ weight g xs us → weight g ys (u ∷ us) + (2 + length (deps_at (g d))) ≤ weight g xs (u ∷ us)
    go (inl h) r = rw (lt-ltb (place xs u) (length xs) h, lt-ltb (place ys u) (length ys) (sub u h)) r
    go (inr n) r = rw (le-ltb (place xs u) (length xs) (let e = not_has xs u n in omega arith)) (elim (cases_Bool (ltb (place ys u) (length ys))) [ inl e ↦ rw e (omega arith) | inr e ↦ rw e (omega arith) ])

abbrev pub size : Graph → List ℕ → List ℕ → List Flat → ℕ
size g us closed s = weight g (closed ++ members_of s) us + length (edges_of s) + length s

merged_size : (t : Flat) (s : List Flat) (d : ℕ) → (length (edges_of (merged t s d)) ≡ length t.edges + length (edges_of s)) × (length (merged t s d) ≤ suc (length s))
merged_size t [] d = (length-append t.edges [], omega arith)
merged_size t (b ∷ s) d = go (has_or t.members d) (merged_size (joined b t) s d)
  where
    go : Has t.members d ⊎ (Has t.members d → ⊥) → (length (edges_of (merged (joined b t) s d)) ≡ length (pooled b.edges t.edges) + length (edges_of s)) × (length (merged (joined b t) s d) ≤ suc (length s)) → (length (edges_of (merged t (b ∷ s) d)) ≡ length t.edges + length (b.edges ++ edges_of s)) × (length (merged t (b ∷ s) d) ≤ suc (suc (length s)))
    go (inl k) r = rw (merged_here t (b ∷ s) d k) (length-append t.edges (b.edges ++ edges_of s), omega arith)
    go (inr n) r = rw (merged_down t b s d n) (omega (arith, r.0, pooled_length b.edges t.edges, length-append b.edges (edges_of s)), omega (arith, r.1))

pub follow_smaller : (g : Graph) (us closed : List ℕ) (t : Flat) (s : List Flat) (d : ℕ) (new : List Flat) → Has us d → Follows g closed t s d new → size g us closed new < size g us closed (plus t d ∷ s)
follow_smaller g us closed t s d new in_us (inl p) = rw p.1 (omega (arith, length-append (t.edges ++ d ∷ []) (edges_of s), length-append t.edges (d ∷ []), length-append t.edges (edges_of s)))
follow_smaller g us closed t s d new in_us (inr (inl p)) = rw p.2 (
    let z = merged_size t s d in
    let f = weight_fewer g (closed ++ (t.members ++ members_of s)) (closed ++ members_of (merged t s d)) us
    (λ u h. elim (has_split closed (t.members ++ members_of s) u h) [ inl k ↦ has_left closed (members_of (merged t s d)) u k | inr k ↦ has_right closed (members_of (merged t s d)) u ((merged_members t s d u).1 (has_split t.members (members_of s) u k)) ]) in
    omega (arith, z.0, z.1, f, length-append (t.edges ++ d ∷ []) (edges_of s), length-append t.edges (d ∷ [])))
follow_smaller g us closed t s d new in_us (inr (inr p)) = rw p.2 (
    let f = weight_falls g (closed ++ (t.members ++ members_of s)) (closed ++ (d ∷ [] ++ (t.members ++ members_of s))) us d
    (λ u h. elim (has_split closed (t.members ++ members_of s) u h) [ inl k ↦ has_left closed (d ∷ [] ++ (t.members ++ members_of s)) u k | inr k ↦ has_right closed (d ∷ [] ++ (t.members ++ members_of s)) u (has_right (d ∷ []) (t.members ++ members_of s) u k) ])
    in_us
    (λ h. elim (has_split closed (t.members ++ members_of s) d h) [ inl k ↦ p.0 k | inr k ↦ p.1 (has_split t.members (members_of s) d k) ])
    (has_right closed (d ∷ [] ++ (t.members ++ members_of s)) d (has_left (d ∷ []) (t.members ++ members_of s) d (single_has d))) in
    omega (arith, f, length-append (deps_at (g d)) (t.edges ++ edges_of s), length-append t.edges (edges_of s), length-append (t.edges ++ d ∷ []) (edges_of s), length-append t.edges (d ∷ [])))
