-- A plan in the graph that is cut at what is skipped is a plan.
use Rattle.std.proofs.Common.{◌≡◌, ℕ, ◌⊎◌, inl, inr, List, [], ◌∷◌, ◌++◌, Option, Some, None, cond, ◌&&◌, refl, sym, ap, subst, ◌∙◌, arith}
use Rattle.std.specs.List.{flat_map, filter}
use Rattle.ep_base.specs.declared.attrs.Attrs.{Attrs}
use Rattle.ep_base.specs.Places.{Has}
use Rattle.ep_rules.specs.Graph.{Graph, Reaches}
use Rattle.ep_rules.specs.Graph.Reaches.{itself, onward}
use Rattle.ep_rules.specs.Order.{seq_at, Ranks, Rises, IsReady, IsBlock, IsNext, InBlocks, IsListed, IsPlan, IsBlocked, IsClosed}
use Rattle.ep_rules.proofs.Places.{has_or, has_left, has_filter, filter_has}
use Rattle.ep_exec.specs.Found.{IsLeast, ranks_test, ranked}
use Rattle.ep_exec.specs.Cut.{cut_attrs, cut}
use Rattle.ep_exec.specs.Ready.{is_out, ranked_left_of}
use Rattle.ep_exec.specs.Walk.{AreComponents}
use Rattle.ep_exec.proofs.Clear.{out_yes}

-- Attributes.

pub cut_some : (skipped : List ℕ) (o : Option Attrs) (a : Attrs) → cut_attrs skipped o ≡ Some a → (b : Attrs) × (o ≡ Some b) × (a.deps ≡ filter (is_out skipped) b.deps)
cut_some skipped None a e = absurd (cc)
cut_some skipped (Some b) a e = let is : record b { deps = filter (is_out skipped) b.deps } ≡ a = cc in (b, refl, ap (λ (x : Attrs). x.deps) (sym is))

pub seq_cut : (skipped : List ℕ) (o : Option Attrs) → seq_at (cut_attrs skipped o) ≡ seq_at o
seq_cut skipped None = refl
seq_cut skipped (Some a) = refl

-- ranks look at sequence numbers alone
test_cut : (g : Graph) (skipped : List ℕ) (i j : ℕ) → ranks_test (cut g skipped) i j ≡ ranks_test g i j
test_cut g skipped i j = rw (seq_cut skipped (g i), seq_cut skipped (g j)) refl

ranked_cut : (g : Graph) (skipped ys : List ℕ) (x : ℕ) → ranked (cut g skipped) ys x ≡ ranked g ys x
ranked_cut g skipped [] x = refl
ranked_cut g skipped (y ∷ ys) x = rw (test_cut g skipped x y, ranked_cut g skipped ys x) refl

pub ranked_left_cut : (g : Graph) (skipped done block js : List ℕ) → ranked_left_of (cut g skipped) done block js ≡ ranked_left_of g done block js
ranked_left_cut g skipped done block [] = refl
ranked_left_cut g skipped done block (j ∷ js) =
    ap (λ b. ranked_left_of (cut g skipped) done (cond (is_out done j && is_out block j) b block) js) (ranked_cut g skipped block j)
    ∙ ranked_left_cut g skipped done (cond (is_out done j && is_out block j) (ranked g block j) block) js

pub some_of : (o : Option Attrs) → ¬ (o ≡ None) → (a : Attrs) × (o ≡ Some a)
some_of None n = absurd (n refl)
some_of (Some a) n = (a, refl)

some_none : (o : Option Attrs) (a : Attrs) → o ≡ Some a → o ≡ None → ⊥
some_none o a e n = let t : Some a ≡ None = sym e ∙ n in absurd (cc)

module _ (g : Graph) (skipped : List ℕ) (closed : IsClosed g skipped) where
  -- Reach.

  stays_in : (j k : ℕ) (a : Attrs) → Has skipped j → g j ≡ Some a → Has a.deps k → Has skipped k
  stays_in j k a h e q =
      let c = closed j h in
      let is : Some c.0 ≡ Some a = sym c.1 ∙ e in
      let same : c.0 ≡ a = cc in
      c.2 k (subst (λ (b : Attrs). Has b.deps k) (sym same) q)

  up : {i j : ℕ} → Reaches (cut g skipped) i j → Reaches g i j
  up itself = itself
  up (onward {j = j} {k = k} a r e q) =
      let c = cut_some skipped (g j) a e in
      onward c.0 (up r) c.1 (has_filter (is_out skipped) (c.0).deps k (subst (λ xs. Has xs k) c.2 q)).0

  -- what is reached is skipped, or is reached by what is left
  down : {i j : ℕ} → Reaches g i j → Has skipped j ⊎ Reaches (cut g skipped) i j
  down itself = inr itself
  down (onward {j = j} {k = k} a r e q) = elim (down r) [
    | inl d ↦ inl (stays_in j k a d e q)
    | inr s ↦ elim (has_or skipped k) [
      | inl d ↦ inl d
      | inr n ↦ inr (onward (record a { deps = filter (is_out skipped) a.deps }) s (ap (cut_attrs skipped) e) (filter_has (is_out skipped) a.deps k (out_yes skipped k n) q))
    ]
  ]

  down_left : {i j : ℕ} → ¬ Has skipped j → Reaches g i j → Reaches (cut g skipped) i j
  down_left n r = elim (down r) [ inl d ↦ absurd (n d) | inr s ↦ s ]

  -- Ranks.

  ranks_up : (i j : ℕ) → Ranks (cut g skipped) i j → Ranks g i j
  ranks_up i j k =
      let a = seq_cut skipped (g i) in
      let b = seq_cut skipped (g j) in
      elim k [ inl l ↦ inl (omega arith) | inr l ↦ inr (omega arith, l.1) ]

  rises_up : (xs : List ℕ) → Rises (cut g skipped) xs → Rises g xs
  rises_up [] rs = tt
  rises_up (x ∷ xs) rs = (λ j k. ranks_up x j (rs.0 j k), rises_up xs rs.1)

  -- Blocks, after what is skipped and more.

  module _ (more : List ℕ) (sub : (i : ℕ) → Has skipped i → Has more i) where
    ready_up : (i : ℕ) → IsReady (cut g skipped) more i → IsReady g more i
    ready_up i r = record { left = r.left; clear = λ j w. elim (down w) [ inl d ↦ inl (sub j d) | inr s ↦ elim (r.clear j s) [ inl k ↦ inl k | inr k ↦ inr (up k) ] ] }

    ready_down : (i : ℕ) → IsReady g more i → IsReady (cut g skipped) more i
    ready_down i r = record { left = r.left; clear = λ j w. elim (r.clear j (up w)) [ inl k ↦ inl k | inr k ↦ inr (down_left (λ d. r.left (sub i d)) k) ] }

    block_up : (first : ℕ) (block : List ℕ) → ¬ Has skipped first → IsBlock (cut g skipped) more first block → IsBlock g more first block
    block_up first block n b = record {
      members = λ j. (
        λ k. (let m = (b.members j).0 k in ((up m.0.0, up m.0.1), m.1)),
        λ m. (b.members j).1 ((down_left (λ d. m.1 (sub j d)) m.0.0, down_left n m.0.1), m.1),
      );
      rises = rises_up block b.rises;
    }

    next_up : (root : ℕ) (block : List ℕ) → IsNext (cut g skipped) more root block → IsNext g more root block
    next_up root block n = record {
      first = n.first;
      reached = up n.reached;
      ready = ready_up n.first n.ready;
      least = λ j r q. n.least j (down_left (λ d. q.left (sub j d)) r) (ready_down j q);
      is = block_up n.first block (λ d. n.ready.left (sub n.first d)) n.is;
    }

  blocks_up : (root : ℕ) (more : List ℕ) (blocks : List (List ℕ)) → ((i : ℕ) → Has skipped i → Has more i) → InBlocks (cut g skipped) more root blocks → InBlocks g more root blocks
  blocks_up root more [] sub h = λ j r. elim (down r) [ inl d ↦ sub j d | inr s ↦ h j s ]
  blocks_up root more (block ∷ blocks) sub h = (next_up more sub root block h.0, blocks_up root (more ++ block) blocks (λ i d. has_left more block i (sub i d)) h.1)

  listed_up : (executed : List ℕ) (root : ℕ) (order : List ℕ) → ((i : ℕ) → Has skipped i → Has executed i) → IsListed (cut g skipped) executed root order → IsListed g executed root order
  listed_up executed root order sub l = (l.0, l.1, blocks_up root executed l.0 sub l.2)

  -- The walk has found all that the root reaches and that is not skipped.

  module _ (executed : List ℕ) (sub : (i : ℕ) → Has skipped i → Has executed i) (root : ℕ) (left : ¬ Has executed root) (cs : List (List ℕ)) (ac : AreComponents (cut g skipped) root cs) (members : List ℕ) (is : members ≡ flat_map (λ c. c) cs) where
    found : (j : ℕ) → Reaches (cut g skipped) root j → Has members j
    found j r = subst (λ xs. Has xs j) (sym is) ((ac.whole j).1 r)

    pub plan_up : (order : List ℕ) → IsLeast (λ i. g i ≡ None) members None → IsListed (cut g skipped) executed root order → IsPlan g executed root order
    plan_up order none l = inr (
      left,
      (λ j r. elim (down r) [ inl d ↦ (let c = closed j d in (c.0, c.1)) | inr s ↦ some_of (g j) (none j (found j s)) ], listed_up executed root order sub l),
    )

    pub blocked_up : (i : ℕ) → IsLeast (λ i. g i ≡ None) members (Some i) → IsBlocked g executed root i
    blocked_up i least = record {
      left = left;
      reached = up ((ac.whole i).0 (subst (λ xs. Has xs i) is least.0));
      missing = least.1;
      least = λ j r none. elim (down r) [
        | inl d ↦ (let c = closed j d in absurd (some_none (g j) c.0 c.1 none))
        | inr s ↦ least.2 j (found j s) none
      ];
    }
