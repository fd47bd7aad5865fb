-- The search for an instance that isn't committed.
use Rattle.std.proofs.Common.{◌≡◌, ℕ, ◌+◌, ◌<◌, ◌≤◌, ◌⊎◌, inl, inr, List, [], ◌∷◌, ◌++◌, length, Option, Some, None, Bool, true, false, cond, is_none, is_some, refl, sym, ap, subst, ◌∙◌, arith}
use Rattle.std.proofs.lemmas.Bool.{false≢true, and_parts, and_from}
use Rattle.std.proofs.lemmas.List.{length-append}
use Rattle.ep_base.specs.declared.attrs.Attrs.{Attrs}
use Rattle.ep_base.specs.Places.{Has}
use Rattle.ep_rules.specs.Graph.{Graph, Reaches}
use Rattle.ep_rules.specs.Graph.Reaches.{itself, onward}
use Rattle.ep_rules.specs.Order.{IsClosed}
use Rattle.ep_rules.proofs.Places.{has_or, has_left, has_right, has_split, has_cons, has_tail, has_filter, filter_has, has_single}
use Rattle.ep_exec.specs.Cut.{cut, cut_attrs}
use Rattle.ep_exec.specs.Missing.{IsMissing, is_lacking, first_lacking, Visits}
use Rattle.ep_exec.specs.Ready.{is_out}
use Rattle.ep_exec.specs.Walk.{deps_at}
use Rattle.ep_exec.proofs.Clear.{out_yes, out_then}
use Rattle.ep_exec.proofs.Counts.{single_has}
use Rattle.ep_exec.proofs.Cut.{some_of}
use Rattle.ep_exec.proofs.Size.{weight, weight_falls}

-- What is lacking in a list.

pub reported_none : (g : Graph) (skipped seen rest : List ℕ) (i : ℕ) (o : Option ℕ) (seen' edges' : List ℕ) → is_some o ≡ false → Visits g skipped seen rest i o seen' edges' → Visits g skipped seen rest i None seen' edges'
reported_none g skipped seen rest i None seen' edges' e v = v
reported_none g skipped seen rest i (Some d) seen' edges' e v = absurd (false≢true (sym e))

none_at : (o : Option Attrs) → is_none o ≡ true → o ≡ None
none_at None e = refl
none_at (Some a) e = absurd (false≢true e)

none_reports : (o : Option Attrs) → o ≡ None → is_none o ≡ true
none_reports None e = refl
none_reports (Some a) e = absurd (cc)

lacks : (g : Graph) (skipped : List ℕ) (i : ℕ) → ¬ Has skipped i → g i ≡ None → is_lacking g skipped i ≡ true
lacks g skipped i n e = and_from (is_out skipped i) (is_none (g i)) (out_yes skipped i n) (none_reports (g i) e)

none_lacking : (g : Graph) (skipped xs : List ℕ) (d : ℕ) → first_lacking g skipped xs ≡ None → Has xs d → ¬ Has skipped d → ¬ (g d ≡ None)
none_lacking g skipped [] d e h n = absurd (omega arith)
none_lacking g skipped (x ∷ xs) d e h n = go (is_lacking g skipped x) refl e (λ f k. none_lacking g skipped xs d f k n)
  where
    go : (b : Bool) → is_lacking g skipped x ≡ b → cond b (Some x) (first_lacking g skipped xs) ≡ None → (first_lacking g skipped xs ≡ None → Has xs d → ¬ (g d ≡ None)) → ¬ (g d ≡ None)
    go true f e r = absurd (cc)
    go false f e r = elim (has_cons x d xs h) [
      | inl s ↦ λ z. false≢true (sym f ∙ subst (λ y. is_lacking g skipped y ≡ true) (sym s) (lacks g skipped d n z))
      | inr k ↦ r e k
    ]

some_lacking : (g : Graph) (skipped xs : List ℕ) (d : ℕ) → first_lacking g skipped xs ≡ Some d → Has xs d × (g d ≡ None)
some_lacking g skipped [] d e = absurd (cc)
some_lacking g skipped (x ∷ xs) d e = go (is_lacking g skipped x) refl e (some_lacking g skipped xs d)
  where
    go : (b : Bool) → is_lacking g skipped x ≡ b → cond b (Some x) (first_lacking g skipped xs) ≡ Some d → (first_lacking g skipped xs ≡ Some d → Has xs d × (g d ≡ None)) → Has (x ∷ xs) d × (g d ≡ None)
    go true f e r =
        let same : x ≡ d = cc in
        subst (λ y. Has (x ∷ xs) y × (g y ≡ None)) same (has_left (x ∷ []) xs x (single_has x), none_at (g x) (and_parts (is_out skipped x) (is_none (g x)) f).1)
    go false f e r = let k = r e in (has_tail x d xs k.0, k.1)

-- what i depends on, in the cut graph
cut_has : (g : Graph) (skipped : List ℕ) (i : ℕ) (a : Attrs) (d : ℕ) → g i ≡ Some a → Has (deps_at (cut g skipped i)) d → Has a.deps d × (is_out skipped d ≡ true)
cut_has g skipped i a d e h = has_filter (is_out skipped) a.deps d (subst (λ o. Has (deps_at (cut_attrs skipped o)) d) e h)

has_cut : (g : Graph) (skipped : List ℕ) (i : ℕ) (a : Attrs) (d : ℕ) → g i ≡ Some a → Has a.deps d → ¬ Has skipped d → Has (deps_at (cut g skipped i)) d
has_cut g skipped i a d e h n = subst (λ o. Has (deps_at (cut_attrs skipped o)) d) (sym e) (filter_has (is_out skipped) a.deps d (out_yes skipped d n) h)

-- The measure.

falls_again : (w : List ℕ → ℕ) (seen seen' rest edges' : List ℕ) (i : ℕ) → seen' ≡ seen → edges' ≡ rest → w seen' + length edges' < w seen + length (rest ++ i ∷ [])
falls_again w seen seen' rest edges' i s e = let a : w seen' ≡ w seen = ap w s in let b : length edges' ≡ length rest = ap length e in omega (arith, length-append rest (i ∷ []))

falls_on : (w : List ℕ → ℕ) (seen seen' rest edges' more : List ℕ) (i : ℕ) → seen' ≡ seen ++ i ∷ [] → edges' ≡ rest ++ more → w (seen ++ i ∷ []) + (2 + length more) ≤ w seen → w seen' + length edges' < w seen + length (rest ++ i ∷ [])
falls_on w seen seen' rest edges' more i s e low =
    let a : w seen' ≡ w (seen ++ i ∷ []) = ap w s in
    let b : length edges' ≡ length (rest ++ more) = ap length e in
    omega (arith, length-append rest (i ∷ []), length-append rest more)

-- The search.

-- all that is seen or is to be followed is reached and committed, and the dependencies of what is seen are skipped, seen or to be followed
pub record IsSearch (g : Graph) (skipped us : List ℕ) (root : ℕ) (seen edges : List ℕ) : Type 0 where
  pub reached : (i : ℕ) → Has seen i ⊎ Has edges i → Reaches g root i
  pub there : (i : ℕ) → Has seen i ⊎ Has edges i → ¬ (g i ≡ None)
  pub followed : (i d : ℕ) (a : Attrs) → Has seen i → g i ≡ Some a → Has a.deps d → Has skipped d ⊎ (Has seen d ⊎ Has edges d)
  pub begun : Has seen root ⊎ Has edges root
  pub known : (i : ℕ) → Has edges i → Has (root ∷ us) i

module _ (g : Graph) (skipped us : List ℕ) (root : ℕ) where
  pub search_begins : ¬ (g root ≡ None) → IsSearch g skipped us root [] (root ∷ [])
  search_begins n = record {
    reached = λ i h. elim h [ inl k ↦ absurd (omega arith) | inr k ↦ subst (λ y. Reaches g root y) (has_single root i k) itself ];
    there = λ i h. elim h [ inl k ↦ absurd (omega arith) | inr k ↦ subst (λ y. ¬ (g y ≡ None)) (has_single root i k) n ];
    followed = λ i d a h e q. absurd (omega arith);
    begun = inr (single_has root);
    known = λ i h. has_left (root ∷ []) us i h;
  }

  module _ (seen rest : List ℕ) (i : ℕ) (s : IsSearch g skipped us root seen (rest ++ i ∷ [])) where
    -- it was seen
    again : Has seen i → IsSearch g skipped us root seen rest
    again here = record {
      reached = λ j h. s.reached j (elim h [ inl k ↦ inl k | inr k ↦ inr (has_left rest (i ∷ []) j k) ]);
      there = λ j h. s.there j (elim h [ inl k ↦ inl k | inr k ↦ inr (has_left rest (i ∷ []) j k) ]);
      followed = λ j d a h e q. elim (s.followed j d a h e q) [ inl k ↦ inl k | inr k ↦ inr (still d k) ];
      begun = still root s.begun;
      known = λ j h. s.known j (has_left rest (i ∷ []) j h);
    }
      where
        still : (j : ℕ) → Has seen j ⊎ Has (rest ++ i ∷ []) j → Has seen j ⊎ Has rest j
        still j (inl k) = inl k
        still j (inr k) = elim (has_split rest (i ∷ []) j k) [ inl m ↦ inr m | inr m ↦ inl (subst (λ y. Has seen y) (has_single i j m) here) ]

    here : Has seen i ⊎ Has (rest ++ i ∷ []) i
    here = inr (has_right rest (i ∷ []) i (single_has i))

    -- it wasn't, and none of its dependencies is lacking
    module _ (none : first_lacking g skipped (deps_at (g i)) ≡ None) (a : Attrs) (is : g i ≡ Some a) (within : (d : ℕ) → Has a.deps d → Has us d) where
      more : List ℕ
      more = deps_at (cut g skipped i)

      -- what was there is there
      on : (j : ℕ) → Has seen j ⊎ Has (rest ++ i ∷ []) j → Has (seen ++ i ∷ []) j ⊎ Has (rest ++ deps_at (cut g skipped i)) j
      on j (inl k) = inl (has_left seen (i ∷ []) j k)
      on j (inr k) = elim (has_split rest (i ∷ []) j k) [ inl m ↦ inr (has_left rest (deps_at (cut g skipped i)) j m) | inr m ↦ inl (has_right seen (i ∷ []) j m) ]

      -- and what is there was there, or is one of the dependencies
      back : (j : ℕ) → Has (seen ++ i ∷ []) j ⊎ Has (rest ++ deps_at (cut g skipped i)) j → (Has seen j ⊎ Has (rest ++ i ∷ []) j) ⊎ Has (deps_at (cut g skipped i)) j
      back j (inl h) = elim (has_split seen (i ∷ []) j h) [ inl k ↦ inl (inl k) | inr k ↦ inl (inr (has_right rest (i ∷ []) j k)) ]
      back j (inr h) = elim (has_split rest (deps_at (cut g skipped i)) j h) [ inl k ↦ inl (inr (has_left rest (i ∷ []) j k)) | inr k ↦ inr k ]

      dep_there : (d : ℕ) → Has a.deps d → is_out skipped d ≡ true → ¬ (g d ≡ None)
      dep_there d h o = none_lacking g skipped (deps_at (g i)) d none (subst (λ x. Has (deps_at x) d) (sym is) h) (out_then skipped d o)

      onto : IsSearch g skipped us root (seen ++ i ∷ []) (rest ++ deps_at (cut g skipped i))
      onto = record {
        reached = λ j h. elim (back j h) [ inl k ↦ s.reached j k | inr k ↦ onward a (s.reached i here) is (cut_has g skipped i a j is k).0 ];
        there = λ j h. elim (back j h) [ inl k ↦ s.there j k | inr k ↦ (let c = cut_has g skipped i a j is k in dep_there j c.0 c.1) ];
        followed = λ j d b h e q. elim (has_split seen (i ∷ []) j h) [
          | inl k ↦ elim (s.followed j d b k e q) [ inl m ↦ inl m | inr m ↦ inr (on d m) ]
          | inr k ↦ elim (has_or skipped d) [
            | inl m ↦ inl m
            | inr n ↦ inr (inr (has_right rest (deps_at (cut g skipped i)) d (has_cut g skipped i b d (ap g (has_single i j k) ∙ e) q n)))
          ]
        ];
        begun = on root s.begun;
        known = λ j h. elim (has_split rest (deps_at (cut g skipped i)) j h) [ inl k ↦ s.known j (has_left rest (i ∷ []) j k) | inr k ↦ has_tail root j us (within j (cut_has g skipped i a j is k).0) ];
      }

    pub search_goes_on : (seen' edges' : List ℕ) → ((j d : ℕ) (a : Attrs) → g j ≡ Some a → Has a.deps d → Has us d) → Visits g skipped seen rest i None seen' edges' → IsSearch g skipped us root seen' edges'
    search_goes_on seen' edges' within (inl v) = rw (v.1, v.2) (again v.0)
    search_goes_on seen' edges' within (inr v) =
        let a = some_of (g i) (s.there i here) in
        rw (v.2, v.3) (onto v.1 a.0 a.1 (λ d h. within i d a.0 a.1 h))

    pub search_falls : (seen' edges' : List ℕ) → Visits g skipped seen rest i None seen' edges' → weight (cut g skipped) seen' (root ∷ us) + length edges' < weight (cut g skipped) seen (root ∷ us) + length (rest ++ i ∷ [])
    search_falls seen' edges' (inl v) = falls_again (λ xs. weight (cut g skipped) xs (root ∷ us)) seen seen' rest edges' i v.1 v.2
    search_falls seen' edges' (inr v) =
        falls_on (λ xs. weight (cut g skipped) xs (root ∷ us)) seen seen' rest edges' (deps_at (cut g skipped i)) i v.2 v.3
        (weight_falls (cut g skipped) seen (seen ++ i ∷ []) (root ∷ us) i (λ u h. has_left seen (i ∷ []) u h) (s.known i (has_right rest (i ∷ []) i (single_has i))) v.0 (has_right seen (i ∷ []) i (single_has i)))

    pub search_finds : (seen' edges' : List ℕ) (d : ℕ) → Visits g skipped seen rest i (Some d) seen' edges' → IsMissing g root (Some d)
    search_finds seen' edges' d v =
        let a = some_of (g i) (s.there i here) in
        let k = some_lacking g skipped (deps_at (g i)) d v in
        (onward a.0 (s.reached i here) a.1 (subst (λ o. Has (deps_at o) d) a.1 k.0), k.1)

    -- the same of what a look finds
    pub reported_some : (o : Option ℕ) (seen' edges' : List ℕ) → is_some o ≡ true → Visits g skipped seen rest i o seen' edges' → IsMissing g root o
    reported_some None seen' edges' e v = absurd (false≢true e)
    reported_some (Some d) seen' edges' e v = search_finds seen' edges' d v

  -- where nothing is to be followed any more
  module _ (closed : IsClosed g skipped) (seen : List ℕ) (s : IsSearch g skipped us root seen []) where
    held : (j : ℕ) → Has seen j ⊎ Has [] j → Has seen j
    held j (inl k) = k
    held j (inr k) = absurd (omega arith)

    all_seen : {j : ℕ} → Reaches g root j → Has skipped j ⊎ Has seen j
    all_seen itself = inr (held root s.begun)
    all_seen (onward {j = j} {k = k} a r e q) = elim (all_seen r) [
      | inl h ↦ (let c = closed j h in let both : Some c.0 ≡ Some a = sym c.1 ∙ e in let same : c.0 ≡ a = cc in inl (c.2 k (subst (λ (b : Attrs). Has b.deps k) (sym same) q)))
      | inr h ↦ elim (s.followed j k a h e q) [ inl m ↦ inl m | inr m ↦ inr (held k m) ]
    ]

    pub search_ends : IsMissing g root None
    search_ends j r = elim (all_seen r) [ inl h ↦ (let c = closed j h in (c.0, c.1)) | inr h ↦ some_of (g j) (s.there j (inl h)) ]
