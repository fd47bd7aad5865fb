-- What a path of components keeps.
use Rattle.std.proofs.Common.{◌≡◌, ℕ, ◌⊎◌, ◌↔◌, inl, inr, List, [], ◌∷◌, ◌++◌, Option, Some, None, refl, sym, ap, subst, ◌∙◌, arith, append_assoc, append-nil}
use Rattle.std.specs.List.{flat_map, AllByRecursion}
use Rattle.ep_base.specs.declared.attrs.Attrs.{Attrs}
use Rattle.ep_base.specs.Places.{Has}
use Rattle.ep_rules.specs.Graph.{Graph, Reaches}
use Rattle.ep_rules.specs.Graph.Reaches.{itself, onward}
use Rattle.ep_rules.specs.Order.{Together}
use Rattle.ep_rules.proofs.Reaching.{reach_trans}
use Rattle.ep_rules.proofs.Places.{has_or, has_left, has_right, has_split, has_single}
use Rattle.ep_exec.proofs.Counts.{single_has}
use Rattle.ep_exec.specs.Walk.{Flat, members_of, pooled, joined, merged, deps_at, fresh, Follows, IsComponent, DepsFirst, AreComponents}
use Rattle.ep_exec.proofs.Stacks.{merged_here, merged_down, pooled_split, pooled_left, pooled_right}
use Rattle.ep_exec.proofs.Blocks.{flat_more}

-- a level of the path: `above` is what is closed and what is in the levels above it, `rest` the levels below
pub record IsLevel (g : Graph) (above : List ℕ) (t : Flat) (rest : List Flat) : Type 0 where
  pub some : (i : ℕ) × Has t.members i
  pub each : (i j : ℕ) → Has t.members i → Has t.members j → Reaches g i j
  pub leads : (i d : ℕ) → Has t.members i → Has t.edges d → Reaches g i d
  pub deps : (i d : ℕ) (a : Attrs) → Has t.members i → g i ≡ Some a → Has a.deps d → Has above d ⊎ (Has t.members d ⊎ Has t.edges d)
  pub below : (i j : ℕ) → Has (members_of rest) i → Has t.members j → Reaches g i j
  pub apart : (i : ℕ) → Has t.members i → ¬ Has above i

abbrev pub IsPath : Graph → List ℕ → List Flat → Type 0
IsPath g above [] = Unit {0}
IsPath g above (t ∷ s) = IsLevel g above t s × IsPath g (above ++ t.members) s

abbrev pub edges_of : List Flat → List ℕ
edges_of s = flat_map (λ l. l.edges) s

-- another list above, with no more that the path has
path_above : (g : Graph) (a b : List ℕ) (s : List Flat) → ((d : ℕ) → Has a d → Has b d) → ((i : ℕ) → Has b i → Has (members_of s) i → Has a i) → IsPath g a s → IsPath g b s
path_above g a b [] up down p = tt
path_above g a b (t ∷ s) up down p = (
  record {
    some = p.0.some;
    each = p.0.each;
    leads = p.0.leads;
    deps = λ i d x h e k. elim (p.0.deps i d x h e k) [ inl q ↦ inl (up d q) | inr q ↦ inr q ];
    below = p.0.below;
    apart = λ i h k. p.0.apart i h (down i k (has_left t.members (members_of s) i h));
  },
  path_above g (a ++ t.members) (b ++ t.members) s
      (λ d h. elim (has_split a t.members d h) [ inl k ↦ has_left b t.members d (up d k) | inr k ↦ has_right b t.members d k ])
      (λ i h m. elim (has_split b t.members i h) [ inl k ↦ has_left a t.members i (down i k (has_right t.members (members_of s) i m)) | inr k ↦ has_right a t.members i k ])
      p.1,
)

abbrev pub plus : Flat → ℕ → Flat
plus t d = record { members = t.members; edges = t.edges ++ d ∷ [] }

-- one dependency followed, which is closed, above or in the level
less : (g : Graph) (a b : List ℕ) (t : Flat) (s : List Flat) (d : ℕ) → ((x : ℕ) → Has a x → Has b x) → ((i : ℕ) → Has b i → Has t.members i → Has a i) → Has b d ⊎ Has t.members d → IsLevel g a (plus t d) s → IsLevel g b t s
less g a b t s d up down at l = record {
  some = l.some;
  each = l.each;
  leads = λ i x h k. l.leads i x h (has_left t.edges (d ∷ []) x k);
  deps = λ i x q h e k. elim (l.deps i x q h e k) [
    | inl y ↦ inl (up x y)
    | inr (inl y) ↦ inr (inl y)
    | inr (inr y) ↦ elim (has_split t.edges (d ∷ []) x y) [
      | inl z ↦ inr (inr z)
      | inr z ↦ (let o = has_single d x z in elim at [ inl w ↦ inl (subst (λ v. Has b v) o w) | inr w ↦ inr (inl (subst (λ v. Has t.members v) o w)) ])
    ]
  ];
  below = l.below;
  apart = λ i h k. l.apart i h (down i k h);
}

-- two levels joined, where d, to which the top leads, is below
module _ (g : Graph) (a : List ℕ) (t b : Flat) (s : List Flat) (d : ℕ) (lt : IsLevel g a (plus t d) (b ∷ s)) (lb : IsLevel g (a ++ t.members) b s) (at : Has (members_of (b ∷ s)) d) where
  top_to : (i j : ℕ) → Has t.members i → Has b.members j → Reaches g i j
  top_to i j hi hj = reach_trans (lt.leads i d hi (has_right t.edges (d ∷ []) d (single_has d))) (elim (has_split b.members (members_of s) d at) [ inl k ↦ lb.each d j k hj | inr k ↦ lb.below d j k hj ])

  to_top : (i j : ℕ) → Has b.members i → Has t.members j → Reaches g i j
  to_top i j hi hj = lt.below i j (has_left b.members (members_of s) i hi) hj

  both : IsLevel g a (plus (joined b t) d) s
  both = record {
    some = (lb.some.0, pooled_left b.members t.members lb.some.0 lb.some.1);
    each = λ i j hi hj. elim (pooled_split b.members t.members i hi) [
      | inl bi ↦ elim (pooled_split b.members t.members j hj) [ inl bj ↦ lb.each i j bi bj | inr tj ↦ to_top i j bi tj ]
      | inr ti ↦ elim (pooled_split b.members t.members j hj) [ inl bj ↦ top_to i j ti bj | inr tj ↦ lt.each i j ti tj ]
    ];
    leads = λ i x hi hx. elim (edge x hx) [
      | inl bx ↦ elim (pooled_split b.members t.members i hi) [ inl bi ↦ lb.leads i x bi bx | inr ti ↦ reach_trans (top_to i lb.some.0 ti lb.some.1) (lb.leads lb.some.0 x lb.some.1 bx) ]
      | inr tx ↦ elim (pooled_split b.members t.members i hi) [ inl bi ↦ reach_trans (to_top i lt.some.0 bi lt.some.1) (lt.leads lt.some.0 x lt.some.1 tx) | inr ti ↦ lt.leads i x ti tx ]
    ];
    deps = λ i x q hi e k. elim (pooled_split b.members t.members i hi) [
      | inl bi ↦ elim (lb.deps i x q bi e k) [
        | inl y ↦ elim (has_split a t.members x y) [ inl z ↦ inl z | inr z ↦ inr (inl (pooled_right b.members t.members x z)) ]
        | inr (inl y) ↦ inr (inl (pooled_left b.members t.members x y))
        | inr (inr y) ↦ inr (inr (has_left (pooled b.edges t.edges) (d ∷ []) x (pooled_left b.edges t.edges x y)))
      ]
      | inr ti ↦ elim (lt.deps i x q ti e k) [
        | inl y ↦ inl y
        | inr (inl y) ↦ inr (inl (pooled_right b.members t.members x y))
        | inr (inr y) ↦ inr (inr (elim (has_split t.edges (d ∷ []) x y) [ inl z ↦ has_left (pooled b.edges t.edges) (d ∷ []) x (pooled_right b.edges t.edges x z) | inr z ↦ has_right (pooled b.edges t.edges) (d ∷ []) x z ]))
      ]
    ];
    below = λ i j hi hj. elim (pooled_split b.members t.members j hj) [ inl bj ↦ lb.below i j hi bj | inr tj ↦ lt.below i j (has_right b.members (members_of s) i hi) tj ];
    apart = λ i hi k. elim (pooled_split b.members t.members i hi) [ inl bi ↦ lb.apart i bi (has_left a t.members i k) | inr ti ↦ lt.apart i ti k ];
  }
    where
      edge : (x : ℕ) → Has ((pooled b.edges t.edges) ++ d ∷ []) x → Has b.edges x ⊎ Has (t.edges ++ d ∷ []) x
      edge x h = elim (has_split (pooled b.edges t.edges) (d ∷ []) x h) [
        | inl k ↦ elim (pooled_split b.edges t.edges x k) [ inl y ↦ inl y | inr y ↦ inr (has_left t.edges (d ∷ []) x y) ]
        | inr k ↦ inr (has_right t.edges (d ∷ []) x k)
      ]

merged_path : (g : Graph) (a : List ℕ) (t : Flat) (s : List Flat) (d : ℕ) → IsPath g a (plus t d ∷ s) → Has t.members d ⊎ Has (members_of s) d → IsPath g a (merged t s d)
merged_path g a t [] d p at = elim at [
  | inl k ↦ (less g a a t [] d (λ x h. h) (λ i h m. h) (inr k) p.0, tt)
  | inr k ↦ absurd (omega arith)
]
merged_path g a t (b ∷ s) d p at = go (has_or t.members d) (merged_path g a (joined b t) s d)
  where
    go : Has t.members d ⊎ (Has t.members d → ⊥) → (IsPath g a (plus (joined b t) d ∷ s) → Has (joined b t).members d ⊎ Has (members_of s) d → IsPath g a (merged (joined b t) s d)) → IsPath g a (merged t (b ∷ s) d)
    go (inl k) r = subst (IsPath g a) (sym (merged_here t (b ∷ s) d k)) (less g a a t (b ∷ s) d (λ x h. h) (λ i h m. h) (inr k) p.0, p.1)
    go (inr n) r =
        let on : Has (members_of (b ∷ s)) d = elim at [ inl k ↦ absurd (n k) | inr k ↦ k ] in
        subst (IsPath g a) (sym (merged_down t b s d n)) (r (
          both g a t b s d p.0 p.1.0 on,
          path_above g ((a ++ t.members) ++ b.members) (a ++ (pooled b.members t.members)) s
              (λ x h. elim (has_split (a ++ t.members) b.members x h) [
                | inl k ↦ elim (has_split a t.members x k) [ inl q ↦ has_left a (pooled b.members t.members) x q | inr q ↦ has_right a (pooled b.members t.members) x (pooled_right b.members t.members x q) ]
                | inr k ↦ has_right a (pooled b.members t.members) x (pooled_left b.members t.members x k)
              ])
              (λ x h m. elim (has_split a (pooled b.members t.members) x h) [
                | inl k ↦ has_left (a ++ t.members) b.members x (has_left a t.members x k)
                | inr k ↦ elim (pooled_split b.members t.members x k) [ inl q ↦ has_right (a ++ t.members) b.members x q | inr q ↦ has_left (a ++ t.members) b.members x (has_right a t.members x q) ]
              ])
              p.1.1,
        )
        (elim (has_split b.members (members_of s) d on) [ inl k ↦ inl (pooled_left b.members t.members d k) | inr k ↦ inr k ]))

-- joining changes nothing of what the path has
pub merged_members : (t : Flat) (s : List Flat) (d i : ℕ) → Has (members_of (merged t s d)) i ↔ (Has t.members i ⊎ Has (members_of s) i)
merged_members t [] d i = (λ h. elim (has_split t.members [] i h) [ inl k ↦ inl k | inr k ↦ absurd (omega arith) ], λ h. elim h [ inl k ↦ has_left t.members [] i k | inr k ↦ absurd (omega arith) ])
merged_members t (b ∷ s) d i = go (has_or t.members d) (merged_members (joined b t) s d i)
  where
    go : Has t.members d ⊎ (Has t.members d → ⊥) → (Has (members_of (merged (joined b t) s d)) i ↔ (Has (joined b t).members i ⊎ Has (members_of s) i)) → Has (members_of (merged t (b ∷ s) d)) i ↔ (Has t.members i ⊎ Has (members_of (b ∷ s)) i)
    go (inl k) r = subst (λ x. Has (members_of x) i ↔ (Has t.members i ⊎ Has (members_of (b ∷ s)) i)) (sym (merged_here t (b ∷ s) d k)) (has_split t.members (members_of (b ∷ s)) i, λ h. elim h [ inl q ↦ has_left t.members (members_of (b ∷ s)) i q | inr q ↦ has_right t.members (members_of (b ∷ s)) i q ])
    go (inr n) r = subst (λ x. Has (members_of x) i ↔ (Has t.members i ⊎ Has (members_of (b ∷ s)) i)) (sym (merged_down t b s d n)) (
      λ h. elim (r.0 h) [
        | inl q ↦ elim (pooled_split b.members t.members i q) [ inl y ↦ inr (has_left b.members (members_of s) i y) | inr y ↦ inl y ]
        | inr q ↦ inr (has_right b.members (members_of s) i q)
      ],
      λ h. r.1 (elim h [
        | inl q ↦ inl (pooled_right b.members t.members i q)
        | inr q ↦ elim (has_split b.members (members_of s) i q) [ inl y ↦ inl (pooled_left b.members t.members i y) | inr y ↦ inr y ]
      ]),
    )

merged_edges : (t : Flat) (s : List Flat) (d x : ℕ) → Has (edges_of (merged t s d)) x → Has (t.edges ++ edges_of s) x
merged_edges t [] d x h = h
merged_edges t (b ∷ s) d x h = go (has_or t.members d) (merged_edges (joined b t) s d x)
  where
    go : Has t.members d ⊎ (Has t.members d → ⊥) → (Has (edges_of (merged (joined b t) s d)) x → Has ((pooled b.edges t.edges) ++ edges_of s) x) → Has (t.edges ++ (b.edges ++ edges_of s)) x
    go (inl k) r = subst (λ y. Has (edges_of y) x) (merged_here t (b ∷ s) d k) h
    go (inr n) r = elim (has_split (pooled b.edges t.edges) (edges_of s) x (r (subst (λ y. Has (edges_of y) x) (merged_down t b s d n) h))) [
      | inl k ↦ elim (pooled_split b.edges t.edges x k) [ inl q ↦ has_right t.edges (b.edges ++ edges_of s) x (has_left b.edges (edges_of s) x q) | inr q ↦ has_left t.edges (b.edges ++ edges_of s) x q ]
      | inr k ↦ has_right t.edges (b.edges ++ edges_of s) x (has_right b.edges (edges_of s) x k)
    ]

-- a new level on top
fresh_path : (g : Graph) (a : List ℕ) (t : Flat) (s : List Flat) (d : ℕ) → IsPath g a (plus t d ∷ s) → ¬ Has a d → ¬ (Has t.members d ⊎ Has (members_of s) d) → IsPath g a (fresh g d ∷ t ∷ s)
fresh_path g a t s d p na nt = (
  record {
    some = (d, single_has d);
    each = λ i j hi hj. subst (λ x. Reaches g x j) (has_single d i hi) (subst (λ x. Reaches g d x) (has_single d j hj) itself);
    leads = λ i x hi hx. subst (λ y. Reaches g y x) (has_single d i hi) (dep (g d) refl x hx);
    deps = λ i x q hi e k. inr (inr (subst (λ o. Has (deps_at o) x) (sym (ap g (has_single d i hi) ∙ e)) k));
    below = λ i j hi hj. subst (λ x. Reaches g i x) (has_single d j hj) (elim (has_split t.members (members_of s) i hi) [
      | inl ti ↦ p.0.leads i d ti last
      | inr si ↦ reach_trans (p.0.below i p.0.some.0 si p.0.some.1) (p.0.leads p.0.some.0 d p.0.some.1 last)
    ]);
    apart = λ i hi k. na (subst (λ x. Has a x) (sym (has_single d i hi)) k);
  },
  (
    less g a (a ++ d ∷ []) t s d (λ x h. has_left a (d ∷ []) x h)
        (λ i h m. elim (has_split a (d ∷ []) i h) [ inl k ↦ k | inr k ↦ absurd (nt (inl (subst (λ x. Has t.members x) (sym (has_single d i k)) m))) ])
        (inl (has_right a (d ∷ []) d (single_has d))) p.0,
    path_above g (a ++ t.members) ((a ++ d ∷ []) ++ t.members) s
        (λ x h. elim (has_split a t.members x h) [ inl k ↦ has_left (a ++ d ∷ []) t.members x (has_left a (d ∷ []) x k) | inr k ↦ has_right (a ++ d ∷ []) t.members x k ])
        (λ i h m. elim (has_split (a ++ d ∷ []) t.members i h) [
          | inl k ↦ elim (has_split a (d ∷ []) i k) [ inl q ↦ has_left a t.members i q | inr q ↦ absurd (nt (inr (subst (λ x. Has (members_of s) x) (sym (has_single d i q)) m))) ]
          | inr k ↦ has_right a t.members i k
        ])
        p.1,
  ),
)
  where
    last : Has (t.edges ++ d ∷ []) d
    last = has_right t.edges (d ∷ []) d (single_has d)

    dep : (o : Option Attrs) → g d ≡ o → (x : ℕ) → Has (deps_at o) x → Reaches g d x
    dep None e x h = absurd (omega arith)
    dep (Some q) e x h = onward q itself e h

-- a dependency that is closed
skip_path : (g : Graph) (a : List ℕ) (t : Flat) (s : List Flat) (d : ℕ) → IsPath g a (plus t d ∷ s) → Has a d → IsPath g a (t ∷ s)
skip_path g a t s d p h = (less g a a t s d (λ x k. k) (λ i k m. k) (inl h) p.0, p.1)

-- the walk so far: closed is all of the components found, which are closed under reach
pub record IsWalk (g : Graph) (root : ℕ) (us : List ℕ) (closed : List ℕ) (cs : List (List ℕ)) (s : List Flat) : Type 0 where
  pub path : IsPath g closed s
  pub sound : (i : ℕ) → Has closed i ⊎ Has (members_of s) i → Reaches g root i
  pub begins : Has closed root ⊎ Has (members_of s) root
  pub shut : (i d : ℕ) (a : Attrs) → Has closed i → g i ≡ Some a → Has a.deps d → Has closed d
  pub parts : closed ≡ flat_map (λ c. c) cs
  pub each : AllByRecursion (IsComponent g) cs
  pub first : DepsFirst g [] cs
  pub known : (d : ℕ) → Has (edges_of s) d → Has us d

-- what is closed under dependencies is closed under reach
shut_reach : (g : Graph) (closed : List ℕ) → ((i d : ℕ) (a : Attrs) → Has closed i → g i ≡ Some a → Has a.deps d → Has closed d) → {i j : ℕ} → Has closed i → Reaches g i j → Has closed j
shut_reach g closed shut h itself = h
shut_reach g closed shut h (onward {j = j} {k = k} a r e d) = shut j k a (shut_reach g closed shut h r) e d

all_push : (g : Graph) (cs : List (List ℕ)) (c : List ℕ) → AllByRecursion (IsComponent g) cs → IsComponent g c → AllByRecursion (IsComponent g) (cs ++ c ∷ [])
all_push g [] c h k = (k, tt)
all_push g (x ∷ cs) c h k = (h.0, all_push g cs c h.1 k)

first_push : (g : Graph) (before : List ℕ) (cs : List (List ℕ)) (c : List ℕ) → DepsFirst g before cs
    → ((i d : ℕ) (a : Attrs) → Has c i → g i ≡ Some a → Has a.deps d → Has (before ++ flat_map (λ c. c) cs) d ⊎ Has c d)
    → ((i : ℕ) → Has c i → ¬ Has (before ++ flat_map (λ c. c) cs) i) → DepsFirst g before (cs ++ c ∷ [])
first_push g before [] c h deps apart = (
  λ i d a k e q. elim (deps i d a k e q) [ inl y ↦ inl (subst (λ ys. Has ys d) (append-nil before) y) | inr y ↦ inr y ],
  λ i k y. apart i k (subst (λ ys. Has ys i) (sym (append-nil before)) y),
  tt,
)
first_push g before (x ∷ cs) c h deps apart = (
  h.0,
  h.1,
  first_push g (before ++ x) cs c h.2
      (λ i d a k e q. elim (deps i d a k e q) [ inl y ↦ inl (subst (λ ys. Has ys d) (sym (append_assoc before x (flat_map (λ c. c) cs))) y) | inr y ↦ inr y ])
      (λ i k y. apart i k (subst (λ ys. Has ys i) (append_assoc before x (flat_map (λ c. c) cs)) y)),
)

-- a level with nothing left to follow is a component
pub walk_close : (g : Graph) (root : ℕ) (us closed : List ℕ) (cs : List (List ℕ)) (m : List ℕ) (s : List Flat) → IsWalk g root us closed cs (record { members = m; edges = [] } ∷ s) → IsWalk g root us (closed ++ m) (cs ++ m ∷ []) s
walk_close g root us closed cs m s w = record {
  path = w.path.1;
  sound = λ i h. w.sound i (elim h [ inl k ↦ elim (has_split closed m i k) [ inl q ↦ inl q | inr q ↦ inr (has_left m (members_of s) i q) ] | inr k ↦ inr (has_right m (members_of s) i k) ]);
  begins = elim w.begins [ inl k ↦ inl (has_left closed m root k) | inr k ↦ elim (has_split m (members_of s) root k) [ inl q ↦ inl (has_right closed m root q) | inr q ↦ inr q ] ];
  shut = shut';
  parts = ap (λ ys. ys ++ m) w.parts ∙ sym (flat_more cs m);
  each = all_push g cs m w.each (λ i j hi. (λ hj. (w.path.0.each i j hi hj, w.path.0.each j i hj hi), λ t. component i j hi t));
  first = first_push g [] cs m w.first
      (λ i d a h e k. elim (w.path.0.deps i d a h e k) [ inl y ↦ inl (subst (λ ys. Has ys d) w.parts y) | inr (inl y) ↦ inr y | inr (inr y) ↦ absurd (omega arith) ])
      (λ i h k. w.path.0.apart i h (subst (λ ys. Has ys i) (sym w.parts) k));
  known = w.known;
}
  where
    shut' : (i d : ℕ) (a : Attrs) → Has (closed ++ m) i → g i ≡ Some a → Has a.deps d → Has (closed ++ m) d
    shut' i d a h e k = elim (has_split closed m i h) [
      | inl q ↦ has_left closed m d (w.shut i d a q e k)
      | inr q ↦ elim (w.path.0.deps i d a q e k) [ inl y ↦ has_left closed m d y | inr (inl y) ↦ has_right closed m d y | inr (inr y) ↦ absurd (omega arith) ]
    ]

    component : (i j : ℕ) → Has m i → Together g i j → Has m j
    component i j hi t = elim (has_split closed m j (shut_reach g (closed ++ m) shut' (has_right closed m i hi) t.0)) [
      | inl q ↦ absurd (w.path.0.apart i hi (shut_reach g closed w.shut q t.1))
      | inr q ↦ q
    ]

-- one dependency followed
pub walk_follow : (g : Graph) (root : ℕ) (us closed : List ℕ) (cs : List (List ℕ)) (t : Flat) (s : List Flat) (d : ℕ) (new : List Flat) → ((i x : ℕ) (a : Attrs) → g i ≡ Some a → Has a.deps x → Has us x) → IsWalk g root us closed cs (plus t d ∷ s) → Follows g closed t s d new → IsWalk g root us closed cs new
walk_follow g root us closed cs t s d new in_us w f = go f
  where
    known' : (x : ℕ) → Has (t.edges ++ edges_of s) x → Has us x
    known' x h = w.known x (elim (has_split t.edges (edges_of s) x h) [ inl k ↦ has_left (t.edges ++ d ∷ []) (edges_of s) x (has_left t.edges (d ∷ []) x k) | inr k ↦ has_right (t.edges ++ d ∷ []) (edges_of s) x k ])

    on_top : (i : ℕ) → Has t.members i ⊎ Has (members_of s) i → Has (t.members ++ members_of s) i
    on_top i h = elim h [ inl k ↦ has_left t.members (members_of s) i k | inr k ↦ has_right t.members (members_of s) i k ]

    fresh_known : (o : Option Attrs) → g d ≡ o → (x : ℕ) → Has (deps_at o) x → Has us x
    fresh_known None e x h = absurd (omega arith)
    fresh_known (Some a) e x h = in_us d x a e h

    root_d : Reaches g root d
    root_d = reach_trans (w.sound w.path.0.some.0 (inr (has_left t.members (members_of s) w.path.0.some.0 w.path.0.some.1))) (w.path.0.leads w.path.0.some.0 d w.path.0.some.1 (has_right t.edges (d ∷ []) d (single_has d)))

    go : Follows g closed t s d new → IsWalk g root us closed cs new
    go (inl p) = subst (IsWalk g root us closed cs) (sym p.1) (record {
      path = skip_path g closed t s d w.path p.0;
      sound = w.sound;
      begins = w.begins;
      shut = w.shut;
      parts = w.parts;
      each = w.each;
      first = w.first;
      known = known';
    })
    go (inr (inl p)) = subst (IsWalk g root us closed cs) (sym p.2) (record {
      path = merged_path g closed t s d w.path p.1;
      sound = λ i h. w.sound i (elim h [ inl k ↦ inl k | inr k ↦ inr (on_top i ((merged_members t s d i).0 k)) ]);
      begins = elim w.begins [ inl k ↦ inl k | inr k ↦ inr ((merged_members t s d root).1 (has_split t.members (members_of s) root k)) ];
      shut = w.shut;
      parts = w.parts;
      each = w.each;
      first = w.first;
      known = λ x h. known' x (merged_edges t s d x h);
    })
    go (inr (inr p)) = subst (IsWalk g root us closed cs) (sym p.2) (record {
      path = fresh_path g closed t s d w.path p.0 p.1;
      sound = λ i h. elim h [ inl k ↦ w.sound i (inl k) | inr k ↦ elim (has_split (d ∷ []) (t.members ++ members_of s) i k) [ inl q ↦ subst (Reaches g root) (has_single d i q) root_d | inr q ↦ w.sound i (inr q) ] ];
      begins = elim w.begins [ inl k ↦ inl k | inr k ↦ inr (has_right (d ∷ []) (t.members ++ members_of s) root k) ];
      shut = w.shut;
      parts = w.parts;
      each = w.each;
      first = w.first;
      known = λ x h. elim (has_split (deps_at (g d)) (t.edges ++ edges_of s) x h) [ inl k ↦ fresh_known (g d) refl x k | inr k ↦ known' x k ];
    })

-- the beginning
pub walk_first : (g : Graph) (root : ℕ) (us : List ℕ) → ((i x : ℕ) (a : Attrs) → g i ≡ Some a → Has a.deps x → Has us x) → IsWalk g root us [] [] (fresh g root ∷ [])
walk_first g root us in_us = record {
  path = (
    record {
      some = (root, single_has root);
      each = λ i j hi hj. subst (λ x. Reaches g x j) (has_single root i hi) (subst (λ x. Reaches g root x) (has_single root j hj) itself);
      leads = λ i x hi hx. subst (λ y. Reaches g y x) (has_single root i hi) (dep (g root) refl x hx);
      deps = λ i x q hi e k. inr (inr (subst (λ o. Has (deps_at o) x) (sym (ap g (has_single root i hi) ∙ e)) k));
      below = λ i j hi hj. absurd (omega arith);
      apart = λ i hi k. omega arith;
    },
    tt,
  );
  sound = λ i h. elim h [ inl k ↦ absurd (omega arith) | inr k ↦ subst (Reaches g root) (has_single root i k) itself ];
  begins = inr (single_has root);
  shut = λ i d a h e k. absurd (omega arith);
  parts = refl;
  each = tt;
  first = tt;
  known = λ x h. fresh_known (g root) refl x (elim (has_split (deps_at (g root)) [] x h) [ inl k ↦ k | inr k ↦ absurd (omega arith) ]);
}
  where
    dep : (o : Option Attrs) → g root ≡ o → (x : ℕ) → Has (deps_at o) x → Reaches g root x
    dep None e x h = absurd (omega arith)
    dep (Some q) e x h = onward q itself e h

    fresh_known : (o : Option Attrs) → g root ≡ o → (x : ℕ) → Has (deps_at o) x → Has us x
    fresh_known None e x h = absurd (omega arith)
    fresh_known (Some a) e x h = in_us root x a e h

-- the end
pub walk_all : (g : Graph) (root : ℕ) (us closed : List ℕ) (cs : List (List ℕ)) → IsWalk g root us closed cs [] → AreComponents g root cs
walk_all g root us closed cs w = record {
  whole = λ j. (
    λ h. w.sound j (inl (subst (λ ys. Has ys j) (sym w.parts) h)),
    λ r. subst (λ ys. Has ys j) w.parts (shut_reach g closed w.shut (elim w.begins [ inl k ↦ k | inr k ↦ absurd (omega arith) ]) r),
  );
  each = w.each;
  first = w.first;
}
