-- Lists of instances with a seal: what they leave, and that two lists in the order of execution leave one map.
use Rattle.std.proofs.Common.{◌≡◌, ℕ, suc, ◌<◌, inl, inr, List, [], ◌∷◌, take, map, true, false, Option, Some, None, refl, sym, ap, subst, ◌∙◌, arith}
use Rattle.std.proofs.lemmas.Bool.{cases_Bool, false≢true}
use Rattle.ep_base.specs.Commands.{Command, Noop, Get, Put, Del, Swap, Cas, Seal, Opaque, Tx}
use Rattle.ep_base.specs.Interference.{interfere, is_seal}
use Rattle.ep_base.specs.Places.{place, Has}
use Rattle.ep_base.specs.Sameness.{is_noop}
use Rattle.ep_rules.specs.Graph.{Graph}
use Rattle.ep_rules.specs.History.{AreDependent}
use Rattle.ep_rules.specs.OneMap.{Contents, written, sealed_by, Store, opened, is_closed, after, after_all, after_commands}
use Rattle.ep_rules.proofs.Commuting.{map_of, no_seal, seal_value, before_seal}
use Rattle.ep_rules.proofs.Places.{place_cons, place_head, has_tail}
use Rattle.ep_rules.proofs.Replies.{one_map}
use Rattle.ep_rules.proofs.Wells.{Well, well_ordered}

pub seal_is : (c : Command) (v : List ℕ) → c ≡ Seal v → is_seal c ≡ true
seal_is c v e = ap is_seal e

seals_meet : (a b : Command) → is_seal a ≡ true → is_seal b ≡ true → interfere a b ≡ true
seals_meet a b ea eb =
    let v = seal_value a ea in
    let w = seal_value b eb in
    ap (λ x. interfere x b) v.1 ∙ ap (λ y. interfere (Seal v.0) y) w.1

pub noop_is : (a : Command) → is_noop a ≡ true → a ≡ Noop
noop_is Noop e = refl
noop_is (Get k) e = absurd (false≢true e)
noop_is (Put k v) e = absurd (false≢true e)
noop_is (Del k) e = absurd (false≢true e)
noop_is (Swap p) e = absurd (false≢true e)
noop_is (Cas k x n) e = absurd (false≢true e)
noop_is (Seal v) e = absurd (false≢true e)
noop_is (Opaque q w) e = absurd (false≢true e)
noop_is (Tx is) e = absurd (false≢true e)

pub not_seal : (c : Command) → is_seal c ≡ false → sealed_by c ≡ None
not_seal c e = elim (no_seal c) [ inl n ↦ n | inr s ↦ absurd (false≢true (sym e ∙ s)) ]

none_seal : (c : Command) → sealed_by c ≡ None → is_seal c ≡ false
none_seal c e = elim (cases_Bool (is_seal c)) [
  | inl s ↦ (let v = seal_value c s in let t : None ≡ Some v.0 = sym e ∙ ap sealed_by v.1 in absurd (cc))
  | inr n ↦ n
]

-- a command that is no seal leaves an open map open
pub stays_open : (m : Contents) (c : Command) → sealed_by c ≡ None → after (opened m) c ≡ opened (written m c)
stays_open m c e = ap (λ o. map_of (written m c) o) e

pub sealed_here : (m : Contents) (c : Command) (v : List ℕ) → c ≡ Seal v → after (opened m) c ≡ map_of m (Some v)
sealed_here m c v e = ap (λ d. after (opened m) d) e

module _ (c : ℕ → Command) where
  pub closed_stays : (m : Contents) (v : List ℕ) (xs : List ℕ) → after_all c (map_of m (Some v)) xs ≡ map_of m (Some v)
  closed_stays m v [] = refl
  closed_stays m v (x ∷ xs) = closed_stays m v xs

  -- the first seal of a list
  pub record FirstSeal (xs : List ℕ) : Type 0 where
    pub at : ℕ
    pub value : List ℕ
    pub has : Has xs at
    pub seals : c at ≡ Seal value
    pub before : (u : ℕ) → place xs u < place xs at → is_seal (c u) ≡ false

  -- an open map is closed by the first seal, and stays so
  closes : (m : Contents) (xs : List ℕ) (z : ℕ) (v : List ℕ) → Has xs z → c z ≡ Seal v → ((u : ℕ) → place xs u < place xs z → is_seal (c u) ≡ false) →
      after_all c (opened m) xs ≡ map_of (after_all c (opened m) (take (place xs z) xs)).contents (Some v)
  closes m [] z v h s b = absurd (omega arith)
  closes m (x ∷ xs) z v h s b = elim (place_cons x z xs) [ inl p ↦ now p.0 p.1 | inr p ↦ later p (closes (written m (c x)) xs z v) ]
    where
      now : x ≡ z → place (x ∷ xs) z ≡ 0 → after_all c (opened m) (x ∷ xs) ≡ map_of (after_all c (opened m) (take (place (x ∷ xs) z) (x ∷ xs))).contents (Some v)
      now e p =
          ap (λ s. after_all c s xs) (sealed_here m (c x) v (ap c e ∙ s)) ∙ closed_stays m v xs
          ∙ sym (ap (λ n. map_of (after_all c (opened m) (take n (x ∷ xs))).contents (Some v)) p)

      later : place (x ∷ xs) z ≡ suc (place xs z) →
          (Has xs z → c z ≡ Seal v → ((u : ℕ) → place xs u < place xs z → is_seal (c u) ≡ false) → after_all c (opened (written m (c x))) xs ≡ map_of (after_all c (opened (written m (c x))) (take (place xs z) xs)).contents (Some v)) →
          after_all c (opened m) (x ∷ xs) ≡ map_of (after_all c (opened m) (take (place (x ∷ xs) z) (x ∷ xs))).contents (Some v)
      later p rec =
          let open_at : is_seal (c x) ≡ false = b x (omega (arith, place_head x xs, p)) in
          let e : after (opened m) (c x) ≡ opened (written m (c x)) = stays_open m (c x) (not_seal (c x) open_at) in
          let rest = rec (omega arith) s (λ u lt. elim (place_cons x u xs) [ inl q ↦ subst (λ y. is_seal (c y) ≡ false) q.0 open_at | inr q ↦ b u (omega arith) ]) in
          ap (λ s. after_all c s xs) e ∙ rest
          ∙ sym (ap (λ s. map_of (after_all c s (take (place xs z) xs)).contents (Some v)) e)
          ∙ sym (ap (λ n. map_of (after_all c (opened m) (take n (x ∷ xs))).contents (Some v)) p)

  pub find_seal : (m : Contents) (xs : List ℕ) → is_closed (after_all c (opened m) xs) ≡ true → FirstSeal xs
  find_seal m [] h = absurd (false≢true h)
  find_seal m (x ∷ xs) h = elim (no_seal (c x)) [
    | inl n ↦ later n (find_seal (written m (c x)) xs (subst (λ s. is_closed (after_all c s xs) ≡ true) (stays_open m (c x) n) h))
    | inr s ↦ now (seal_value (c x) s)
  ]
    where
      now : (v : List ℕ) × (c x ≡ Seal v) → FirstSeal (x ∷ xs)
      now s = record { at = x; value = s.0; has = (let e = place_head x xs in omega arith); seals = s.1; before = λ u lt. absurd (let e = place_head x xs in omega arith) }

      later : sealed_by (c x) ≡ None → FirstSeal xs → FirstSeal (x ∷ xs)
      later n t =
          record {
            at = t.at;
            value = t.value;
            has = has_tail x t.at xs t.has;
            seals = t.seals;
            before = λ u lt. elim (place_cons x u xs) [
              | inl q ↦ subst (λ y. is_seal (c y) ≡ false) q.0 (none_seal (c x) n)
              | inr q ↦ elim (place_cons x t.at xs) [
                | inl p ↦ absurd (omega arith)
                | inr p ↦ t.before u (omega arith)
              ]
            ];
          }

  -- the commands, one after the other
  pub by_commands : (s : Store) (xs : List ℕ) → after_all c s xs ≡ after_commands s (map c xs)
  by_commands s [] = refl
  by_commands s (x ∷ xs) = by_commands (after s (c x)) xs

-- Of two lists in the order of execution: where the one has executed a seal, it leaves the map that the other leaves, which has all of it.
module _ (all : Graph) (c : ℕ → Command) (dep : AreDependent all c) (l h : List ℕ) (wl : Well all l) (wh : Well all h) (within : (i : ℕ) → Has l i → Has h i) where
  under : (o : Option (List ℕ)) (m : Contents) → is_closed (after_all c (map_of m o) l) ≡ true → after_all c (map_of m o) l ≡ after_all c (map_of m o) h
  under (Some v) m e = closed_stays c m v l ∙ sym (closed_stays c m v h)
  under None m e =
      let z : FirstSeal c l = find_seal c m l e in
      let alike = well_ordered all c dep l h wl wh in
      let hz : Has h z.at = within z.at z.has in
      closes c m l z.at z.value z.has z.seals z.before
      ∙ ap (λ s. map_of s.contents (Some z.value)) (one_map (opened m) c z.at l h wl.once wh.once z.has hz alike (λ x n. before_seal z.value (c x) (subst (λ d. interfere (c x) d ≡ false) z.seals n)))
      ∙ sym (closes c m h z.at z.value hz z.seals (λ u lt. elim (cases_Bool (is_seal (c u))) [
        | inl s ↦ absurd (false≢true (sym (z.before u ((alike u z.at z.has hz (seals_meet (c u) (c z.at) s (seal_is (c z.at) z.value z.seals))).1 lt)) ∙ s))
        | inr n ↦ n
      ]))

  pub same_closing : (base : Store) → is_closed (after_all c base l) ≡ true → after_all c base l ≡ after_all c base h
  same_closing base e = under base.seal base.contents e
