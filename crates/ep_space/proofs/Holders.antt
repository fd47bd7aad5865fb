-- The instances whose recorded command has a key.
use Rattle.std.proofs.Common.{◌≡◌, ℕ, ◌<◌, Bool, true, false, cond, List, [], ◌∷◌, ◌++◌, ◌||◌, ◌⊎◌, Option, Some, None, refl, sym, ap, subst, ◌∙◌, arith, true≢false, inl, inr}
use Rattle.std.specs.Cmp.{unsigned_tied}
use Rattle.std.specs.FinMap as map
use Rattle.std.specs.FinMap.{find, is_sorted}
use Rattle.std.specs.FinMap.Entries.{below_all}
use Rattle.std.specs.Ordering.{nat_cmp, eq_by_cmp, is_lt}
use Rattle.std.specs.declared.cmp.Ordering.{Ordering}
use Rattle.std.specs.declared.cmp.Ordering.TheVariants.{Less, Equal, Greater}
use Rattle.std.proofs.lemmas.Bool.{and_parts, eq-eqb, eqb-true}
use Rattle.std.proofs.lemmas.Cmp.{ranked}
use Rattle.std.proofs.lemmas.Option.{none-some, same_Some}
use Rattle.ep_base.specs.Deps.{IsRising, IsBelowFirst, union}
use Rattle.ep_base.specs.Interference.{has_key, share_key}
use Rattle.ep_base.specs.Places.{Has}
use Rattle.ep_base.proofs.Members.{same_members, union-cases, Has-union}
use Rattle.ep_base.proofs.Union.{IsRising-union}
use Rattle.ep_base.proofs.Places.{Has-empty, Has-cons_cases, Has-head, Has-tail}
use Rattle.ep_base.proofs.Tests.{true_of}
use Rattle.ep_rules.specs.InterferenceSet.{those, instances}
use Rattle.ep_rules.specs.Maps.{Map, none, get}
use Rattle.ep_rules.specs.declared.record.Record.{Record}
use Rattle.ep_space.specs.Keys.{voted_keys, recorded_keys, keys_at, names_key, holders, names_one, holders_of}

-- The instances of those entries of a map that pass a test.

less_from : (o : Ordering) → is_lt o ≡ true → o ≡ Less
less_from Less e = refl
less_from Equal e = absurd cc
less_from Greater e = absurd cc

lt_from : (i j : ℕ) → is_lt (nat_cmp i j) ≡ true → i < j
lt_from i j e = ranked i j Less (sym (less_from (nat_cmp i j) e))

below_found : (k i : ℕ) (r : Record) (es : List (ℕ × Record)) → below_all nat_cmp k es ≡ true → find nat_cmp i es ≡ Some r → k < i
below_found k i r [] h e = absurd (none-some r e)
below_found k i r (f ∷ fs) h e = go (eq_by_cmp nat_cmp i f.0) refl e (below_found k i r fs p.1)
  where
    p : (is_lt (nat_cmp k f.0) ≡ true) × (below_all nat_cmp k fs ≡ true)
    p = and_parts (is_lt (nat_cmp k f.0)) (below_all nat_cmp k fs) h

    go : (b : Bool) → eq_by_cmp nat_cmp i f.0 ≡ b → cond b (Some f.1) (find nat_cmp i fs) ≡ Some r → (find nat_cmp i fs ≡ Some r → k < i) → k < i
    go true same at rest = subst (λ q. k < q) (sym (eqb-true i f.0 (sym (unsigned_tied i f.0) ∙ same))) (lt_from k f.0 p.0)
    go false apart at rest = rest at

-- what is found further on is found from the start
pub found_on : (e : ℕ × Record) (es : List (ℕ × Record)) (i : ℕ) (r : Record) → below_all nat_cmp e.0 es ≡ true → find nat_cmp i es ≡ Some r → find nat_cmp i (e ∷ es) ≡ Some r
found_on e es i r h at = go (eq_by_cmp nat_cmp i e.0) refl
  where
    go : (b : Bool) → eq_by_cmp nat_cmp i e.0 ≡ b → cond b (Some e.1) (find nat_cmp i es) ≡ Some r
    go true same =
        let low = below_found e.0 i r es h at in
        let tied = eqb-true i e.0 (sym (unsigned_tied i e.0) ∙ same) in
        absurd (omega (arith, low, tied))
    go false apart = at

abbrev pub Found : (ℕ × Record → Bool) → List (ℕ × Record) → ℕ → Type 0
Found t es i = (r : Record) × (find nat_cmp i es ≡ Some r) × (t (i, r) ≡ true)

module _ (t : ℕ × Record → Bool) where
  first_low : (k : ℕ) (es : List (ℕ × Record)) → below_all nat_cmp k es ≡ true → IsBelowFirst k (instances (those t es))
  first_low k [] h = tt
  first_low k (e ∷ es) h =
      let p = and_parts (is_lt (nat_cmp k e.0)) (below_all nat_cmp k es) h in
      elim (t e) as (λ b. IsBelowFirst k (instances (cond b (e ∷ those t es) (those t es)))) [ true ↦ lt_from k e.0 p.0 | false ↦ first_low k es p.1 ]

  pub rising_those : (es : List (ℕ × Record)) → is_sorted nat_cmp es ≡ true → IsRising (instances (those t es))
  rising_those [] h = tt
  rising_those (e ∷ es) h =
      let p = and_parts (below_all nat_cmp e.0 es) (is_sorted nat_cmp es) h in
      elim (t e) as (λ b. IsRising (instances (cond b (e ∷ those t es) (those t es)))) [ true ↦ (first_low e.0 es p.0, rising_those es p.1) | false ↦ rising_those es p.1 ]

  pub those-found : (es : List (ℕ × Record)) (i : ℕ) → is_sorted nat_cmp es ≡ true → Has (instances (those t es)) i → Found t es i
  those-found [] i s has = absurd (Has-empty i has)
  those-found (e ∷ es) i s has = go (t e) refl (those-found es i p.1) has
    where
      p : (below_all nat_cmp e.0 es ≡ true) × (is_sorted nat_cmp es ≡ true)
      p = and_parts (below_all nat_cmp e.0 es) (is_sorted nat_cmp es) s

      on : Found t es i → Found t (e ∷ es) i
      on f = (f.0, found_on e es i f.0 p.0 f.1, f.2)

      here : e.0 ≡ i → find nat_cmp i (e ∷ es) ≡ Some e.1
      here same = ap (λ b. cond b (Some e.1) (find nat_cmp i es)) (unsigned_tied i e.0 ∙ eq-eqb i e.0 (sym same))

      go : (b : Bool) → t e ≡ b → (Has (instances (those t es)) i → Found t es i) → Has (instances (cond b (e ∷ those t es) (those t es))) i → Found t (e ∷ es) i
      go true passes rest h = elim (Has-cons_cases e.0 (instances (those t es)) i h) [
        | inl same ↦ (e.1, here same, subst (λ q. t (q, e.1) ≡ true) same passes)
        | inr u ↦ on (rest u)
      ]
      go false fails rest h = on (rest h)

  pub found-those : (es : List (ℕ × Record)) (i : ℕ) (r : Record) → find nat_cmp i es ≡ Some r → t (i, r) ≡ true → Has (instances (those t es)) i
  found-those [] i r at h = absurd (none-some r at)
  found-those (e ∷ es) i r at h = go (eq_by_cmp nat_cmp i e.0) refl at (λ u. found-those es i r u h)
    where
      here : e.0 ≡ i → e.1 ≡ r → (b : Bool) → t e ≡ b → Has (instances (cond b (e ∷ those t es) (those t es))) i
      here same value true passes = Has-head e.0 (instances (those t es)) i same
      here same value false fails = absurd (true≢false (sym h ∙ (λ d. t (sym same d, sym value d)) ∙ fails))

      there : (b : Bool) → Has (instances (those t es)) i → Has (instances (cond b (e ∷ those t es) (those t es))) i
      there true has = Has-tail e.0 (instances (those t es)) i has
      there false has = has

      go : (b : Bool) → eq_by_cmp nat_cmp i e.0 ≡ b → cond b (Some e.1) (find nat_cmp i es) ≡ Some r → (find nat_cmp i es ≡ Some r → Has (instances (those t es)) i)
          → Has (instances (those t (e ∷ es))) i
      go true tied at rest = here (sym (eqb-true i e.0 (sym (unsigned_tied i e.0) ∙ tied))) (same_Some e.1 r at) (t e) refl
      go false apart at rest = there (t e) (rest at)

pub sorted_true : (m : Map Record) → is_sorted nat_cmp (map.entries m) ≡ true
sorted_true m = true_of (is_sorted nat_cmp (map.entries m)) (map.entries_sorted m)

pub rising-holders : (l : List ℕ) (m : Map Record) → IsRising (holders l m)
rising-holders l m = rising_those (names_key l) (map.entries m) (sorted_true m)

-- Who holds a key.

pub holds-key : (k : List ℕ) (m : Map Record) (i : ℕ) → Has (holders k m) i → has_key k (keys_at m i) ≡ true
holds-key k m i has =
    let found = those-found (names_key k) (map.entries m) i (sorted_true m) has in
    let own : keys_at m i ≡ voted_keys found.0.vote = ap recorded_keys (map.get-entries m i ∙ found.1) in
    ap (has_key k) own ∙ found.2

pub key-holds : (k : List ℕ) (m : Map Record) (i : ℕ) → has_key k (keys_at m i) ≡ true → Has (holders k m) i
key-holds k m i h = go (get m i) refl h
  where
    go : (o : Option Record) → get m i ≡ o → has_key k (recorded_keys o) ≡ true → Has (holders k m) i
    go None e h = absurd (true≢false (sym h))
    go (Some r) e h = found-those (names_key k) (map.entries m) i r (sym (map.get-entries m i) ∙ e) h

-- of no records, none
pub holders-none : (k : List ℕ) → holders k none ≡ []
holders-none k = same_members (holders k none) [] (rising-holders k none) tt (λ i has. absurd (nobody i (holds-key k none i has))) (λ i has. absurd (Has-empty i has))
  where
    nobody : (i : ℕ) → has_key k (keys_at none i) ≡ true → ⊥
    nobody i h = true≢false (sym h ∙ ap (λ o. has_key k (recorded_keys o)) (map.get-empty nat_cmp i))

-- maps with the same keys have the same holders
pub holders-same : (k : List ℕ) (m n : Map Record) → ((i : ℕ) → keys_at m i ≡ keys_at n i) → holders k m ≡ holders k n
holders-same k m n same =
    same_members (holders k m) (holders k n) (rising-holders k m) (rising-holders k n)
    (λ i has. key-holds k n i (sym (ap (has_key k) (same i)) ∙ holds-key k m i has))
    (λ i has. key-holds k m i (ap (has_key k) (same i) ∙ holds-key k n i has))

-- Who holds one of some keys.

or_cases : (a b : Bool) → (a || b) ≡ true → (a ≡ true) ⊎ (b ≡ true)
or_cases true b e = inl refl
or_cases false b e = inr e

from_first : (a b : Bool) → a ≡ true → (a || b) ≡ true
from_first true b e = refl
from_first false b e = absurd (true≢false (sym e))

from_second : (a b : Bool) → b ≡ true → (a || b) ≡ true
from_second true b e = refl
from_second false b e = e

pub share_joined : (ks ls xs : List (List ℕ)) → share_key (ks ++ ls) xs ≡ (share_key ks xs || share_key ls xs)
share_joined [] ls xs = refl
share_joined (k ∷ ks) ls xs = ap (λ b. has_key k xs || b) (share_joined ks ls xs) ∙ go (has_key k xs)
  where
    go : (a : Bool) → (a || (share_key ks xs || share_key ls xs)) ≡ ((a || share_key ks xs) || share_key ls xs)
    go true = refl
    go false = refl

pub rising-holders_of : (ks : List (List ℕ)) (m : Map Record) → IsRising (holders_of ks m)
rising-holders_of ks m = rising_those (names_one ks) (map.entries m) (sorted_true m)

-- merged from the left or from the right
pub union-joined : (a b c : List ℕ) → IsRising a → IsRising b → IsRising c → union (union a b) c ≡ union a (union b c)
union-joined a b c ra rb rc =
    same_members (union (union a b) c) (union a (union b c)) (IsRising-union (union a b) c (IsRising-union a b ra rb) rc) (IsRising-union a (union b c) ra (IsRising-union b c rb rc))
    (λ i has. elim (union-cases (union a b) c i has) [
      | inl h ↦ (elim (union-cases a b i h) [
        | inl g ↦ Has-union a (union b c) i (inl g)
        | inr g ↦ Has-union a (union b c) i (inr (Has-union b c i (inl g)))
      ])
      | inr h ↦ Has-union a (union b c) i (inr (Has-union b c i (inr h)))
    ])
    (λ i has. elim (union-cases a (union b c) i has) [
      | inl h ↦ Has-union (union a b) c i (inl (Has-union a b i (inl h)))
      | inr h ↦ (elim (union-cases b c i h) [
        | inl g ↦ Has-union (union a b) c i (inl (Has-union a b i (inr g)))
        | inr g ↦ Has-union (union a b) c i (inr g)
      ])
    ])

-- no key has holders
pub holders-nothing : (m : Map Record) → holders_of [] m ≡ []
holders-nothing m = nobody (map.entries m)
  where
    nobody : (es : List (ℕ × Record)) → instances (those (names_one []) es) ≡ []
    nobody [] = refl
    nobody (e ∷ es) = nobody es

-- of one key
pub holders-one : (k : List ℕ) (m : Map Record) → holders k m ≡ holders_of (k ∷ []) m
holders-one k m = λ d. instances (those (λ (e : ℕ × Record). alone (has_key k (voted_keys e.1.vote)) d) (map.entries m))
  where
    alone : (b : Bool) → b ≡ (b || false)
    alone true = refl
    alone false = refl

-- of those, or of these
pub holders-joined : (ks ls : List (List ℕ)) (m : Map Record) → union (holders_of ks m) (holders_of ls m) ≡ holders_of (ks ++ ls) m
holders-joined ks ls m =
    same_members (union (holders_of ks m) (holders_of ls m)) (holders_of (ks ++ ls) m)
    (IsRising-union (holders_of ks m) (holders_of ls m) (rising-holders_of ks m) (rising-holders_of ls m)) (rising-holders_of (ks ++ ls) m)
    (λ i has. elim (union-cases (holders_of ks m) (holders_of ls m) i has) [
      | inl h ↦ (let f = those-found (names_one ks) (map.entries m) i (sorted_true m) h in
          found-those (names_one (ks ++ ls)) (map.entries m) i f.0 f.1 (share_joined ks ls (voted_keys f.0.vote) ∙ from_first (share_key ks (voted_keys f.0.vote)) (share_key ls (voted_keys f.0.vote)) f.2))
      | inr h ↦ (let f = those-found (names_one ls) (map.entries m) i (sorted_true m) h in
          found-those (names_one (ks ++ ls)) (map.entries m) i f.0 f.1 (share_joined ks ls (voted_keys f.0.vote) ∙ from_second (share_key ks (voted_keys f.0.vote)) (share_key ls (voted_keys f.0.vote)) f.2))
    ])
    (λ i has. let f = those-found (names_one (ks ++ ls)) (map.entries m) i (sorted_true m) has in
    Has-union (holders_of ks m) (holders_of ls m) i (elim (or_cases (share_key ks (voted_keys f.0.vote)) (share_key ls (voted_keys f.0.vote)) (sym (share_joined ks ls (voted_keys f.0.vote)) ∙ f.2)) [
      | inl h ↦ inl (found-those (names_one ks) (map.entries m) i f.0 f.1 h)
      | inr h ↦ inr (found-those (names_one ls) (map.entries m) i f.0 f.1 h)
    ]))

pub holders-two : (k l : List ℕ) (m : Map Record) → union (holders k m) (holders l m) ≡ holders_of (k ∷ l ∷ []) m
holders-two k l m = (λ d. union (holders-one k m d) (holders-one l m d)) ∙ holders-joined (k ∷ []) (l ∷ []) m

-- and of one key more
pub holders-more : (ks : List (List ℕ)) (k : List ℕ) (m : Map Record) → union (holders_of ks m) (holders k m) ≡ holders_of (ks ++ k ∷ []) m
holders-more ks k m = ap (union (holders_of ks m)) (holders-one k m) ∙ holders-joined ks (k ∷ []) m
