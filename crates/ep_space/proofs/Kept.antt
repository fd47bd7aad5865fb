-- What a write keeps of the index.
use Rattle.std.proofs.Common.{◌≡◌, ◌≢◌, ℕ, Bool, true, false, cond, not, ◌&&◌, List, [], Option, Some, None, refl, sym, ap, subst, ◌∙◌, true≢false, inl, inr, Result, Ok, Err, OnOk, OnErr}
use Rattle.std.specs.Cmp.{nat_cmp_total, unsigned_tied}
use Rattle.std.specs.FinMap as map
use Rattle.std.specs.FinSet as set
use Rattle.std.specs.Ordering.{nat_cmp, eq_by_cmp}
use Rattle.std.specs.declared.alloc.AllocError.{AllocError}
use Rattle.std.proofs.lemmas.Bool.{ne_eqb, cases_eq}
use Rattle.ep_base.specs.Deps.{IsRising}
use Rattle.ep_base.specs.Interference.{has_key}
use Rattle.ep_base.specs.Places.{Has}
use Rattle.ep_base.proofs.Members.{same_members}
use Rattle.ep_rules.specs.Cells.{record_or_fresh}
use Rattle.ep_rules.specs.Maps.{Map, none, get}
use Rattle.ep_rules.specs.States.{with_held}
use Rattle.ep_rules.specs.declared.record.Record.{Record}
use Rattle.ep_rules.proofs.Lookups.{self_equal}
use Rattle.ep_space.specs.Held.{Held, Places}
use Rattle.ep_space.specs.Index.{run, with_instance, without, brings, IsKept, StandsUnder}
use Rattle.ep_space.specs.declared.index.Index.{Index}
use Rattle.ep_space.specs.Keys.{voted_keys, recorded_keys, keys_at, holders}
use Rattle.ep_space.proofs.Holders.{rising-holders, holds-key, key-holds, holders-same, holders-none}
use Rattle.ep_space.proofs.Rising.{with-cases, with-Has, rising-with, Has-without, without-Has, without-gone, rising-without}

pub tied_apart : (q i : ℕ) → q ≢ i → eq_by_cmp nat_cmp q i ≡ false
tied_apart q i apart = unsigned_tied q i ∙ ne_eqb q i apart

-- What is there after a write.

pub get-other : (m : Map Record) (i : ℕ) (o : Option Record) (q : ℕ) → q ≢ i → get (with_held m i o) q ≡ get m q
get-other m i None q apart = map.get-remove nat_cmp_total m i q ∙ ap (λ b. cond b None (get m q)) (tied_apart q i apart)
get-other m i (Some r) q apart = map.get-insert nat_cmp_total m i r q ∙ ap (λ b. cond b (Some r) (get m q)) (tied_apart q i apart)

pub get-own : (m : Map Record) (i : ℕ) (o : Option Record) → get (with_held m i o) i ≡ o
get-own m i None = map.get-remove nat_cmp_total m i i ∙ ap (λ b. cond b None (get m i)) (self_equal i)
get-own m i (Some r) = map.get-insert nat_cmp_total m i r i ∙ ap (λ b. cond b (Some r) (get m i)) (self_equal i)

-- a promise leaves the key
pub keys_promised : (i : ℕ) (o : Option Record) → voted_keys (record_or_fresh i o).vote ≡ recorded_keys o
keys_promised i None = refl
keys_promised i (Some r) = refl

module _ (m : Map Record) (i : ℕ) (o : Option Record) where
  abbrev after : Map Record
  after = with_held m i o

  key-other : (q : ℕ) → q ≢ i → keys_at after q ≡ keys_at m q
  key-other q apart = ap recorded_keys (get-other m i o q apart)

  key-own : keys_at after i ≡ recorded_keys o
  key-own = ap recorded_keys (get-own m i o)

  -- with a record of the same key, or with none where there was no key

  pub key_kept : recorded_keys o ≡ keys_at m i → (q : ℕ) → keys_at after q ≡ keys_at m q
  key_kept e q =
      elim (cases_eq q i) [
        | inl same ↦ subst (λ p. keys_at after p ≡ keys_at m p) (sym same) (key-own ∙ e)
        | inr apart ↦ key-other q apart
      ]

  pub kept-written : (places : Places) (es : Index) → recorded_keys o ≡ keys_at m i → IsKept (record { held = m; places = places }) es → IsKept (record { held = after; places = places }) es
  kept-written places es e r = record {
    runs = λ k. r.runs k ∙ sym (holders-same k after m (key_kept e));
  }

  -- with another key

  stays : (k : List ℕ) (q : ℕ) → q ≢ i → Has (holders k after) q → Has (holders k m) q
  stays k q apart has = key-holds k m q (sym (ap (has_key k) (key-other q apart)) ∙ holds-key k after q has)

  stood : (k : List ℕ) (q : ℕ) → q ≢ i → Has (holders k m) q → Has (holders k after) q
  stood k q apart has = key-holds k after q (ap (has_key k) (key-other q apart) ∙ holds-key k m q has)

  -- i has the key, or it doesn't
  has_new : (k : List ℕ) (q : ℕ) → q ≡ i → Has (holders k after) q → has_key k (recorded_keys o) ≡ true
  has_new k q same has = sym (ap (has_key k) key-own) ∙ holds-key k after i (subst (Has (holders k after)) same has)

  had_own : (k : List ℕ) (q : ℕ) → q ≡ i → Has (holders k m) q → has_key k (keys_at m i) ≡ true
  had_own k q same has = holds-key k m i (subst (Has (holders k m)) same has)

  module _ (k : List ℕ) (new : has_key k (recorded_keys o) ≡ false) where
    lost : has_key k (keys_at m i) ≡ true → holders k after ≡ without i (holders k m)
    lost own =
        same_members (holders k after) (without i (holders k m)) (rising-holders k after) (rising-without i (holders k m) (rising-holders k m))
        (λ q has. elim (cases_eq q i) [
          | inl same ↦ absurd (true≢false (sym (has_new k q same has) ∙ new))
          | inr apart ↦ without-Has i (holders k m) q (stays k q apart has) apart
        ])
        (λ q has. stood k q (λ same. without-gone i (holders k m) (rising-holders k m) (subst (Has (without i (holders k m))) same has)) (Has-without i (holders k m) q has))

    neither : has_key k (keys_at m i) ≡ false → holders k after ≡ holders k m
    neither own =
        same_members (holders k after) (holders k m) (rising-holders k after) (rising-holders k m)
        (λ q has. elim (cases_eq q i) [
          | inl same ↦ absurd (true≢false (sym (has_new k q same has) ∙ new))
          | inr apart ↦ stays k q apart has
        ])
        (λ q has. elim (cases_eq q i) [
          | inl same ↦ absurd (true≢false (sym (had_own k q same has) ∙ own))
          | inr apart ↦ stood k q apart has
        ])

  not_held : (k : List ℕ) → has_key k (keys_at m i) ≡ false → ¬ (Has (holders k m) i)
  not_held k own has = true≢false (sym (had_own k i refl has) ∙ own)

  gained : (k : List ℕ) → has_key k (recorded_keys o) ≡ true → has_key k (keys_at m i) ≡ false → holders k after ≡ with_instance i (holders k m)
  gained k new own =
      same_members (holders k after) (with_instance i (holders k m)) (rising-holders k after) (rising-with i (holders k m) (rising-holders k m) (not_held k own))
      (λ q has. elim (cases_eq q i) [
        | inl same ↦ with-Has i (holders k m) q (inl (sym same))
        | inr apart ↦ with-Has i (holders k m) q (inr (stays k q apart has))
      ])
      (λ q has. elim (with-cases i (holders k m) q has) [
        | inl same ↦ subst (Has (holders k after)) same (key-holds k after i (ap (has_key k) key-own ∙ new))
        | inr t ↦ stood k q (λ same. not_held k own (subst (Has (holders k m)) same t)) t
      ])

  -- i has it before and after
  both : (k : List ℕ) → has_key k (recorded_keys o) ≡ true → has_key k (keys_at m i) ≡ true → holders k after ≡ holders k m
  both k new own =
      same_members (holders k after) (holders k m) (rising-holders k after) (rising-holders k m)
      (λ q has. elim (cases_eq q i) [
        | inl same ↦ subst (Has (holders k m)) (sym same) (key-holds k m i own)
        | inr apart ↦ stays k q apart has
      ])
      (λ q has. elim (cases_eq q i) [
        | inl same ↦ subst (Has (holders k after)) (sym same) (key-holds k after i (ap (has_key k) key-own ∙ new))
        | inr apart ↦ stood k q apart has
      ])

  module _ (places : Places) (es : Index) (r : IsKept (record { held = m; places = places }) es) where
    -- with i in the runs of the keys that it gets
    abbrev pub Entered : Index → Type 0
    Entered fs = (k : List ℕ) → run fs k ≡ cond (brings (keys_at m i) (recorded_keys o) k) (with_instance i (run es k)) (run es k)

    -- where those before are found so
    pub entered_by : (own : List (List ℕ)) → own ≡ keys_at m i → (fs : Index) → ((k : List ℕ) → run fs k ≡ cond (brings own (recorded_keys o) k) (with_instance i (run es k)) (run es k)) → Entered fs
    entered_by own is fs e k = e k ∙ ap (λ ks. cond (brings ks (recorded_keys o) k) (with_instance i (run es k)) (run es k)) is

    entered : (fs : Index) → Entered fs → (k : List ℕ) → run fs k ≡ cond (brings (keys_at m i) (recorded_keys o) k) (with_instance i (holders k m)) (holders k m)
    entered fs e k = e k ∙ (λ d. cond (brings (keys_at m i) (recorded_keys o) k) (with_instance i (r.runs k d)) (r.runs k d))

    pub rising-entered : (fs : Index) → Entered fs → (k : List ℕ) → IsRising (run fs k)
    rising-entered fs e k = subst IsRising (sym (entered fs e k)) (go (has_key k (recorded_keys o)) (has_key k (keys_at m i)) refl)
      where
        go : (b a : Bool) → has_key k (keys_at m i) ≡ a → IsRising (cond (b && not a) (with_instance i (holders k m)) (holders k m))
        go true true own = rising-holders k m
        go true false own = rising-with i (holders k m) (rising-holders k m) (not_held k own)
        go false a own = rising-holders k m

    -- i is still in those of its old ones
    pub Has-entered : (fs : Index) → Entered fs → (k : List ℕ) → has_key k (keys_at m i) ≡ true → Has (run fs k) i
    Has-entered fs e k own = subst (λ xs. Has xs i) (sym (entered fs e k)) (go (brings (keys_at m i) (recorded_keys o) k))
      where
        go : (b : Bool) → Has (cond b (with_instance i (holders k m)) (holders k m)) i
        go true = with-Has i (holders k m) i (inl refl)
        go false = key-holds k m i own

    pub kept-changed : (fs gs : Index) → Entered fs → ((k : List ℕ) → run gs k ≡ cond (brings (recorded_keys o) (keys_at m i) k) (without i (run fs k)) (run fs k))
        → IsKept (record { held = after; places = places }) gs
    kept-changed fs gs e left = record {
      runs = λ k. left k ∙ (λ d. cond (brings (recorded_keys o) (keys_at m i) k) (without i (entered fs e k d)) (entered fs e k d)) ∙ sym (changed k (has_key k (keys_at m i)) refl (has_key k (recorded_keys o)) refl);
    }
      where
        changed : (k : List ℕ) (a : Bool) → has_key k (keys_at m i) ≡ a → (b : Bool) → has_key k (recorded_keys o) ≡ b
            → holders k after ≡ cond (a && not b) (without i (cond (b && not a) (with_instance i (holders k m)) (holders k m))) (cond (b && not a) (with_instance i (holders k m)) (holders k m))
        changed k true own true new = both k new own
        changed k true own false new = lost k new own
        changed k false own true new = gained k new own
        changed k false own false new = neither k new own

-- other room
pub kept-same : (t : Held Record) (x y : Index) → IsKept t x → ((k : List ℕ) → run y k ≡ run x k) → IsKept t y
kept-same t x y kept same = record {
  runs = λ k. same k ∙ kept.runs k;
}

-- an instance without a key isn't in its run
pub not_in_run : (t : Held Record) (es : Index) → IsKept t es → (k : List ℕ) (i : ℕ) → has_key k (keys_at t.held i) ≡ false → ¬ (Has (run es k) i)
not_in_run t es r k i none has = true≢false (sym (holds-key k t.held i (subst (λ xs. Has xs i) (r.runs k) has)) ∙ none)

pub rising-runs : (t : Held Record) (es : Index) → IsKept t es → (k : List ℕ) → IsRising (run es k)
rising-runs t es r k = subst IsRising (sym (r.runs k)) (rising-holders k t.held)

pub stands-kept : (t : Held Record) (x : Index) (i : ℕ) → IsKept t x → StandsUnder i (keys_at t.held i) x
stands-kept t x i r = record {
  rising = rising-runs t x r;
  alone = λ k none. not_in_run t x r k i none;
}

-- Places.

pub kept-new : (x : Index) → ((k : List ℕ) → run x k ≡ []) → IsKept (record { held = none; places = set.empty }) x
kept-new x empty = record {
  runs = λ k. empty k ∙ sym (holders-none k);
}

-- with a place more
kept-reserved : (t : Held Record) (es : Index) (i : ℕ) → IsKept t es → IsKept (record { held = t.held; places = set.insert t.places i }) es
kept-reserved t es i k = record {
  runs = k.runs;
}

pub kept-at : (r : Result (Unit {0}) AllocError) (old new : Held Record) (es : Index) (i : ℕ) → IsKept old es
    → OnOk r (new ≡ record { held = old.held; places = set.insert old.places i }) → OnErr r (new ≡ old) → IsKept new es
kept-at (Ok x) old new es i k ok err = subst (λ t. IsKept t es) (sym ok) (kept-reserved old es i k)
kept-at (Err e) old new es i k ok err = subst (λ t. IsKept t es) (sym err) k
