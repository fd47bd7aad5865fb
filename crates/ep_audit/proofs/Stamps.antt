-- The least stamp of the entries that execute an instance.
use Rattle.std.proofs.Common.{◌≡◌, ◌≤◌, ◌<◌, ℕ, zero, suc, Bool, true, false, cond, eqb, ltb, ◌⊎◌, inl, inr, Option, Some, None, List, [], ◌∷◌, refl, sym, ap, subst, ◌∙◌, arith}
use Rattle.std.proofs.lemmas.Bool.{false≢true, cases_lt, eqb-false, eqb-true, ltb-false, ltb-true}
use Rattle.std.specs.Option.{is_some}
use Rattle.ep_base.specs.Places.{Has}
use Rattle.ep_base.specs.Quorums.{size}
use Rattle.ep_base.specs.declared.reply.Answer.{Answer}
use Rattle.ep_rules.specs.Journals.{Entry, Journals, AreLocalRuns}
use Rattle.ep_rules.specs.OneMap.{Store}
use Rattle.ep_rules.specs.Steps.{order_of}
use Rattle.ep_rules.specs.Worlds.{In}
use Rattle.ep_rules.proofs.Places.{has_cons, has_tail, place_head}
use Rattle.ep_audit.specs.Closings.{IsExecuted, IsLeastStamp}
use Rattle.ep_audit.specs.Sealed.{is_among, lesser, least_in, least_below}

-- Whether an instance is among executions.

was_found : (i : ℕ) (ds : List (ℕ × Answer)) → is_among i ds true ≡ true
was_found i [] = refl
was_found i (d ∷ ds) = was_found i ds

pub among_has : (i : ℕ) (ds : List (ℕ × Answer)) → Has (order_of ds) i → is_among i ds false ≡ true
among_has i [] h = absurd (omega arith)
among_has i (d ∷ ds) h = go (eqb d.0 i) refl (has_cons d.0 i (order_of ds) h) (among_has i ds)
  where
    go : (b : Bool) → eqb d.0 i ≡ b → (d.0 ≡ i) ⊎ Has (order_of ds) i → (Has (order_of ds) i → is_among i ds false ≡ true) → is_among i ds b ≡ true
    go true e h rec = was_found i ds
    go false e (inl is) rec = absurd (eqb-false d.0 i e is)
    go false e (inr t) rec = rec t

pub has_among : (i : ℕ) (ds : List (ℕ × Answer)) → is_among i ds false ≡ true → Has (order_of ds) i
has_among i [] h = absurd (false≢true h)
has_among i (d ∷ ds) h = go (eqb d.0 i) refl h (has_among i ds)
  where
    go : (b : Bool) → eqb d.0 i ≡ b → is_among i ds b ≡ true → (is_among i ds false ≡ true → Has (order_of ds) i) → Has (d.0 ∷ order_of ds) i
    go true e k rec = subst (λ z. Has (d.0 ∷ order_of ds) z) (eqb-true d.0 i e) (let p = place_head d.0 (order_of ds) in omega arith)
    go false e k rec = has_tail d.0 i (order_of ds) (rec k)

-- The least one.

-- there is one, of at most t
pub record IsWithin (best : Option ℕ) (t : ℕ) : Type 0 where
  pub stamp : ℕ
  pub is : best ≡ Some stamp
  pub most : stamp ≤ t

within_lesser : (b s t : ℕ) → (b ≤ t) ⊎ (s ≤ t) → IsWithin (cond (ltb s b) (Some s) (Some b)) t
within_lesser b s t h = go (ltb s b) refl h
  where
    go : (c : Bool) → ltb s b ≡ c → (b ≤ t) ⊎ (s ≤ t) → IsWithin (cond c (Some s) (Some b)) t
    go true e (inl old) = let lt = ltb-true s b e in record { stamp = s; is = refl; most = omega arith }
    go true e (inr new) = record { stamp = s; is = refl; most = new }
    go false e (inl old) = record { stamp = b; is = refl; most = old }
    go false e (inr new) = let le = ltb-false s b e in record { stamp = b; is = refl; most = omega arith }

lesser_old : (best : Option ℕ) (t s : ℕ) → IsWithin best t → IsWithin (lesser best s) t
lesser_old None t s w = (let e = w.is in absurd (cc))
lesser_old (Some b) t s w =
    let same : b ≡ w.stamp = (let e = w.is in cc) in
    let most : b ≤ t = (let m = w.most in omega arith) in
    within_lesser b s t (inl most)

lesser_new : (best : Option ℕ) (s : ℕ) → IsWithin (lesser best s) s
lesser_new None s = record { stamp = s; is = refl; most = omega arith }
lesser_new (Some b) s = within_lesser b s s (inr (omega arith))

lesser_one : (best : Option ℕ) (s u : ℕ) → lesser best s ≡ Some u → (best ≡ Some u) ⊎ (s ≡ u)
lesser_one None s u e = inr (cc)
lesser_one (Some b) s u e = go (ltb s b) e
  where
    go : (c : Bool) → cond c (Some s) (Some b) ≡ Some u → (Some b ≡ Some u) ⊎ (s ≡ u)
    go true k = inr (cc)
    go false k = inl k

-- an entry of a list executes i, with this stamp
pub record IsDoneIn (i : ℕ) (es : List Entry) (stamp : ℕ) : Type 0 where
  pub entry : Entry
  pub stands : In entry es
  pub executes : Has (order_of entry.done) i
  pub is : entry.stamp ≡ stamp

module _ (i : ℕ) where
  still_within : (es : List Entry) (best : Option ℕ) (t : ℕ) → IsWithin best t → IsWithin (least_in i es best) t
  still_within [] best t w = w
  still_within (e ∷ es) best t w = still_within es (cond (is_among i e.done false) (lesser best e.stamp) best) t (go (is_among i e.done false))
    where
      go : (b : Bool) → IsWithin (cond b (lesser best e.stamp) best) t
      go true = lesser_old best t e.stamp w
      go false = w

  within : (es : List Entry) (best : Option ℕ) (e : Entry) → In e es → Has (order_of e.done) i → IsWithin (least_in i es best) e.stamp
  within [] best e k h = absurd k
  within (x ∷ es) best e (inl is) h =
      let found : is_among i x.done false ≡ true = among_has i x.done (subst (λ (z : Entry). Has (order_of z.done) i) (sym is) h) in
      let new : IsWithin (cond (is_among i x.done false) (lesser best x.stamp) best) e.stamp =
      subst (λ b. IsWithin (cond b (lesser best x.stamp) best) e.stamp) (sym found) (subst (λ (z : Entry). IsWithin (lesser best x.stamp) z.stamp) is (lesser_new best x.stamp)) in
      still_within es (cond (is_among i x.done false) (lesser best x.stamp) best) e.stamp new
  within (x ∷ es) best e (inr k) h = within es (cond (is_among i x.done false) (lesser best x.stamp) best) e k h

  found_in : (es : List Entry) (best : Option ℕ) (u : ℕ) → least_in i es best ≡ Some u → (best ≡ Some u) ⊎ IsDoneIn i es u
  found_in [] best u e = inl e
  found_in (x ∷ es) best u e = elim (found_in es (cond (is_among i x.done false) (lesser best x.stamp) best) u e) [
    | inl before ↦ go (is_among i x.done false) refl before
    | inr later ↦ inr (record { entry = later.entry; stands = inr later.stands; executes = later.executes; is = later.is })
  ]
    where
      go : (b : Bool) → is_among i x.done false ≡ b → cond b (lesser best x.stamp) best ≡ Some u → (best ≡ Some u) ⊎ IsDoneIn i (x ∷ es) u
      go true found k = elim (lesser_one best x.stamp u k) [
        | inl old ↦ inl old
        | inr is ↦ inr (record { entry = x; stands = inl refl; executes = has_among i x.done found; is = is })
      ]
      go false found k = inl k

-- The journals.

below_within : (n : ℕ) (journal : Journals) (i r : ℕ) (e : Entry) → r < n → In e (journal r) → Has (order_of e.done) i → IsWithin (least_below n journal i) e.stamp
below_within zero journal i r e lt k h = absurd (omega arith)
below_within (suc n) journal i r e lt k h = elim (cases_lt r n) [
  | inl less ↦ still_within i (journal n) (least_below n journal i) e.stamp (below_within n journal i r e less k h)
  | inr ge ↦ (let is : r ≡ n = omega arith in within i (journal n) (least_below n journal i) e (subst (λ q. In e (journal q)) is k) h)
]

below_found : (n : ℕ) (journal : Journals) (i u : ℕ) → least_below n journal i ≡ Some u → (r : ℕ) × IsDoneIn i (journal r) u
below_found zero journal i u e = absurd (cc)
below_found (suc n) journal i u e = elim (found_in i (journal n) (least_below n journal i) u e) [
  | inl before ↦ below_found n journal i u before
  | inr here ↦ (n, here)
]

-- what is executed is executed by a replica of the cluster
within_all : (base : Store) (f : ℕ) (journal : Journals) (i r : ℕ) (e : Entry) → AreLocalRuns base f journal → In e (journal r) → Has (order_of e.done) i → IsWithin (least_below (size f) journal i) e.stamp
within_all base f journal i r e runs k h = elim (cases_lt r (size f)) [
  | inl lt ↦ below_within (size f) journal i r e lt k h
  | inr ge ↦ absurd (subst (In e) (runs.others r ge) k)
]

pub some_stamp : (base : Store) (f : ℕ) (journal : Journals) (i : ℕ) (o : Option ℕ) → AreLocalRuns base f journal → IsExecuted journal i → o ≡ least_below (size f) journal i → is_some o ≡ true
some_stamp base f journal i o runs x is =
    let w = within_all base f journal i x.replica x.entry runs x.stands x.executes in
    ap is_some (is ∙ w.is)

pub least_is : (base : Store) (f : ℕ) (journal : Journals) (i t : ℕ) → AreLocalRuns base f journal → least_below (size f) journal i ≡ Some t → IsLeastStamp journal i t
least_is base f journal i t runs is =
    let d = below_found (size f) journal i t is in
    record {
      executed = record { replica = d.0; entry = d.1.entry; stands = d.1.stands; executes = d.1.executes };
      is = d.1.is;
      least = λ r e k h.
          let w = within_all base f journal i r e runs k h in
          let same : t ≡ w.stamp = (let q = w.is in cc) in
          let m = w.most in
          omega arith;
    }
