-- Where a key stands in an index.
use Rattle.std.proofs.Common.{◌≡◌, ℕ, zero, suc, Bool, true, false, cond, Some, None, List, [], ◌∷◌, refl, sym, ap, subst, ◌∙◌, true≢false}
use Rattle.std.specs.Prelude.{Vec, slice_get}
use Rattle.std.specs.Global.{Global}
use Rattle.std.specs.Cmp.Lexicographic.{nat_list_eq_equiv}
use Rattle.std.specs.List.{AllByRecursion, IsDistinct}
use Rattle.std.specs.Map.{keys_of, lookup, lookup_key, set_value, values_of}
use Rattle.std.proofs.lemmas.Map.Keys.{IsDistinct-head, IsDistinct-tail}
use Rattle.std.proofs.lemmas.Option.{none-some, same_Some}
use Rattle.indexmap.specs.IndexMap.{set_value_at}
use Rattle.ep_base.specs.Attributes.{same_list}
use Rattle.ep_space.specs.Index.{Entry, is_at, StandsAt}
use Rattle.ep_space.proofs.Entered.{same}

apart : (x : Vec ℕ Global) (es : List Entry) (n : ℕ) (e : Entry) → AllByRecursion (λ y. same x y ≡ false) (keys_of es) → slice_get es n ≡ Some e → same x e.0 ≡ false
apart x [] n e h at = absurd (none-some e at)
apart x (f ∷ es) zero e h at = subst (λ (z : Entry). same x z.0 ≡ false) (same_Some f e at) h.0
apart x (f ∷ es) (suc n) e h at = apart x es n e h.1 at

other : (k f e : List ℕ) → same_list k e ≡ true → same_list f e ≡ false → same_list k f ≡ false
other k f e is not = go (same_list k f) refl
  where
    go : (b : Bool) → same_list k f ≡ b → b ≡ false
    go false h = refl
    go true h = absurd (true≢false (sym is ∙ nat_list_eq_equiv.congr k f e h ∙ not))

-- what stands there is what is found
pub found-at : (es : List Entry) (n : ℕ) (k : List ℕ) (e : Entry) → IsDistinct same (keys_of es) → slice_get es n ≡ Some e → is_at k e.0 ≡ true → lookup (is_at k) es ≡ Some e.1
found-at [] n k e d at is = absurd (none-some e at)
found-at (f ∷ es) zero k e d at is =
    let front : is_at k f.0 ≡ true = subst (λ (z : Entry). is_at k z.0 ≡ true) (sym (same_Some f e at)) is in
    ap (λ b. cond b (Some f.1) (lookup (is_at k) es)) front ∙ ap (λ (z : Entry). Some z.1) (same_Some f e at)
found-at (f ∷ es) (suc n) k e d at is =
    let front : is_at k f.0 ≡ false = other k f.0.items e.0.items is (apart f.0 es n e (IsDistinct-head same f.0 (keys_of es) d) at) in
    ap (λ b. cond b (Some f.1) (lookup (is_at k) es)) front ∙ found-at es n k e (IsDistinct-tail same f.0 (keys_of es) d) at is

-- what is written there is written under the key
pub written-at : (es : List Entry) (n : ℕ) (k : List ℕ) (e : Entry) (w : Vec ℕ Global) → IsDistinct same (keys_of es) → slice_get es n ≡ Some e → is_at k e.0 ≡ true → set_value_at es n w ≡ set_value (is_at k) es w
written-at [] n k e w d at is = absurd (none-some e at)
written-at (f ∷ es) zero k e w d at is =
    let front : is_at k f.0 ≡ true = subst (λ (z : Entry). is_at k z.0 ≡ true) (sym (same_Some f e at)) is in
    sym (ap (λ b. cond b ((f.0, w) ∷ es) (f ∷ set_value (is_at k) es w)) front)
written-at (f ∷ es) (suc n) k e w d at is =
    let front : is_at k f.0 ≡ false = other k f.0.items e.0.items is (apart f.0 es n e (IsDistinct-head same f.0 (keys_of es) d) at) in
    ap (λ (xs : List Entry). f ∷ xs) (written-at es n k e w (IsDistinct-tail same f.0 (keys_of es) d) at is)
    ∙ sym (ap (λ b. cond b ((f.0, w) ∷ es) (f ∷ set_value (is_at k) es w)) front)

-- the key that is found is the one that is looked for
pub key-passes : (test : Vec ℕ Global → Bool) (es : List Entry) (l : Vec ℕ Global) → lookup_key test es ≡ Some l → test l ≡ true
key-passes test [] l h = absurd (none-some l h)
key-passes test (f ∷ es) l h = go (test f.0) refl h (key-passes test es l)
  where
    go : (b : Bool) → test f.0 ≡ b → cond b (Some f.0) (lookup_key test es) ≡ Some l → (lookup_key test es ≡ Some l → test l ≡ true) → test l ≡ true
    go true e t rest = subst (λ z. test z ≡ true) (same_Some f.0 l t) e
    go false e t rest = rest t

values-at : (es : List Entry) (n : ℕ) (e : Entry) → slice_get es n ≡ Some e → slice_get (values_of es) n ≡ Some e.1
values-at [] n e at = absurd (none-some e at)
values-at (f ∷ es) zero e at = ap (λ (z : Entry). Some z.1) (same_Some f e at)
values-at (f ∷ es) (suc n) e at = values-at es n e at

-- The same of where a key stands.

pub stands-found : (es : List Entry) (n : ℕ) (k : List ℕ) (v : Vec ℕ Global) → StandsAt es n k → IsDistinct same (keys_of es) → Some v ≡ slice_get (values_of es) n → lookup (is_at k) es ≡ Some v
stands-found es n k v s d is = found-at es n k s.entry d s.there s.is ∙ sym (is ∙ values-at es n s.entry s.there)

pub stands-written : (es : List Entry) (n : ℕ) (k : List ℕ) (w : Vec ℕ Global) → StandsAt es n k → IsDistinct same (keys_of es) → set_value_at es n w ≡ set_value (is_at k) es w
stands-written es n k w s d = written-at es n k s.entry w d s.there s.is

pub stands-here : (es : List Entry) (n : ℕ) (k : List ℕ) (e : Entry) → slice_get es n ≡ Some e → is_at k e.0 ≡ true → StandsAt es n k
stands-here es n k e at is = record { entry = e; there = at; is = is }

-- there is something where a key stands
pub stands-some : (es : List Entry) (n : ℕ) (k : List ℕ) → StandsAt es n k → None ≡ slice_get (values_of es) n → ⊥
stands-some es n k s none = none-some s.entry.1 (none ∙ values-at es n s.entry s.there)
