-- The keys of an opening, as a set.
use Rattle.std.proofs.Common.{◌≡◌, ℕ, Bool, true, false, cond, Vec, List, [], ◌∷◌, ◌++◌, Result, Ok, Err, is_err, OnOk, refl, sym, ap, ◌∙◌, subst, arith}
use Rattle.std.specs.Prelude.{◌||◌, ◌&&◌, nat_eq}
use Rattle.std.specs.Global.{Global}
use Rattle.std.specs.Ordering.{is_eq, nat_cmp, ordering_then}
use Rattle.std.specs.declared.cmp.Ordering.{Ordering}
use Rattle.std.specs.Cmp.{IsEquivalence}
use Rattle.std.specs.Cmp.Lexicographic.{slice_cmp, on_texts_equal}
use Rattle.std.specs.List.{list_any, IsDistinct}
use Rattle.std.specs.BTreeMap.{is_at}
use Rattle.std.specs.BTreeSet.{BTreeSet, contains, Updates}
use Rattle.std.proofs.lemmas.Bool.Decides.{nat_tests}
use Rattle.std.proofs.lemmas.List.Folds.{list_any-append}
use Rattle.std.proofs.lemmas.Map.Keys.{IsDistinct-push}
use Rattle.ep_base.specs.Attributes.{same_list}
use Rattle.ep_script.specs.Heads.{same_key, has_key_of, AreOnce, IsOpening}
use Rattle.ep_script.specs.Keys.{name_cmp, HasKeys}

-- two keys are one where they compare equal
pub same_by_cmp : (k l : List ℕ) → is_eq (slice_cmp nat_cmp l k) ≡ same_list k l
same_by_cmp [] [] = refl
same_by_cmp [] (y ∷ ys) = refl
same_by_cmp (x ∷ xs) [] = refl
same_by_cmp (x ∷ xs) (y ∷ ys) = both x y (slice_cmp nat_cmp ys xs) (same_list xs ys) (same_by_cmp xs ys)
  where
    both : (x y : ℕ) (o : Ordering) (b : Bool) → is_eq o ≡ b → is_eq (ordering_then (nat_cmp y x) o) ≡ (nat_eq x y && b)
    both x y o b e = grind (arith, nat_tests)

pub or_either : (b x : Bool) → cond b true x ≡ (x || (b || false))
or_either true true = refl
or_either true false = refl
or_either false true = refl
or_either false false = refl

key_more : (before after : BTreeSet (Vec ℕ Global)) (entries : List (List ℕ × List ℕ)) (name : Vec ℕ Global) (value : List ℕ)
    → ((q : Vec ℕ Global) → contains name_cmp after q ≡ cond (is_eq (name_cmp name q)) true (contains name_cmp before q)) → HasKeys before entries → HasKeys after (entries ++ (name.items, value) ∷ [])
key_more before after entries name value added h = λ q v.
    added q
    ∙ ap (λ (b : Bool). cond b true (contains name_cmp before q)) (same_by_cmp q.items name.items)
    ∙ ap (cond (same_list q.items name.items) true) (h q v)
    ∙ or_either (same_list q.items name.items) (has_key_of (q.items, v) entries)
    ∙ sym (list_any-append (same_key (q.items, v)) entries ((name.items, value) ∷ []))

pub if_ok : {A E : Type 0} (P : Type 0) (r : Result A E) → is_err r ≡ false → OnOk r P → P
if_ok P (Ok x) fine h = h
if_ok P (Err e) fine h = absurd (cc)

-- an entry more, and its key, where there was memory for it
pub key_taken : {E : Type 0} (before after : BTreeSet (Vec ℕ Global)) (entries taken : List (List ℕ × List ℕ)) (key value : List ℕ) (name : Vec ℕ Global) (r : Result Bool E)
    → is_err r ≡ false → OnOk r (Updates name_cmp before after name true) → name.items ≡ key → taken ≡ entries ++ (key, value) ∷ [] → HasKeys before entries → HasKeys after taken
key_taken before after entries taken key value name r fine updates is more h =
    let adds : Updates name_cmp before after name true = if_ok (Updates name_cmp before after name true) r fine updates in
    subst (HasKeys after) (sym (more ∙ ap (λ (k : List ℕ). entries ++ (k, value) ∷ []) (sym is))) (key_more before after entries name value adds.0 h)

keys_equal : IsEquivalence same_key
keys_equal = on_texts_equal (λ (e : List ℕ × List ℕ). e.0)

pub none_once : AreOnce []
unfolding IsDistinct
none_once = tt

pub once_if_none : (entries : List (List ℕ × List ℕ)) → entries ≡ [] → AreOnce entries
once_if_none entries none = subst AreOnce (sym none) none_once

none_has : (keys : BTreeSet (Vec ℕ Global)) (name : Vec ℕ Global) → keys.keys ≡ [] → contains name_cmp keys name ≡ false
none_has keys name e = ap (λ (ks : List (Vec ℕ Global)). list_any (is_at (name_cmp name)) ks) e

pub none_kept : (keys : BTreeSet (Vec ℕ Global)) (entries : List (List ℕ × List ℕ)) → keys.keys ≡ [] → entries ≡ [] → HasKeys keys entries × AreOnce entries
none_kept keys entries e f = (
  λ name value. subst (λ (es : List (List ℕ × List ℕ)). contains name_cmp keys name ≡ has_key_of (name.items, value) es) (sym f) (none_has keys name e),
  once_if_none entries f,
)

pub opens_with_none : (entries : List (List ℕ × List ℕ)) → entries ≡ [] → IsOpening (record { entries = entries; base_stamp = 0 })
opens_with_none entries none = record { once = once_if_none entries none; base_stamp = omega arith }

-- an entry more, of a key that has none
pub once_more : (entries taken : List (List ℕ × List ℕ)) (e : List ℕ × List ℕ) → taken ≡ entries ++ e ∷ [] → has_key_of e entries ≡ false → AreOnce entries → AreOnce taken
once_more entries taken e more new once = subst AreOnce (sym more) (IsDistinct-push keys_equal entries e once new)

-- an entry more, of a key that no entry had
pub entry_taken : {E : Type 0} (before after : BTreeSet (Vec ℕ Global)) (entries taken : List (List ℕ × List ℕ)) (key value : List ℕ) (name : Vec ℕ Global) (r : Result Bool E)
    → is_err r ≡ false → OnOk r (Updates name_cmp before after name true) → name.items ≡ key → contains name_cmp before name ≡ false → taken ≡ entries ++ (key, value) ∷ [] → HasKeys before entries × AreOnce entries → HasKeys after taken × AreOnce taken
entry_taken before after entries taken key value name r fine updates is absent more h =
    let new : has_key_of (key, value) entries ≡ false = subst (λ (k : List ℕ). has_key_of (k, value) entries ≡ false) is (sym (h.0 name value) ∙ absent) in (
      key_taken before after entries taken key value name r fine updates is more h.0,
      once_more entries taken (key, value) more new h.1,
    )
