-- A place that is emptied first and then written.
use Rattle.std.proofs.Common.{◌≡◌, ℕ, Bool, true, false, cond, Option, Some, None, sym, ap, ◌∙◌, refl}
use Rattle.std.specs.Cmp.{nat_cmp_total, unsigned_tied}
use Rattle.std.proofs.lemmas.Bool.{eqb-true}
use Rattle.std.specs.FinMap as map
use Rattle.std.specs.FinMap.{nat_cmp-IsAntisymmetric}
use Rattle.std.specs.Ordering.{nat_cmp, eq_by_cmp}
use Rattle.ep_rules.specs.Maps.{Map, get, insert, remove}
use Rattle.ep_rules.specs.States.{with_held}

either : {X : Type 0} (b : Bool) (v o : Option X) → cond b v (cond b None o) ≡ cond b v o
either true v o = refl
either false v o = refl

pub insert_after_remove : {X : Type 0} (m : Map X) (i : ℕ) (x : X) → insert (remove m i) i x ≡ insert m i x
insert_after_remove m i x =
    map.same_map nat_cmp_total nat_cmp-IsAntisymmetric _ _
    (λ q.
    map.get-insert nat_cmp_total (remove m i) i x q
    ∙ ap (cond (eq_by_cmp nat_cmp q i) (Some x)) (map.get-remove nat_cmp_total m i q)
    ∙ either (eq_by_cmp nat_cmp q i) (Some x) (map.get m q)
    ∙ sym (map.get-insert nat_cmp_total m i x q))

twice : {X : Type 0} (b : Bool) (o : Option X) → cond b None (cond b None o) ≡ cond b None o
twice true o = refl
twice false o = refl

-- what is written after it was emptied is as written at once
pub with_held-after_remove : {X : Type 0} (m : Map X) (i : ℕ) (o : Option X) → with_held (remove m i) i o ≡ with_held m i o
with_held-after_remove m i None =
    map.same_map nat_cmp_total nat_cmp-IsAntisymmetric _ _
    (λ q.
    map.get-remove nat_cmp_total (remove m i) i q
    ∙ ap (cond (eq_by_cmp nat_cmp q i) None) (map.get-remove nat_cmp_total m i q)
    ∙ twice (eq_by_cmp nat_cmp q i) (map.get m q)
    ∙ sym (map.get-remove nat_cmp_total m i q))
with_held-after_remove m i (Some x) = insert_after_remove m i x

empty_either : {X : Type 0} (b : Bool) (o : Option X) → (b ≡ true → o ≡ None) → cond b None o ≡ o
empty_either true o h = sym (h refl)
empty_either false o h = refl

-- where there is nothing, nothing is taken
pub remove_none : {X : Type 0} (m : Map X) (i : ℕ) → get m i ≡ None → remove m i ≡ m
remove_none m i none =
    map.same_map nat_cmp_total nat_cmp-IsAntisymmetric _ _
    (λ q.
    map.get-remove nat_cmp_total m i q
    ∙ empty_either (eq_by_cmp nat_cmp q i) (map.get m q) (λ tied. ap (map.get m) (eqb-true q i (sym (unsigned_tied q i) ∙ tied)) ∙ none))
