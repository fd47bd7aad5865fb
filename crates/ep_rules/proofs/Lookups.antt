-- What an answer more, an insert and a removal do to look-ups.
use Rattle.std.proofs.Common.{◌≡◌, ℕ, Bool, true, false, cond, eqb, ◌⊎◌, inl, inr, Option, Some, None, Ordering, Less, Equal, Greater, refl, sym, ◌∙◌}
use Rattle.std.specs.Ordering.{nat_cmp, is_eq, eq_by_cmp}
use Rattle.std.specs.Cmp.{nat_cmp_total, unsigned_tied}
use Rattle.std.proofs.lemmas.Bool.{eq-eqb, eqb-true}
use Rattle.std.specs.FinMap.{get-insert, get-remove, get-empty, nat_cmp-IsAntisymmetric}
use Rattle.ep_rules.specs.Answers.{Answers, answer, with_answer}
use Rattle.ep_rules.specs.Maps.{Map, none, get, insert, remove}

-- Answers.

answer_at : {X : Type 0} (k q : ℕ) (v w : X) (o : Option X) (b : Bool) → eqb k q ≡ b → cond b (Some v) o ≡ Some w → (o ≡ Some w) ⊎ ((q ≡ k) × (v ≡ w))
answer_at k q v w o true i e = inr (sym (eqb-true k q i), (cc))
answer_at k q v w o false i e = inl e

-- an answer is one of before, or the new one
pub answer_back : {X : Type 0} (answers : Answers X) (k : ℕ) (v : X) (q : ℕ) (w : X) → answer (with_answer answers k v) q ≡ Some w → (answer answers q ≡ Some w) ⊎ ((q ≡ k) × (v ≡ w))
answer_back answers k v q w e = answer_at k q v w (answer answers q) (eqb k q) refl e

-- Maps.

equal_by : (o : Ordering) → is_eq o ≡ true → o ≡ Equal
equal_by Less e = absurd (cc)
equal_by Equal e = refl
equal_by Greater e = absurd (cc)

pub self_equal : (k : ℕ) → eq_by_cmp nat_cmp k k ≡ true
self_equal k = unsigned_tied k k ∙ eq-eqb k k refl

at_same : {X : Type 0} (v : Option X) (o : Option X) (b : Bool) → b ≡ true → cond b v o ≡ v
at_same v o true e = refl
at_same v o false e = absurd (cc)

at_other : {X : Type 0} (v : Option X) (o : Option X) (b : Bool) → (b ≡ true → ⊥) → cond b v o ≡ o
at_other v o true n = absurd (n refl)
at_other v o false n = refl

apart : (q k : ℕ) → (q ≡ k → ⊥) → eq_by_cmp nat_cmp q k ≡ true → ⊥
apart q k ne t = ne (nat_cmp-IsAntisymmetric q k (equal_by _ t))

pub insert_same : {X : Type 0} (m : Map X) (k : ℕ) (v : X) → get (insert m k v) k ≡ Some v
insert_same m k v = get-insert nat_cmp_total m k v k ∙ at_same (Some v) (get m k) _ (self_equal k)

pub insert_other : {X : Type 0} (m : Map X) (k : ℕ) (v : X) (q : ℕ) → (q ≡ k → ⊥) → get (insert m k v) q ≡ get m q
insert_other m k v q ne = get-insert nat_cmp_total m k v q ∙ at_other (Some v) (get m q) _ (apart q k ne)

pub remove_same : {X : Type 0} (m : Map X) (k : ℕ) → get (remove m k) k ≡ None
remove_same m k = get-remove nat_cmp_total m k k ∙ at_same None (get m k) _ (self_equal k)

pub remove_other : {X : Type 0} (m : Map X) (k q : ℕ) → (q ≡ k → ⊥) → get (remove m k) q ≡ get m q
remove_other m k q ne = get-remove nat_cmp_total m k q ∙ at_other None (get m q) _ (apart q k ne)

pub none_there : {X : Type 0} (q : ℕ) → get (none {X = X}) q ≡ None
none_there q = get-empty nat_cmp q
