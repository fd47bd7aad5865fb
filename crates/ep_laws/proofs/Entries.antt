-- All entries of a map of records, after one is written.
use Rattle.std.proofs.Common.{◌≡◌, ℕ, ◌+◌, ◌<◌, ◌≤◌, max, Bool, true, false, cond, not, eqb, Option, Some, None, Ordering, Less, Equal, Greater, List, [], ◌∷◌, refl, sym, ap, subst, ◌∙◌, arith}
use Rattle.std.proofs.lemmas.Bool.{and_from, and_left, not_from_true, eqb-true, eq-eqb, lt-ltb}
use Rattle.std.specs.Cmp.{nat_cmp_total, unsigned_tied}
use Rattle.std.specs.FinMap.{find, put, get-entries, entries-insert, nat_cmp-IsAntisymmetric}
use Rattle.std.specs.Ordering.{nat_cmp, eq_by_cmp}
use Rattle.std.specs.FinMap.Entries.{by_order}
use Rattle.ep_base.specs.Commands.{Command}
use Rattle.ep_base.specs.Instances.{leader_of}
use Rattle.ep_rules.specs.InterferenceSet.{votes_against, touches, those, greatest_seq, instances, seq_of, interference}
use Rattle.ep_rules.specs.Maps.{Map, get, insert, entries}
use Rattle.ep_rules.specs.States.{with_entry}
use Rattle.ep_rules.specs.Steps.{are_within}
use Rattle.ep_rules.specs.declared.record.Record.{Record}

abbrev pub AllEntries : {X : Type 0} → (ℕ → X → Type 0) → List (ℕ × X) → Type 0
AllEntries P [] = Unit {0}
AllEntries P (e ∷ es) = P e.0 e.1 × AllEntries P es

-- An entry is put in its place: before the first one, in its stead, or behind it.
module _ {X : Type 0} (Q : List (ℕ × X) → Type 0) (k : ℕ) (v : X) (e : ℕ × X) (es : List (ℕ × X)) where
  put_by : (o : Ordering) → nat_cmp k e.0 ≡ o → (o ≡ Less → Q ((k, v) ∷ e ∷ es)) → (o ≡ Equal → k ≡ e.0 → Q ((e.0, v) ∷ es)) → (o ≡ Greater → Q (e ∷ put nat_cmp k v es)) →
      Q (by_order o ((k, v) ∷ e ∷ es) ((e.0, v) ∷ es) (e ∷ put nat_cmp k v es))
  put_by Less at a b c = a refl
  put_by Equal at a b c = b refl (nat_cmp-IsAntisymmetric k e.0 at)
  put_by Greater at a b c = c refl

pub all_put : {X : Type 0} (P : ℕ → X → Type 0) (k : ℕ) (v : X) (es : List (ℕ × X)) → P k v → AllEntries P es → AllEntries P (put nat_cmp k v es)
all_put P k v [] p a = (p, tt)
all_put P k v (e ∷ es) p a =
    put_by (AllEntries P) k v e es (nat_cmp k e.0) refl (λ at. (p, a)) (λ at is. (subst (λ j. P j v) is p, a.1)) (λ at. (a.0, all_put P k v es p a.1))

pub all_find : {X : Type 0} (P : ℕ → X → Type 0) (q : ℕ) (x : X) (es : List (ℕ × X)) → AllEntries P es → find nat_cmp q es ≡ Some x → P q x
all_find P q x [] a e = absurd (cc)
all_find {X} P q x (c ∷ es) a e = go (eq_by_cmp nat_cmp q c.0) refl e (all_find P q x es a.1)
  where
    go : (b : Bool) → eq_by_cmp nat_cmp q c.0 ≡ b → cond b (Some c.1) (find nat_cmp q es) ≡ Some x → (find nat_cmp q es ≡ Some x → P q x) → P q x
    go true at is rec =
        let key : q ≡ c.0 = eqb-true q c.0 (sym (unsigned_tied q c.0) ∙ at) in
        let same : c.1 ≡ x = cc in
        subst (λ y. P q y) same (subst (λ j. P j c.1) (sym key) a.0)
    go false at is rec = rec is

pub all_get : {X : Type 0} (P : ℕ → X → Type 0) (m : Map X) (q : ℕ) (x : X) → AllEntries P (entries m) → get m q ≡ Some x → P q x
all_get P m q x a e = all_find P q x (entries m) a (sym (get-entries m q) ∙ e)

pub all_insert : {X : Type 0} (P : ℕ → X → Type 0) (m : Map X) (k : ℕ) (v : X) → P k v → AllEntries P (entries m) → AllEntries P (entries (insert m k v))
all_insert P m k v p a = subst (λ es. AllEntries P es) (sym (entries-insert nat_cmp_total m k v)) (all_put P k v (entries m) p a)

-- Interference sets.

pub instances_within : (n : ℕ) (p : ℕ × Record → Bool) (es : List (ℕ × Record)) → AllEntries (λ j x. leader_of j < n) es → are_within n (instances (those p es)) ≡ true
instances_within n p [] a = refl
instances_within n p (e ∷ es) a = go (p e) (instances_within n p es a.1)
  where
    go : (b : Bool) → are_within n (instances (those p es)) ≡ true → are_within n (instances (cond b (e ∷ those p es) (those p es))) ≡ true
    go true rec = and_from _ _ (lt-ltb (leader_of e.0) n a.0) rec
    go false rec = rec

pub fewer_seq : (p : ℕ × Record → Bool) (es : List (ℕ × Record)) → greatest_seq (those p es) ≤ greatest_seq es
fewer_seq p [] = omega arith
fewer_seq p (e ∷ es) = go (p e) (fewer_seq p es)
  where
    go : (b : Bool) → greatest_seq (those p es) ≤ greatest_seq es → greatest_seq (cond b (e ∷ those p es) (those p es)) ≤ max (seq_of e.1.vote) (greatest_seq es)
    go true rec = omega arith
    go false rec = omega arith

-- a record of i itself isn't in the interference set of i
own_untouched : (c : Command) (i : ℕ) (x : Record) → touches c i (i, x) ≡ false
own_untouched c i x = and_left (not (eqb i i)) (votes_against c x.vote) (not_from_true (eqb i i) (eq-eqb i i refl))

those_put : (c : Command) (i : ℕ) (x : Record) (es : List (ℕ × Record)) → those (touches c i) (put nat_cmp i x es) ≡ those (touches c i) es
those_put c i x [] = ap (λ b. cond b ((i, x) ∷ []) []) (own_untouched c i x)
those_put c i x (e ∷ es) =
    put_by (λ l. those (touches c i) l ≡ those (touches c i) (e ∷ es)) i x e es (nat_cmp i e.0) refl
    (λ at. ap (λ b. cond b ((i, x) ∷ those (touches c i) (e ∷ es)) (those (touches c i) (e ∷ es))) (own_untouched c i x))
    (λ at is. dropped (e.0, x) (subst (λ j. touches c i (j, x) ≡ false) is (own_untouched c i x)) ∙ sym (dropped e (subst (λ j. touches c i (j, e.1) ≡ false) is (own_untouched c i e.1))))
    (λ at. ap (λ l. cond (touches c i e) (e ∷ l) l) (those_put c i x es))
  where
    dropped : (d : ℕ × Record) → touches c i d ≡ false → cond (touches c i d) (d ∷ those (touches c i) es) (those (touches c i) es) ≡ those (touches c i) es
    dropped d t = ap (λ b. cond b (d ∷ those (touches c i) es) (those (touches c i) es)) t

-- so what is recorded of i changes nothing there
pub same_interference : (m : Map Record) (i : ℕ) (o : Option Record) (c : Command) → interference (with_entry m i o) i c ≡ interference m i c
same_interference m i None c = refl
same_interference m i (Some x) c =
    let e : those (touches c i) (entries (insert m i x)) ≡ those (touches c i) (entries m) = ap (those (touches c i)) (entries-insert nat_cmp_total m i x) ∙ those_put c i x (entries m) in
    ap (λ es. record { seq = 1 + greatest_seq es; deps = instances es }) e
