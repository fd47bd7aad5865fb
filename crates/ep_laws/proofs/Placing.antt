-- Reads put among operations.
use Rattle.std.proofs.Common.{◌≡◌, ◌⊎◌, ℕ, zero, suc, ◌<◌, ◌≤◌, Bool, true, false, cond, eqb, inl, inr, Option, Some, None, List, [], ◌∷◌, length, take, get_or, refl, sym, ap, subst, ◌∙◌, arith}
use Rattle.std.proofs.lemmas.Bool.{false≢true, eqb-true, eq-eqb, ne_eqb}
use Rattle.ep_base.specs.Commands.{Command, Noop, Get, Put, Del, Swap, Cas, Seal, Opaque, Tx}
use Rattle.ep_base.specs.Interference.{only_reads}
use Rattle.ep_base.specs.Places.{place, Has}
use Rattle.ep_base.specs.declared.reply.Reply.TheVariants.{Absent}
use Rattle.ep_base.proofs.Places.{Has-empty, Has-first, Has-head, Has-tail, Has-cons_cases}
use Rattle.ep_rules.specs.OneMap.{Contents, Store, after, after_under, reply, replies, after_commands}
use Rattle.ep_rules.specs.Operations.{Operation, instances_of, commands_of}
use Rattle.ep_rules.proofs.Commuting.{tx_reads}
use Rattle.ep_rules.proofs.Places.{Once}
use Rattle.ep_laws.specs.WithReads.{Item, Done, Asked, operations_in, reads_in, commands_in, place_done, place_asked}

-- a read changes nothing

read_under : (o : Option (List ℕ)) (m : Contents) (c : Command) → only_reads c ≡ true → after_under o m c ≡ record { contents = m; seal = o }
read_under (Some v) m c e = refl
read_under None m Noop e = absurd (false≢true e)
read_under None m (Get k) e = refl
read_under None m (Put k v) e = absurd (false≢true e)
read_under None m (Del k) e = absurd (false≢true e)
read_under None m (Swap p) e = absurd (false≢true e)
read_under None m (Cas k x n) e = absurd (false≢true e)
read_under None m (Seal v) e = absurd (false≢true e)
read_under None m (Opaque p b) e = refl
read_under None m (Tx is) e = ap (λ (x : Contents). record { contents = x; seal = None }) (tx_reads m is e)

read_stays : (s : Store) (c : Command) → only_reads c ≡ true → after s c ≡ s
read_stays s c e = read_under s.seal s.contents c e

-- the read k, behind n operations, and behind all reads that stand there already
abbrev pub insert : List Item → ℕ → ℕ → List Item
insert [] n k = Asked k ∷ []
insert (Done o ∷ s) zero k = Asked k ∷ (Done o ∷ s)
insert (Done o ∷ s) (suc n) k = Done o ∷ insert s n k
insert (Asked j ∷ s) n k = Asked j ∷ insert s n k

abbrev pub all_done : List Operation → List Item
all_done [] = []
all_done (o ∷ os) = Done o ∷ all_done os

pub done_operations : (os : List Operation) → operations_in (all_done os) ≡ os
done_operations [] = refl
done_operations (o ∷ os) = ap (λ z. o ∷ z) (done_operations os)

pub done_reads : (os : List Operation) → reads_in (all_done os) ≡ []
done_reads [] = refl
done_reads (o ∷ os) = done_reads os

-- how many operations stand before a read
abbrev pub done_before : List Item → ℕ → ℕ
done_before [] k = 0
done_before (Done o ∷ s) k = suc (done_before s k)
done_before (Asked j ∷ s) k = cond (eqb j k) 0 (done_before s k)

-- where an operation stands, by its place among operations
abbrev pub spot : List Item → ℕ → ℕ
spot [] m = 0
spot (Done o ∷ s) zero = 0
spot (Done o ∷ s) (suc m) = suc (spot s m)
spot (Asked k ∷ s) m = suc (spot s m)

-- what stands in the rest
later : (i j : ℕ) (is : List ℕ) → Has (i ∷ is) j → eqb i j ≡ false → Has is j
later i j is h e = elim (Has-cons_cases i is j h) [ inl s ↦ absurd (false≢true (sym e ∙ eq-eqb i j s)) | inr t ↦ t ]

-- One read more.

pub insert_operations : (s : List Item) (n k : ℕ) → operations_in (insert s n k) ≡ operations_in s
insert_operations [] n k = refl
insert_operations (Done o ∷ s) zero k = refl
insert_operations (Done o ∷ s) (suc n) k = ap (λ z. o ∷ z) (insert_operations s n k)
insert_operations (Asked j ∷ s) n k = insert_operations s n k

pub insert_back : (s : List Item) (n k j : ℕ) → Has (reads_in (insert s n k)) j → (k ≡ j) ⊎ Has (reads_in s) j
insert_back [] n k j h = Has-cons_cases k [] j h
insert_back (Done o ∷ s) zero k j h = Has-cons_cases k (reads_in s) j h
insert_back (Done o ∷ s) (suc n) k j h = insert_back s n k j h
insert_back (Asked i ∷ s) n k j h = elim (Has-cons_cases i (reads_in (insert s n k)) j h) [
  | inl e ↦ inr (Has-head i (reads_in s) j e)
  | inr t ↦ elim (insert_back s n k j t) [ inl e ↦ inl e | inr r ↦ inr (Has-tail i (reads_in s) j r) ]
]

pub insert_new : (s : List Item) (n k : ℕ) → Has (reads_in (insert s n k)) k
insert_new [] n k = Has-first k []
insert_new (Done o ∷ s) zero k = Has-first k (reads_in s)
insert_new (Done o ∷ s) (suc n) k = insert_new s n k
insert_new (Asked i ∷ s) n k = Has-tail i (reads_in (insert s n k)) k (insert_new s n k)

pub insert_old : (s : List Item) (n k j : ℕ) → Has (reads_in s) j → Has (reads_in (insert s n k)) j
insert_old [] n k j h = absurd (Has-empty j h)
insert_old (Done o ∷ s) zero k j h = Has-tail k (reads_in s) j h
insert_old (Done o ∷ s) (suc n) k j h = insert_old s n k j h
insert_old (Asked i ∷ s) n k j h = elim (Has-cons_cases i (reads_in s) j h) [
  | inl e ↦ Has-head i (reads_in (insert s n k)) j e
  | inr t ↦ Has-tail i (reads_in (insert s n k)) j (insert_old s n k j t)
]

pub insert_once : (s : List Item) (n k : ℕ) → Once (reads_in s) → ¬ Has (reads_in s) k → Once (reads_in (insert s n k))
insert_once [] n k o out = (Has-empty k, tt)
insert_once (Done p ∷ s) zero k o out = (out, o)
insert_once (Done p ∷ s) (suc n) k o out = insert_once s n k o out
insert_once (Asked i ∷ s) n k o out = (
  λ h. elim (insert_back s n k i h) [ inl e ↦ out (Has-head i (reads_in s) k (sym e)) | inr t ↦ o.0 t ],
  insert_once s n k o.1 (λ h. out (Has-tail i (reads_in s) k h)),
)

self : (k : ℕ) → eqb k k ≡ true
self k = eq-eqb k k refl

-- it stands behind n operations
pub insert_at : (s : List Item) (n k : ℕ) → ¬ Has (reads_in s) k → n ≤ length (operations_in s) → done_before (insert s n k) k ≡ n
insert_at [] n k out le = ap (λ b. cond b 0 0) (self k) ∙ omega arith
insert_at (Done o ∷ s) zero k out le = ap (λ b. cond b 0 (suc (done_before s k))) (self k)
insert_at (Done o ∷ s) (suc n) k out le = ap suc (insert_at s n k out (omega arith))
insert_at (Asked j ∷ s) n k out le =
    ap (λ b. cond b 0 (done_before (insert s n k) k)) (ne_eqb j k (λ e. out (Has-head j (reads_in s) k e)))
    ∙ insert_at s n k (λ h. out (Has-tail j (reads_in s) k h)) le

-- and the others behind as many as before
pub insert_keeps : (s : List Item) (n k j : ℕ) → (k ≡ j → ⊥) → Has (reads_in s) j → done_before (insert s n k) j ≡ done_before s j
insert_keeps [] n k j ne h = absurd (Has-empty j h)
insert_keeps (Done o ∷ s) zero k j ne h = ap (λ b. cond b 0 (suc (done_before s j))) (ne_eqb k j ne)
insert_keeps (Done o ∷ s) (suc n) k j ne h = ap suc (insert_keeps s n k j ne h)
insert_keeps (Asked i ∷ s) n k j ne h = go (eqb i j) refl (insert_keeps s n k j ne)
  where
    go : (b : Bool) → eqb i j ≡ b → (Has (reads_in s) j → done_before (insert s n k) j ≡ done_before s j) → cond b 0 (done_before (insert s n k) j) ≡ cond b 0 (done_before s j)
    go true e rec = refl
    go false e rec = rec (later i j (reads_in s) h e)

-- it stands behind the reads that stand behind no more operations
pub insert_behind : (s : List Item) (n k j : ℕ) → ¬ Has (reads_in s) k → Has (reads_in s) j → done_before s j ≤ n → place_asked (insert s n k) j < place_asked (insert s n k) k
insert_behind [] n k j out h le = absurd (Has-empty j h)
insert_behind (Done o ∷ s) zero k j out h le = absurd (omega arith)
insert_behind (Done o ∷ s) (suc n) k j out h le = let r = insert_behind s n k j out h (omega arith) in omega arith
insert_behind (Asked i ∷ s) n k j out h le =
    subst (λ b. place_asked (Asked i ∷ insert s n k) j < cond b 0 (suc (place_asked (insert s n k) k))) (sym (ne_eqb i k (λ e. out (Has-head i (reads_in s) k e))))
    (go (eqb i j) refl le (insert_behind s n k j (λ t. out (Has-tail i (reads_in s) k t))))
  where
    go : (b : Bool) → eqb i j ≡ b → cond b 0 (done_before s j) ≤ n → (Has (reads_in s) j → done_before s j ≤ n → place_asked (insert s n k) j < place_asked (insert s n k) k) →
        cond b 0 (suc (place_asked (insert s n k) j)) < suc (place_asked (insert s n k) k)
    go true e l rec = omega arith
    go false e l rec = let r = rec (later i j (reads_in s) h e) l in omega arith

-- and leaves the others in their order
pub insert_orders : (s : List Item) (n k i j : ℕ) → (k ≡ i → ⊥) → (k ≡ j → ⊥) → place_asked s i < place_asked s j → place_asked (insert s n k) i < place_asked (insert s n k) j
insert_orders [] n k i j ni nj lt = absurd (omega arith)
insert_orders (Done o ∷ s) zero k i j ni nj lt = rw (ne_eqb k i ni, ne_eqb k j nj) (omega arith)
insert_orders (Done o ∷ s) (suc n) k i j ni nj lt = let r = insert_orders s n k i j ni nj (omega arith) in omega arith
insert_orders (Asked l ∷ s) n k i j ni nj lt = go (eqb l i) (eqb l j) lt (insert_orders s n k i j ni nj)
  where
    go : (a b : Bool) → cond a 0 (suc (place_asked s i)) < cond b 0 (suc (place_asked s j)) → (place_asked s i < place_asked s j → place_asked (insert s n k) i < place_asked (insert s n k) j) →
        cond a 0 (suc (place_asked (insert s n k) i)) < cond b 0 (suc (place_asked (insert s n k) j))
    go a true l rec = absurd (omega arith)
    go true false l rec = omega arith
    go false false l rec = let r = rec (omega arith) in omega arith

-- Places.

pub spot_before : (s : List Item) (k m : ℕ) → Has (reads_in s) k → m < done_before s k → spot s m < place_asked s k
spot_before [] k m h lt = absurd (omega arith)
spot_before (Done o ∷ s) k zero h lt = omega arith
spot_before (Done o ∷ s) k (suc m) h lt = let r = spot_before s k m h (omega arith) in omega arith
spot_before (Asked j ∷ s) k m h lt = go (eqb j k) refl lt (spot_before s k m)
  where
    go : (b : Bool) → eqb j k ≡ b → m < cond b 0 (done_before s k) → (Has (reads_in s) k → m < done_before s k → spot s m < place_asked s k) → suc (spot s m) < cond b 0 (suc (place_asked s k))
    go true e l rec = absurd (omega arith)
    go false e l rec = let r = rec (later j k (reads_in s) h e) l in omega arith

pub spot_after : (s : List Item) (k m : ℕ) → Has (reads_in s) k → done_before s k ≤ m → place_asked s k < spot s m
spot_after [] k m h le = absurd (Has-empty k h)
spot_after (Done o ∷ s) k zero h le = absurd (omega arith)
spot_after (Done o ∷ s) k (suc m) h le = let r = spot_after s k m h (omega arith) in omega arith
spot_after (Asked j ∷ s) k m h le = go (eqb j k) refl le (spot_after s k m)
  where
    go : (b : Bool) → eqb j k ≡ b → cond b 0 (done_before s k) ≤ m → (Has (reads_in s) k → done_before s k ≤ m → place_asked s k < spot s m) → cond b 0 (suc (place_asked s k)) < suc (spot s m)
    go true e l rec = omega arith
    go false e l rec = let r = rec (later j k (reads_in s) h e) l in omega arith

pub place_is_spot : (s : List Item) (i : ℕ) → Has (instances_of (operations_in s)) i → place_done s i ≡ spot s (place (instances_of (operations_in s)) i)
place_is_spot [] i h = absurd (Has-empty i h)
place_is_spot (Done o ∷ s) i h = go (eqb o.instance i) refl (place_is_spot s i)
  where
    go : (b : Bool) → eqb o.instance i ≡ b → (Has (instances_of (operations_in s)) i → place_done s i ≡ spot s (place (instances_of (operations_in s)) i)) →
        cond b 0 (suc (place_done s i)) ≡ spot (Done o ∷ s) (cond b 0 (suc (place (instances_of (operations_in s)) i)))
    go true e rec = refl
    go false e rec = ap suc (rec (later o.instance i (instances_of (operations_in s)) h e))
place_is_spot (Asked k ∷ s) i h = ap suc (place_is_spot s i h)

-- Replies, where the commands of the reads only read.

module _ (q : ℕ → Command) where
  pub read_reported : (b : Store) (s : List Item) → ((j : ℕ) → Has (reads_in s) j → only_reads (q j) ≡ true) → (k : ℕ) → Has (reads_in s) k →
      get_or (replies b (commands_in q s)) (place_asked s k) Absent ≡ reply (after_commands b (commands_of (take (done_before s k) (operations_in s)))) (q k)
  read_reported b [] only k h = absurd (Has-empty k h)
  read_reported b (Done o ∷ s) only k h = read_reported (after b o.command) s only k h
  read_reported b (Asked j ∷ s) only k h = go (eqb j k) refl (read_reported b s (λ i m. only i (Has-tail j (reads_in s) i m)) k)
    where
      go : (t : Bool) → eqb j k ≡ t →
          (Has (reads_in s) k → get_or (replies b (commands_in q s)) (place_asked s k) Absent ≡ reply (after_commands b (commands_of (take (done_before s k) (operations_in s)))) (q k)) →
          get_or (reply b (q j) ∷ replies (after b (q j)) (commands_in q s)) (cond t 0 (suc (place_asked s k))) Absent
          ≡ reply (after_commands b (commands_of (take (cond t 0 (done_before s k)) (operations_in s)))) (q k)
      go true e rec = ap (λ z. reply b (q z)) (eqb-true j k e)
      go false e rec =
          ap (λ z. get_or (replies z (commands_in q s)) (place_asked s k) Absent) (read_stays b (q j) (only j (Has-first j (reads_in s))))
          ∙ rec (later j k (reads_in s) h e)

  pub done_reported : (b : Store) (s : List Item) → ((j : ℕ) → Has (reads_in s) j → only_reads (q j) ≡ true) → (i : ℕ) → Has (instances_of (operations_in s)) i →
      get_or (replies b (commands_in q s)) (place_done s i) Absent ≡ get_or (replies b (commands_of (operations_in s))) (place (instances_of (operations_in s)) i) Absent
  done_reported b [] only i h = absurd (Has-empty i h)
  done_reported b (Done o ∷ s) only i h = go (eqb o.instance i) refl (done_reported (after b o.command) s only i)
    where
      go : (t : Bool) → eqb o.instance i ≡ t →
          (Has (instances_of (operations_in s)) i → get_or (replies (after b o.command) (commands_in q s)) (place_done s i) Absent
          ≡ get_or (replies (after b o.command) (commands_of (operations_in s))) (place (instances_of (operations_in s)) i) Absent) →
          get_or (reply b o.command ∷ replies (after b o.command) (commands_in q s)) (cond t 0 (suc (place_done s i))) Absent
          ≡ get_or (reply b o.command ∷ replies (after b o.command) (commands_of (operations_in s))) (cond t 0 (suc (place (instances_of (operations_in s)) i))) Absent
      go true e rec = refl
      go false e rec = rec (later o.instance i (instances_of (operations_in s)) h e)
  done_reported b (Asked j ∷ s) only i h =
      ap (λ z. get_or (replies z (commands_in q s)) (place_done s i) Absent) (read_stays b (q j) (only j (Has-first j (reads_in s))))
      ∙ done_reported b s (λ k m. only k (Has-tail j (reads_in s) k m)) i h
