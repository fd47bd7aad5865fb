-- A read is answered the same behind what its reader has executed, and at its place in the history: by the map, and by any machine.
use Rattle.std.proofs.Common.{◌≡◌, ◌≢◌, ℕ, suc, zero, ◌<◌, Bool, true, false, cond, inl, inr, max, Option, Some, None, List, [], ◌∷◌, ◌++◌, take, refl, sym, ap, ◌∙◌, arith}
use Rattle.std.specs.List.{filter}
use Rattle.ep_base.specs.Commands.{Command}
use Rattle.ep_base.specs.Interference.{interfere}
use Rattle.ep_base.specs.Places.{place, Has}
use Rattle.ep_base.specs.Sameness.{is_noop}
use Rattle.ep_base.proofs.Places.{Has-first, Has-tail}
use Rattle.ep_rules.specs.Machines.{AreFree, Machine, after_operations}
use Rattle.ep_rules.specs.OneMap.{Store, after, after_all, reply}
use Rattle.ep_rules.specs.Operations.{Operation, instances_of, operations_of}
use Rattle.ep_rules.proofs.Answered.{is_real}
use Rattle.ep_rules.proofs.Places.{Once, once_take, has_cons}
use Rattle.ep_rules.proofs.Replies.{one_reply}
use Rattle.ep_rules.proofs.RunHistories.{AreOf}
use Rattle.ep_rules.proofs.Turns.{run, Commute, AreUnseen, IsOrdered, one_reported}
use Rattle.ep_laws.proofs.Inserted.{Known, Fits, with_read, old_is, new_is, once_new, has_new, before_new, own_old, front_old, not_in_own, not_in_front, ordered}

after_alike : (c d : ℕ → Command) (s : Store) (xs : List ℕ) → ((u : ℕ) → Has xs u → c u ≡ d u) → after_all c s xs ≡ after_all d s xs
after_alike c d s [] same = refl
after_alike c d s (x ∷ xs) same =
    after_alike c d (after s (c x)) xs (λ u k. same u (Has-tail x xs u k)) ∙ ap (λ y. after_all d (after s y) xs) (same x (Has-first x xs))

-- a number that isn't in a list
abbrev above : List ℕ → ℕ
above [] = 0
above (x ∷ xs) = max (suc x) (above xs)

below_above : (xs : List ℕ) (u : ℕ) → Has xs u → u < above xs
below_above [] u h = absurd (omega arith)
below_above (x ∷ xs) u h = elim (has_cons x u xs h) [ inl e ↦ omega arith | inr k ↦ (let r = below_above xs u k in omega arith) ]

pub is_above : (xs : List ℕ) → Has xs (above xs) → ⊥
is_above xs k = let lt = below_above xs (above xs) k in omega arith

-- Instances done in turn by a machine.
module _ {S R : Type 0} (M : Machine S R) where
  abbrev op : (ℕ → Command) → ℕ → Operation
  op c i = record { instance = i; command = c i }

  -- a no-op does nothing, and is answered nothing
  abbrev pub step : (ℕ → Command) → S → ℕ → S
  step c s i = cond (is_noop (c i)) s (M.after s (op c i))

  abbrev pub ask : (ℕ → Command) → S → ℕ → Option R
  ask c s i = cond (is_noop (c i)) None (Some (M.reply s (op c i)))

  free : (c : ℕ → Command) (i j : ℕ) → i ≢ j → is_noop (c i) ≡ false → is_noop (c j) ≡ false → interfere (c i) (c j) ≡ false → AreFree (op c i) (op c j)
  free c i j ne p q e = record { others = ne; first = p; second = q; meet = e }

  pub commute : (c : ℕ → Command) → Commute (step c) (λ i j. interfere (c i) (c j))
  commute c s i j ne e = go (is_noop (c i)) (is_noop (c j)) refl refl
    where
      go : (a b : Bool) → is_noop (c i) ≡ a → is_noop (c j) ≡ b →
          cond b (cond a s (M.after s (op c i))) (M.after (cond a s (M.after s (op c i))) (op c j)) ≡ cond a (cond b s (M.after s (op c j))) (M.after (cond b s (M.after s (op c j))) (op c i))
      go true b p q = refl
      go false true p q = refl
      go false false p q = M.commute s (op c i) (op c j) (free c i j ne p q e)

  pub unseen : (c : ℕ → Command) → AreUnseen (step c) (ask c) (λ i j. interfere (c i) (c j))
  unseen c s i j ne e = go (is_noop (c i)) (is_noop (c j)) refl refl
    where
      go : (a b : Bool) → is_noop (c i) ≡ a → is_noop (c j) ≡ b → cond b None (Some (M.reply (cond a s (M.after s (op c i))) (op c j))) ≡ cond b None (Some (M.reply s (op c j)))
      go true b p q = refl
      go false true p q = refl
      go false false p q = ap Some (M.unseen s (op c i) (op c j) (free c i j ne p q e))

  run_alike : (c d : ℕ → Command) (s : S) (xs : List ℕ) → ((u : ℕ) → Has xs u → c u ≡ d u) → run (step c) s xs ≡ run (step d) s xs
  run_alike c d s [] same = refl
  run_alike c d s (x ∷ xs) same =
      run_alike c d (step c s x) xs (λ u k. same u (Has-tail x xs u k))
      ∙ ap (λ y. run (step d) (cond (is_noop y) s (M.after s (record { instance = x; command = y }))) xs) (same x (Has-first x xs))

  -- what was handed, by its instances
  pub handed_runs : (c : ℕ → Command) (s : S) (xs : List ℕ) → after_operations M s (operations_of c xs) ≡ run (step c) s (filter (is_real c) xs)
  handed_runs c s [] = refl
  handed_runs c s (x ∷ xs) = go (is_noop (c x)) refl (λ n. handed_runs c n xs)
    where
      go : (b : Bool) → is_noop (c x) ≡ b → ((n : S) → after_operations M n (operations_of c xs) ≡ run (step c) n (filter (is_real c) xs)) →
          after_operations M s (cond b (operations_of c xs) (op c x ∷ operations_of c xs)) ≡ run (step c) s (cond (cond b false true) (x ∷ filter (is_real c) xs) (filter (is_real c) xs))
      go true e r = r s
      go false e r = r (M.after s (op c x)) ∙ ap (λ b. run (step c) (cond b s (M.after s (op c x))) (filter (is_real c) xs)) (sym e)

  pub front_runs : (c : ℕ → Command) (n : ℕ) (s : S) (os : List Operation) → AreOf c os → ((i : ℕ) → Has (instances_of os) i → is_noop (c i) ≡ false) →
      after_operations M s (take n os) ≡ run (step c) s (take n (instances_of os))
  front_runs c zero s os of real = refl
  front_runs c (suc n) s [] of real = refl
  front_runs c (suc n) s (o ∷ os) of real =
      front_runs c n (M.after s o) os of.1 (λ i k. real i (Has-tail o.instance (instances_of os) i k))
      ∙ ap (λ (d : Command). run (step c) (M.after s (record { instance = o.instance; command = d })) (take n (instances_of os))) of.0
      ∙ ap (λ b. run (step c) (cond b s (M.after s (op c o.instance))) (take n (instances_of os))) (sym (real o.instance (Has-first o.instance (instances_of os))))

same_some : {R : Type 0} (x y : R) → Some x ≡ Some y → x ≡ y
same_some x y e = cc

-- own: the operations that the reader has executed; h: the history; q: the command that is read, and n its place there
module _ (c : ℕ → Command) (q : Command) (own h : List ℕ) (n : ℕ) (known : Known c own h) (fits : Fits c q own h n) where
  abbrev there : List ℕ
  there = take n h

  -- both lists with the read
  module _ (new : ℕ) (out : Has h new → ⊥) where
    abbrev d : ℕ → Command
    d = with_read c q own h n new

    abbrev longer : List ℕ → List ℕ
    longer xs = xs ++ (new ∷ [])

    is_q : d new ≡ q
    is_q = new_is c q own h n new

    own_out : Has own new → ⊥
    own_out = not_in_own c q own h n new known fits out

    there_out : Has there new → ⊥
    there_out = not_in_front c q own h n new known fits out

    own_same : (u : ℕ) → Has own u → d u ≡ c u
    own_same u k = old_is c q own h n new u (own_old c q own h n new known fits out u k)

    there_same : (u : ℕ) → Has there u → d u ≡ c u
    there_same u k = old_is c q own h n new u (front_old c q own h n new known fits out u k)

    once_longer : (xs : List ℕ) → Once xs → (Has xs new → ⊥) → Once (longer xs)
    once_longer = once_new c q own h n new

    once_there : Once there
    once_there = once_take n h known.once_h

    in_longer : (xs : List ℕ) → Has (longer xs) new
    in_longer = has_new c q own h n new

    before_read : (xs : List ℕ) → (Has xs new → ⊥) → take (place (longer xs) new) (longer xs) ≡ xs
    before_read = before_new c q own h n new

    alike : IsOrdered (λ u w. interfere (d u) (d w)) (longer own) (longer there)
    alike = ordered c q own h n new known fits out

    map_behind : (base : Store) (xs : List ℕ) → (Has xs new → ⊥) → ((u : ℕ) → Has xs u → d u ≡ c u) → reply (after_all d base (take (place (longer xs) new) (longer xs))) (d new) ≡ reply (after_all c base xs) q
    map_behind base xs none same =
        ap (λ zs. reply (after_all d base zs) (d new)) (before_read xs none) ∙ ap (λ s. reply s (d new)) (after_alike d c base xs same) ∙ ap (reply (after_all c base xs)) is_q

    map_reported_by : (base : Store) → reply (after_all c base own) q ≡ reply (after_all c base there) q
    map_reported_by base =
        sym (map_behind base own own_out own_same)
        ∙ one_reply base d new (longer own) (longer there) (once_longer own known.once_own own_out) (once_longer there once_there there_out) (in_longer own) (in_longer there) alike
        ∙ map_behind base there there_out there_same

    module _ {S R : Type 0} (M : Machine S R) (real : is_noop q ≡ false) where
      abbrev reading : Operation
      reading = record { instance = new; command = q }

      asked : (s : S) → ask M d s new ≡ Some (M.reply s reading)
      asked s = ap (λ y. cond (is_noop y) None (Some (M.reply s (record { instance = new; command = y })))) is_q ∙ ap (λ b. cond b None (Some (M.reply s reading))) real

      machine_behind : (start : S) (xs : List ℕ) → (Has xs new → ⊥) → ((u : ℕ) → Has xs u → d u ≡ c u) →
          ask M d (run (step M d) start (take (place (longer xs) new) (longer xs))) new ≡ Some (M.reply (run (step M c) start xs) reading)
      machine_behind start xs none same =
          ap (λ zs. ask M d (run (step M d) start zs) new) (before_read xs none) ∙ ap (λ s. ask M d s new) (run_alike M d c start xs same) ∙ asked (run (step M c) start xs)

      both_reported : (start : S) → Some (M.reply (run (step M c) start own) reading) ≡ Some (M.reply (run (step M c) start there) reading)
      both_reported start =
          sym (machine_behind start own own_out own_same)
          ∙ one_reported (step M d) (λ u w. interfere (d u) (d w)) (commute M d) new start (longer own) (longer there)
          (once_longer own known.once_own own_out) (once_longer there once_there there_out) (in_longer own) (in_longer there) alike (ask M d) (unseen M d)
          ∙ machine_behind start there there_out there_same

      -- a machine answers the read alike
      pub machine_reported : (start : S) → M.reply (run (step M c) start own) reading ≡ M.reply (run (step M c) start there) reading
      machine_reported start = same_some _ _ (both_reported start)

  -- the map answers the read alike
  pub map_reported : (base : Store) → reply (after_all c base own) q ≡ reply (after_all c base there) q
  map_reported base = map_reported_by (above h) (is_above h) base
