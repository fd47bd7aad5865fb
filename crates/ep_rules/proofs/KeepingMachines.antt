-- Machines that keep to their keys, and the map.
use Rattle.std.proofs.Common.{◌≡◌, ℕ, suc, ◌<◌, inl, inr, ◌⊎◌, List, [], ◌∷◌, ◌++◌, length, Some, Bool, true, false, cond, eqb, refl, sym, subst, ◌∙◌, arith}
use Rattle.std.proofs.lemmas.Bool.{false≢true, or_parts}
use Rattle.std.specs.Prelude.{◌&&◌, ◌||◌, not}
use Rattle.ep_base.specs.Attributes.{same_list}
use Rattle.ep_base.specs.Places.{place, Has}
use Rattle.ep_base.specs.Interference.{keys_of, has_key, share_key, only_reads, meet, meet_seal}
use Rattle.ep_base.proofs.Same.{Decides-same_list}
use Rattle.ep_rules.specs.Machines.{AreFree, Machine, after_operations, reply_to, MachinesResume, AreSameAt, KeepsToKeys, KeepersAreMachines, MapIsMachine}
use Rattle.ep_rules.specs.OneMap.{after, reply}
use Rattle.ep_rules.specs.Operations.{Operation, instances_of}
use Rattle.ep_rules.proofs.Commuting.{commutes, unseen}

-- The keys of operations whose order is left open.

-- lists that share no key
apart : (ks ls : List (List ℕ)) → share_key ks ls ≡ false → (k : List ℕ) → has_key k ks ≡ true → has_key k ls ≡ false
apart [] ls e k h = absurd (false≢true h)
apart (l ∷ ks) ls e k h = go (same_list k l) refl h (apart ks ls (or_parts (has_key l ls) (share_key ks ls) e).1 k)
  where
    go : (b : Bool) → same_list k l ≡ b → (b || has_key k ks) ≡ true → (has_key k ks ≡ true → has_key k ls ≡ false) → has_key k ls ≡ false
    go true s h rec = subst (λ q. has_key q ls ≡ false) (sym ((Decides-same_list k l).0 s)) (or_parts (has_key l ls) (share_key ks ls) e).0
    go false s h rec = rec h

-- both only read, or they share no key
how_free : (o p : Operation) → AreFree o p → ((only_reads o.command ≡ true) × (only_reads p.command ≡ true)) ⊎ (share_key (keys_of o.command) (keys_of p.command) ≡ false)
how_free o p f = go (share_key (keys_of o.command) (keys_of p.command)) (only_reads o.command) (only_reads p.command) refl refl (or_parts (meet o.command p.command) (meet_seal o.command p.command) f.meet).0
  where
    go : (s a b : Bool) → only_reads o.command ≡ a → only_reads p.command ≡ b → (s && not (a && b)) ≡ false → ((only_reads o.command ≡ true) × (only_reads p.command ≡ true)) ⊎ (s ≡ false)
    go false a b x y e = inr refl
    go true true true x y e = inl (x, y)
    go true true false x y e = absurd (false≢true (sym e))
    go true false b x y e = absurd (false≢true (sym e))

module _ {X R : Type 0} (act : (List ℕ → X) → Operation → List ℕ → X) (say : (List ℕ → X) → Operation → R) (keeps : KeepsToKeys X R act say) where
  -- an operation leaves what the other's keys have
  left_there : (s : List ℕ → X) (o p : Operation) → AreFree o p → AreSameAt p (act s o) s
  left_there s o p f k h = elim (how_free o p f) [
    | inl both ↦ keeps.reads s o k both.0
    | inr e ↦ keeps.changes s o k (away (has_key k (keys_of o.command)) refl e)
  ]
    where
      away : (b : Bool) → has_key k (keys_of o.command) ≡ b → share_key (keys_of o.command) (keys_of p.command) ≡ false → has_key k (keys_of o.command) ≡ false
      away true q e = absurd (false≢true (sym (apart (keys_of o.command) (keys_of p.command) e k q) ∙ h))
      away false q e = q

  turned : (s : List ℕ → X) (o p : Operation) → AreFree o p → AreSameAt o (act s p) s
  turned s o p f k h = elim (how_free o p f) [
    | inl both ↦ keeps.reads s p k both.1
    | inr e ↦ keeps.changes s p k (apart (keys_of o.command) (keys_of p.command) e k h)
  ]

  -- where the two leave one thing at each key
  at_key : (s : List ℕ → X) (o p : Operation) → AreFree o p → (k : List ℕ) → act (act s o) p k ≡ act (act s p) o k
  at_key s o p f k = elim (how_free o p f) [
    | inl both ↦ keeps.reads (act s o) p k both.1 ∙ keeps.reads s o k both.0 ∙ sym (keeps.reads (act s p) o k both.0 ∙ keeps.reads s p k both.1)
    | inr e ↦ go (has_key k (keys_of o.command)) (has_key k (keys_of p.command)) refl refl e
  ]
    where
      go : (a b : Bool) → has_key k (keys_of o.command) ≡ a → has_key k (keys_of p.command) ≡ b → share_key (keys_of o.command) (keys_of p.command) ≡ false → act (act s o) p k ≡ act (act s p) o k
      go true b x y e = keeps.changes (act s o) p k (apart (keys_of o.command) (keys_of p.command) e k x) ∙ sym (keeps.follows (act s p) s o (turned s o p f) k x)
      go false true x y e = keeps.follows (act s o) s p (left_there s o p f) k y ∙ sym (keeps.changes (act s p) o k x)
      go false false x y e = keeps.changes (act s o) p k y ∙ keeps.changes s o k x ∙ sym (keeps.changes (act s p) o k x ∙ keeps.changes s p k y)

  machine : Machine (List ℕ → X) R
  machine = record {
    after = act;
    reply = say;
    commute = λ s o p f. λ t k. at_key s o p f k t;
    unseen = λ s o p f. keeps.reported (act s o) s p (left_there s o p f);
  }

pub keepers_are_machines_lem : (X R : Type 0) → KeepersAreMachines X R
unfolding machine
keepers_are_machines_lem X R act say keeps = (machine act say keeps, refl, refl)

pub map_is_machine_lem : MapIsMachine
map_is_machine_lem = (
  record {
    after = λ s o. after s o.command;
    reply = λ s o. reply s o.command;
    commute = λ s o p f. commutes s o.command p.command f.meet;
    unseen = λ s o p f. unseen s o.command p.command f.meet;
  },
  λ s o. (refl, refl),
)

-- Stopping and going on.

resumes : {S R : Type 0} (M : Machine S R) (s : S) (xs ys : List Operation) → after_operations M s (xs ++ ys) ≡ after_operations M (after_operations M s xs) ys
resumes M s [] ys = refl
resumes M s (x ∷ xs) ys = resumes M (M.after s x) xs ys

same_reply : {S R : Type 0} (M : Machine S R) (s : S) (xs ys : List Operation) (i : ℕ) → Has (instances_of xs) i → reply_to M s (xs ++ ys) i ≡ reply_to M s xs i
same_reply M s [] ys i h = absurd (omega arith)
same_reply {S} {R} M s (x ∷ xs) ys i h = go (eqb x.instance i) h (same_reply M (M.after s x) xs ys i)
  where
    go : (b : Bool) → cond b 0 (suc (place (instances_of xs) i)) < suc (length (instances_of xs)) → (Has (instances_of xs) i → reply_to M (M.after s x) (xs ++ ys) i ≡ reply_to M (M.after s x) xs i) →
        cond b (Some (M.reply s x)) (reply_to M (M.after s x) (xs ++ ys) i) ≡ cond b (Some (M.reply s x)) (reply_to M (M.after s x) xs i)
    go true l rec = refl
    go false l rec = rec (omega arith)

pub machines_resume_lem : (S R : Type 0) → MachinesResume S R
machines_resume_lem S R M s xs ys = (resumes M s xs ys, λ i h. same_reply M s xs ys i h)
