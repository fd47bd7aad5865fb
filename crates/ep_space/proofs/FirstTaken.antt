-- What a write leaves of the first instances that all have a record.
use Rattle.std.proofs.Common.{◌≡◌, ℕ, zero, suc, ◌+◌, ◌≤◌, Result, Ok, Err, OnOk, OnErr, List, [], ◌∷◌, Option, is_none, inl, inr, refl, sym, ap, subst, ◌∙◌, arith}
use Rattle.std.proofs.lemmas.Bool.{cases_eq}
use Rattle.std.specs.FinSet as set
use Rattle.std.specs.declared.alloc.AllocError.{AllocError}
use Rattle.std.specs.List.{AllByRecursion}
use Rattle.ep_base.specs.Instances.{instance_of, highest_number}
use Rattle.ep_rules.specs.Maps.{Map, get}
use Rattle.ep_rules.specs.States.{with_held}
use Rattle.ep_rules.specs.declared.record.Record.{Record}
use Rattle.ep_space.specs.Held.{Held}
use Rattle.ep_space.specs.Taken.{taken_by, AreTaken, AreTakenBut}
use Rattle.ep_space.proofs.Kept.{get-other, get-own}

-- a write says nothing of other instances
pub taken-written : (m : Map Record) (i : ℕ) (o : Option Record) (ns : List ℕ) → AreTaken m ns → AreTakenBut i (with_held m i o) ns
taken-written m i o ns k = record {
  bounded = k.bounded;
  full = λ r n low apart. ap is_none (get-other m i o (instance_of r (n + 1)) apart) ∙ k.full r n low;
}

-- where there is a record if there was, what is said stays true
pub taken-kept : (m : Map Record) (i : ℕ) (o : Option Record) (ns : List ℕ) → AreTaken m ns → is_none o ≡ is_none (get m i) → AreTaken (with_held m i o) ns
taken-kept m i o ns k same = record {
  bounded = k.bounded;
  full = λ r n low. elim (cases_eq (instance_of r (n + 1)) i) [
    | inl it ↦ ap (λ q. is_none (get (with_held m i o) q)) it ∙ ap is_none (get-own m i o) ∙ same ∙ sym (ap (λ q. is_none (get m q)) it) ∙ k.full r n low
    | inr apart ↦ ap is_none (get-other m i o (instance_of r (n + 1)) apart) ∙ k.full r n low
  ];
}

zeros : (ns : List ℕ) → AllByRecursion (λ n. n ≡ 0) ns → (r : ℕ) → taken_by ns r ≡ 0
zeros [] h r = refl
zeros (n ∷ ns) h zero = h.0
zeros (n ∷ ns) h (suc r) = zeros ns h.1 r

-- of none, nothing is said
pub taken-none : (m : Map Record) (ns : List ℕ) → AllByRecursion (λ n. n ≡ 0) ns → AreTaken m ns
taken-none m ns h = record {
  bounded = λ r. subst (λ k. k ≤ highest_number) (sym (zeros ns h r)) (omega arith);
  full = λ r n low. let none = zeros ns h r in absurd (omega (arith, low, none));
}

-- a place says nothing of records
pub taken-at : (r : Result (Unit {0}) AllocError) (old new : Held Record) (i : ℕ) (ns : List ℕ) → AreTaken old.held ns
    → OnOk r (new ≡ record { held = old.held; places = set.insert old.places i }) → OnErr r (new ≡ old) → AreTaken new.held ns
taken-at (Ok x) old new i ns k ok err = subst (λ t. AreTaken t.held ns) (sym ok) k
taken-at (Err e) old new i ns k ok err = subst (λ t. AreTaken t.held ns) (sym err) k
