-- The replicas that a line names are f+1.
use Rattle.std.proofs.Common.{◌≡◌, ℕ, zero, suc, ◌+◌, ◌<◌, ◌≤◌, ◌-◌, Bool, true, false, cond, ltb, refl, sym, ap, subst, ◌∙◌, inl, inr, ◌⊎◌, arith}
use Rattle.std.proofs.lemmas.Bool.{lt-ltb, le-ltb}
use Rattle.ep_base.specs.Instances.{leader_of}
use Rattle.ep_base.specs.Quorums.{size}
use Rattle.ep_rules.specs.Counting.{count}
use Rattle.ep_laws.proofs.Ending.{can_end_lem}
use Rattle.ep_laws.proofs.Finishing.{can_finish_lem}
use Rattle.ep_laws.proofs.Knowing.{unstuck_lem}
use Rattle.ep_laws.specs.Named.{name, AreHeard, NamedSuffice}

one_more : (b : Bool) (k n : ℕ) → b ≡ true → k ≤ n → suc k ≤ cond b 1 0 + n
one_more true k n e le = omega arith
one_more false k n e le = absurd (cc)

count_up : (n d : ℕ) (p : ℕ → Bool) → count n p ≤ count (d + n) p
count_up n zero p = let e : 0 + n ≡ n = omega arith in subst (λ m. count n p ≤ count m p) (sym e) (omega arith)
count_up n (suc d) p = let e : suc d + n ≡ suc (d + n) = omega arith in let h = count_up n d p in subst (λ m. count n p ≤ count m p) (sym e) (more (p (d + n)) h)
  where
    more : (b : Bool) → count n p ≤ count (d + n) p → count n p ≤ cond b 1 0 + count (d + n) p
    more true le = omega arith
    more false le = omega arith

before : (leader k : ℕ) → k < leader → name leader k ≡ k
before leader k lt = ap (λ b. cond b k (k + 1)) (lt-ltb k leader lt)

behind : (leader k : ℕ) → leader ≤ k → name leader k ≡ suc k
behind leader k le = let e : k + 1 ≡ suc k = omega arith in ap (λ b. cond b k (k + 1)) (le-ltb k leader le) ∙ e

-- those before the leader
low : (live : ℕ → Bool) (leader n : ℕ) → n ≤ leader → ((k : ℕ) → k < n → live (name leader k) ≡ true) → n ≤ count n live
low live leader zero le h = omega arith
low live leader (suc n) le h =
    let here : live n ≡ true = ap live (sym (before leader n (omega arith))) ∙ h n (omega arith) in
    one_more (live n) n (count n live) here (low live leader n (omega arith) (λ k lt. h k (omega arith)))

-- and those behind it
high : (live : ℕ → Bool) (leader d : ℕ) → ((k : ℕ) → k < d + leader → live (name leader k) ≡ true) → d + leader ≤ count (suc (d + leader)) live
high live leader zero h =
    let e : 0 + leader ≡ leader = omega arith in
    let a = low live leader leader (omega arith) (λ k lt. h k (omega arith)) in
    let b : count leader live ≤ count (1 + leader) live = count_up leader 1 live in
    let s : 1 + leader ≡ suc (0 + leader) = omega arith in
    let c : count (1 + leader) live ≡ count (suc (0 + leader)) live = ap (λ m. count m live) s in
    omega arith
high live leader (suc d) h =
    let e : suc d + leader ≡ suc (d + leader) = omega arith in
    let there : live (suc (d + leader)) ≡ true = ap live (sym (behind leader (d + leader) (omega arith))) ∙ h (d + leader) (omega arith) in
    let rest = high live leader d (λ k lt. h k (omega arith)) in
    subst (λ m. m ≤ count (suc m) live) (sym e) (one_more (live (suc (d + leader))) (d + leader) (count (suc (d + leader)) live) there rest)

order : (a b : ℕ) → (a ≤ b) ⊎ (b < a)
order a b = grind arith

pub enough : (f leader : ℕ) (live : ℕ → Bool) → 0 < f → AreHeard f live leader → f + 1 ≤ count (size f) live
enough f leader live two heard = elim (order (f + 1) leader) [
  | inl all ↦ (
      let a = low live leader (f + 1) all (λ k lt. heard k (omega arith)) in
      let b : count (f + 1) live ≤ count (f + (f + 1)) live = count_up (f + 1) f live in
      let s : f + (f + 1) ≡ size f = omega arith in
      let c : count (f + (f + 1)) live ≡ count (size f) live = ap (λ m. count m live) s in
      omega arith)
  | inr some ↦ past (f + 1 - leader) (omega arith)
]
  where
    past : (d : ℕ) → d + leader ≡ f + 1 → f + 1 ≤ count (size f) live
    past d e =
        let a = high live leader d (λ k lt. heard k (omega arith)) in
        let b : count (suc (d + leader)) live ≤ count ((f - 1) + suc (d + leader)) live = count_up (suc (d + leader)) (f - 1) live in
        let s : (f - 1) + suc (d + leader) ≡ size f = omega arith in
        let c : count ((f - 1) + suc (d + leader)) live ≡ count (size f) live = ap (λ m. count m live) s in
        omega arith

pub named_suffice_lem : NamedSuffice
named_suffice_lem base f two few acts run i lead live heard q low q_live =
    let many : f + 1 ≤ count (size f) live = enough f (leader_of i) live two heard in
    record {
      ending = can_end_lem base f two few acts run live many q low q_live i lead;
      rounds = unstuck_lem base f two few acts run live many q low q_live i lead;
      finishing = can_finish_lem base f two few acts run live many q low q_live;
    }
