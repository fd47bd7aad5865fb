-- Which replicas a frame names, by its bytes.
use Rattle.std.proofs.Common.{◌≡◌, ℕ, suc, ◌+◌, ◌*◌, ◌-◌, ◌≤◌, ◌<◌, Bool, true, false, ltb, List, [], ◌∷◌, length, refl, sym, ap, ◌∙◌, true≢false, arith}
use Rattle.std.specs.Prelude.{◌&&◌, Some, None}
use Rattle.std.proofs.lemmas.Bool.{ltb-true, lt-ltb, and_parts}
use Rattle.ep_base.specs.Ballots.{owner_of}
use Rattle.ep_base.specs.Instances.{leader_of, instance_of}
use Rattle.ep_base.specs.declared.message.Message.{Message}
use Rattle.ep_base.specs.declared.message.Message.TheVariants.{PreAccept, PreAcceptOk, Accept, AcceptOk, Commit, Prepare, PrepareOk, Nack}
use Rattle.ep_base.specs.declared.version.Version.{Version}
use Rattle.ep_base.proofs.Tests.{and_true}
use Rattle.ep_rules.specs.Steps.{are_within, message_within}
use Rattle.ep_frame.specs.DepBytes.{AreDepBytes}
use Rattle.ep_frame.specs.Faults.{HasNoFault}
use Rattle.ep_frame.specs.Fields.{deps_in, number_at}
use Rattle.ep_frame.specs.Meaning.{version_at, sender_at, origin_at, message_at, parts_within, is_within}
use Rattle.ep_frame.specs.Spelling.{parts_at, parts_of, Spells}
use Rattle.ep_frame.specs.declared.origin.Origin.{Origin}
use Rattle.ep_frame.proofs.Again.{parts_again}
use Rattle.ep_frame.proofs.BigEndian.{IsBytes}
use Rattle.ep_frame.proofs.Frames.{frame_found}
use Rattle.ep_frame.proofs.Sound.{sound}

after : (s x y : Bool) → (s ≡ true → x ≡ y) → (s && x) ≡ (s && y)
after true x y h = h refl
after false x y h = refl

-- where a replica is below n, so is 0
below : (r n : ℕ) → ltb r n ≡ true → ltb 0 n ≡ true
below r n e = let lt = ltb-true r n e in lt-ltb 0 n (omega (arith, lt))

-- the parts of a message's frame name the replicas that the message names, and 0
pub named : (n : ℕ) (v : Version) (from : ℕ) (o : Origin) (m : Message) → parts_within n (parts_of v from o m) ≡ (ltb from n && (ltb o.to n && message_within n m))
named n v from o (PreAccept i b x) =
    after (ltb from n) _ _ (λ e. ap (λ z. ltb o.to n && (ltb (leader_of i) n && (ltb (owner_of b) n && (z && are_within n x.attrs.deps)))) (below from n e))
named n v from o (PreAcceptOk i b a) =
    after (ltb from n) _ _ (λ e. ap (λ z. ltb o.to n && (ltb (leader_of i) n && (ltb (owner_of b) n && (z && are_within n a.deps)))) (below from n e))
named n v from o (Accept i b x) =
    after (ltb from n) _ _ (λ e. ap (λ z. ltb o.to n && (ltb (leader_of i) n && (ltb (owner_of b) n && (z && are_within n x.attrs.deps)))) (below from n e))
named n v from o (AcceptOk i b) =
    after (ltb from n) _ _ (λ e. ap (λ z. ltb o.to n && (ltb (leader_of i) n && (ltb (owner_of b) n && (z && true)))) (below from n e) ∙ ap (λ z. ltb o.to n && (ltb (leader_of i) n && z)) (and_true (ltb (owner_of b) n)))
named n v from o (Commit i x) =
    after (ltb from n) _ _ (λ e. ap (λ z. ltb o.to n && (ltb (leader_of i) n && (z && (z && are_within n x.attrs.deps)))) (below from n e))
named n v from o (Prepare i b) =
    after (ltb from n) _ _ (λ e. ap (λ z. ltb o.to n && (ltb (leader_of i) n && (ltb (owner_of b) n && (z && true)))) (below from n e) ∙ ap (λ z. ltb o.to n && (ltb (leader_of i) n && z)) (and_true (ltb (owner_of b) n)))
named n v from o (PrepareOk i b None) =
    ap (λ z. ltb from n && (ltb o.to n && z)) (after (ltb (leader_of i) n) _ _ (λ e. ap (λ z. ltb (owner_of b) n && (z && true)) e))
named n v from o (PrepareOk i b (Some x)) = refl
named n v from o (Nack i p q) =
    ap (λ z. ltb from n && (ltb o.to n && (ltb (leader_of i) n && (ltb (owner_of p) n && z)))) (and_true (ltb (owner_of q) n))

spelled_within : (n : ℕ) (v : Version) (b : List ℕ) (from : ℕ) (o : Origin) (m : Message) → Spells v b from o m → parts_within n (parts_at b) ≡ (ltb from n && (ltb o.to n && message_within n m))
spelled_within n v b from o m s =
    ap (λ (c : List ℕ). parts_within n (parts_at c)) s.is
    ∙ ap (parts_within n) (parts_again (parts_of v from o m) (sound v from o m s.version s.origin s.message s.sayable).fits)
    ∙ named n v from o m

pub within_is : (n : ℕ) (b : List ℕ) → IsBytes b → HasNoFault b → parts_within n (parts_at b) ≡ is_within n b
within_is n b fits e = spelled_within n (version_at b) b (sender_at b) (origin_at b) (message_at b) (frame_found b fits e)

-- the leader of the last one is the greatest

joined_by : (x y : Bool) → (y ≡ true → x ≡ true) → y ≡ (x && y)
joined_by true y h = refl
joined_by false true h = absurd (true≢false (sym (h refl)))
joined_by false false h = refl

same_leader : (r a b : ℕ) → a < 256 → b < 256 → leader_of (instance_of r (a * 256 + b)) ≡ r
same_leader r a b h k = omega (arith, h, k)

lower_leader : (i j n : ℕ) → i < j → ltb (leader_of j) n ≡ true → ltb (leader_of i) n ≡ true
lower_leader i j n h e = let lt = ltb-true (leader_of j) n e in lt-ltb (leader_of i) n (omega (arith, h, lt))

first_within : (n j : ℕ) (js : List ℕ) → are_within n (j ∷ js) ≡ true → ltb (leader_of j) n ≡ true
first_within n j js e = (and_parts (ltb (leader_of j) n) (are_within n js) e).0

rest_bytes : (r x y : ℕ) (b : List ℕ) → IsBytes (r ∷ x ∷ y ∷ b) → IsBytes b
rest_bytes r x y b fits i = fits (suc (suc (suc i)))

rest_deps : (r x y : ℕ) (b : List ℕ) → AreDepBytes (r ∷ x ∷ y ∷ b) → AreDepBytes b
rest_deps r x y b h = let w = h.whole in record { whole = omega (arith, w); deps = record { rising = h.deps.rising.1; instances = h.deps.instances.1 } }

pub last_within : (n : ℕ) (b : List ℕ) → IsBytes b → AreDepBytes b → 1 ≤ length b → ltb (number_at (length b - 3) 1 b) n ≡ are_within n (deps_in b)
unfolding number_at
last_within n [] fits h some = absurd (omega (arith, some))
last_within n (r ∷ []) fits h some = let w = h.whole in absurd (omega (arith, w))
last_within n (r ∷ x ∷ []) fits h some = let w = h.whole in absurd (omega (arith, w))
last_within n (r ∷ x ∷ y ∷ []) fits h some =
    let first : r * 1 + 0 ≡ r = omega arith in
    ap (λ (k : ℕ). ltb k n) (first ∙ sym (same_leader r x y (fits 1) (fits 2))) ∙ sym (and_true (ltb (leader_of (instance_of r (x * 256 + y))) n))
last_within n (r ∷ x ∷ y ∷ a ∷ []) fits h some = let w = h.whole in absurd (omega (arith, w))
last_within n (r ∷ x ∷ y ∷ a ∷ c ∷ []) fits h some = let w = h.whole in absurd (omega (arith, w))
last_within n (r ∷ x ∷ y ∷ a ∷ c ∷ d ∷ b) fits h some =
    let i = instance_of r (x * 256 + y) in let j = instance_of a (c * 256 + d) in
    let here : length (r ∷ x ∷ y ∷ a ∷ c ∷ d ∷ b) - 3 ≡ suc (suc (suc (length b))) = omega arith in
    let there : length (a ∷ c ∷ d ∷ b) - 3 ≡ length b = omega arith in
    let more = last_within n (a ∷ c ∷ d ∷ b) (rest_bytes r x y (a ∷ c ∷ d ∷ b) fits) (rest_deps r x y (a ∷ c ∷ d ∷ b) h) (omega arith) in
    ap (λ (k : ℕ). ltb (number_at k 1 (r ∷ x ∷ y ∷ a ∷ c ∷ d ∷ b)) n) here
    ∙ sym (ap (λ (k : ℕ). ltb (number_at k 1 (a ∷ c ∷ d ∷ b)) n) there)
    ∙ more
    ∙ joined_by (ltb (leader_of i) n) (are_within n (j ∷ deps_in b)) (λ e. lower_leader i j n h.deps.rising.0 (first_within n j (deps_in b) e))
