-- The test for interference decides the relation, which is symmetric.
use Rattle.std.proofs.Common.{◌≡◌, ℕ, ◌<◌, inl, inr, List, [], length, refl, sym, subst, Contains, arith}
use Rattle.std.proofs.lemmas.Bool.{false≢true}
use Rattle.std.specs.Prelude.{◌≢◌, ◌⊎◌, ◌&&◌, ◌||◌, not, IsTrue}
use Rattle.std.specs.Bool.{Decides}
use Rattle.std.specs.List.{HoldsAt}
use Rattle.std.proofs.lemmas.Bool.Decides.{Decides-like, Decides-and, Decides-or, Decides-not, Decides-by_or}
use Rattle.std.proofs.lemmas.List.Elements.{Decides-contains, Contains-get_or, at_from_Contains}
use Rattle.ep_base.specs.Commands.{Command, Noop, Get, Put, Del, Swap, Cas, Seal, Opaque, Tx}
use Rattle.ep_base.specs.Attributes.{same_list}
use Rattle.ep_base.specs.Interference.{keys_of, has_key, share_key, only_reads, is_seal, meet, meet_seal, interfere, Meets, MeetsSeal, Interferes, InterferenceLaw}
use Rattle.ep_base.specs.Sameness.{is_noop}
use Rattle.ep_base.proofs.Same.{Decides-same_list}

pub Decides-has_key : (k : List ℕ) (ls : List (List ℕ)) → Decides (has_key k ls) (Contains ls k)
Decides-has_key k ls =
    let one : (l : List ℕ) → Decides (same_list k l) (l ≡ k) = λ l. Decides-like (same_list k l) sym sym (Decides-same_list k l) in
    Decides-contains ls k (has_key k ls) (Decides-by_or (same_list k) (λ l. l ≡ k) (has_key k) one refl (λ _ _. refl) ls)

abbrev Both : List (List ℕ) → List (List ℕ) → Type 0
Both ks ls = (k : List ℕ) × Contains ks k × Contains ls k

shared_at : (ks ls : List (List ℕ)) → (i : ℕ) × (i < length ks) × HoldsAt (Contains ls) ks i → Both ks ls
shared_at ks ls h = (_, Contains-get_or ks h.0 [] h.1, h.2 [])

at_shared : (ks ls : List (List ℕ)) → Both ks ls → (i : ℕ) × (i < length ks) × HoldsAt (Contains ls) ks i
at_shared ks ls h = let at = at_from_Contains ks h.0 h.1 in (at.0, at.1, λ d. subst (Contains ls) (sym (at.2 d)) h.2)

Decides-share_key : (ks ls : List (List ℕ)) → Decides (share_key ks ls) (Both ks ls)
Decides-share_key ks ls =
    let by_recursion = Decides-by_or (λ k. has_key k ls) (Contains ls) (λ xs. share_key xs ls) (λ k. Decides-has_key k ls) refl (λ _ _. refl) ks in
    Decides-like (share_key ks ls) (shared_at ks ls) (at_shared ks ls) by_recursion

Decides-meet : (a b : Command) → Decides (meet a b) (Meets a b)
Decides-meet a b =
    let both_read = Decides-and (only_reads a) (only_reads b) (λ e. e, λ e. e) (λ e. e, λ e. e) in
    Decides-and (share_key (keys_of a) (keys_of b)) (not (only_reads a && only_reads b)) (Decides-share_key (keys_of a) (keys_of b)) (Decides-not (only_reads a && only_reads b) both_read)

Decides-meet_seal : (a b : Command) → Decides (meet_seal a b) (MeetsSeal a b)
Decides-meet_seal a b =
    let seals = Decides-or (is_seal a) (is_seal b) (λ e. e, λ e. e) (λ e. e, λ e. e) in
    let noops = Decides-or (is_noop a) (is_noop b) (λ e. e, λ e. e) (λ e. e, λ e. e) in
    Decides-and (is_seal a || is_seal b) (not (is_noop a || is_noop b)) seals (Decides-not (is_noop a || is_noop b) noops)

-- the test decides the relation
pub Decides-interfere : (a b : Command) → Decides (interfere a b) (Interferes a b)
Decides-interfere a b = Decides-or (meet a b) (meet_seal a b) (Decides-meet a b) (Decides-meet_seal a b)

pub turn : {A B : Type 0} → A ⊎ B → B ⊎ A
turn (inl a) = inr a
turn (inr b) = inl b

pub Interferes-symmetric : (a b : Command) → Interferes a b → Interferes b a
Interferes-symmetric a b (inl h) = inl ((h.0.0, h.0.2, h.0.1), λ gets. h.1 (gets.1, gets.0))
Interferes-symmetric a b (inr h) = inr (turn h.0, λ n. h.1 (turn n))

pub Interferes-noop : (a : Command) → ¬ Interferes Noop a
Interferes-noop a (inl h) = let in_none = h.0.1.1 in absurd (omega arith)
Interferes-noop a (inr h) = h.1 (inl refl)

noop_is : (a : Command) → IsTrue (is_noop a) → a ≡ Noop
noop_is Noop e = refl
noop_is (Get k) e = absurd (false≢true e)
noop_is (Put k v) e = absurd (false≢true e)
noop_is (Del k) e = absurd (false≢true e)
noop_is (Swap p) e = absurd (false≢true e)
noop_is (Cas k x n) e = absurd (false≢true e)
noop_is (Seal v) e = absurd (false≢true e)
noop_is (Opaque p b) e = absurd (false≢true e)
noop_is (Tx is) e = absurd (false≢true e)

pub Interferes-seal : (v : List ℕ) (a : Command) → a ≢ Noop → Interferes (Seal v) a
Interferes-seal v a n = inr (inl refl, λ h. elim h [ inl e ↦ false≢true e | inr e ↦ n (noop_is a e) ])

pub interference_law_holds : InterferenceLaw
interference_law_holds = record { symmetric = Interferes-symmetric; noop = Interferes-noop; seal = Interferes-seal }
