-- Which commands interfere (EPaxos, section 4.1): those whose order matters.
use Rattle.std.specs.Prelude.{◌≡◌, ◌≢◌, ◌⊎◌, ◌↔◌, ℕ, List, [], ◌∷◌, Option, Some, None, Bool, true, false, not, ◌&&◌, ◌||◌, IsTrue, Contains, length, ltb}
use Rattle.ep_base.specs.Commands.{Command, Noop, Get, Put, Del, Swap, Cas, Seal, Opaque, Tx}
use Rattle.ep_base.specs.Attributes.{same_list}
use Rattle.ep_base.specs.Items.{item_keys, none_writes}
use Rattle.ep_base.specs.Sameness.{is_noop}
use Rattle.ep_base.specs.Touched.{Touched}

-- the key, where there is one
abbrev pub listed : Option (List ℕ) → List (List ℕ)
listed None = []
listed (Some k) = k ∷ []

-- the keys of a footprint
abbrev pub keys_in : Touched → List (List ℕ)
keys_in p = p.first ∷ listed p.second

-- the keys that the command names; a seal names none
abbrev pub keys_of : Command → List (List ℕ)
keys_of Noop = []
keys_of (Get key) = key ∷ []
keys_of (Put key value) = key ∷ []
keys_of (Del key) = key ∷ []
keys_of (Swap keys) = keys.first ∷ keys.second ∷ []
keys_of (Cas key expected new) = key ∷ []
keys_of (Seal value) = []
keys_of (Opaque p body) = keys_in p
keys_of (Tx items) = item_keys items

-- the first of them, where they are at most two
abbrev pub key_of : Command → Option (List ℕ)
key_of Noop = None
key_of (Get key) = Some key
key_of (Put key value) = Some key
key_of (Del key) = Some key
key_of (Swap keys) = Some keys.first
key_of (Cas key expected new) = Some key
key_of (Seal value) = None
key_of (Opaque p body) = Some p.first
key_of (Tx items) = None

-- the second of them
abbrev pub second_key_of : Command → Option (List ℕ)
second_key_of Noop = None
second_key_of (Get key) = None
second_key_of (Put key value) = None
second_key_of (Del key) = None
second_key_of (Swap keys) = Some keys.second
second_key_of (Cas key expected new) = None
second_key_of (Seal value) = None
second_key_of (Opaque p body) = p.second
second_key_of (Tx items) = None

-- a get only reads, and so does a machine's command that says so, and one over many keys of which none is written
abbrev pub only_reads : Command → Bool
only_reads Noop = false
only_reads (Get key) = true
only_reads (Put key value) = false
only_reads (Del key) = false
only_reads (Swap keys) = false
only_reads (Cas key expected new) = false
only_reads (Seal value) = false
only_reads (Opaque p body) = p.reads
only_reads (Tx items) = none_writes items

abbrev pub is_swap : Command → Bool
is_swap Noop = false
is_swap (Get key) = false
is_swap (Put key value) = false
is_swap (Del key) = false
is_swap (Swap keys) = true
is_swap (Cas key expected new) = false
is_swap (Seal value) = false
is_swap (Opaque p body) = false
is_swap (Tx items) = false

abbrev pub is_seal : Command → Bool
is_seal Noop = false
is_seal (Get key) = false
is_seal (Put key value) = false
is_seal (Del key) = false
is_seal (Swap keys) = false
is_seal (Cas key expected new) = false
is_seal (Seal value) = true
is_seal (Opaque p body) = false
is_seal (Tx items) = false

-- it is over many keys
abbrev pub is_many : Command → Bool
is_many Noop = false
is_many (Get key) = false
is_many (Put key value) = false
is_many (Del key) = false
is_many (Swap keys) = false
is_many (Cas key expected new) = false
is_many (Seal value) = false
is_many (Opaque p body) = false
is_many (Tx items) = true

-- what neither version 1 nor version 2 has: compare-and-set, seals, commands of machines outside, and commands over many keys
abbrev pub is_late : Command → Bool
is_late Noop = false
is_late (Get key) = false
is_late (Put key value) = false
is_late (Del key) = false
is_late (Swap keys) = false
is_late (Cas key expected new) = true
is_late (Seal value) = true
is_late (Opaque p body) = true
is_late (Tx items) = true

-- nor have they values of more than 1,024 bytes
abbrev pub is_long : Command → Bool
is_long Noop = false
is_long (Get key) = false
is_long (Put key value) = ltb 1024 (length value)
is_long (Del key) = false
is_long (Swap keys) = false
is_long (Cas key expected new) = false
is_long (Seal value) = false
is_long (Opaque p body) = false
is_long (Tx items) = false

abbrev pub has_key : List ℕ → List (List ℕ) → Bool
has_key k [] = false
has_key k (l ∷ ls) = same_list k l || has_key k ls

abbrev pub share_key : List (List ℕ) → List (List ℕ) → Bool
share_key [] ls = false
share_key (k ∷ ks) ls = has_key k ls || share_key ks ls

-- they name a key in common, and do not both only read
abbrev pub meet : Command → Command → Bool
meet a b = share_key (keys_of a) (keys_of b) && not (only_reads a && only_reads b)

-- one of them is a seal, and neither a no-op
abbrev pub meet_seal : Command → Command → Bool
meet_seal a b = (is_seal a || is_seal b) && not (is_noop a || is_noop b)

-- they name a key in common and do not both only read, or one of them is a seal and neither a no-op
abbrev pub interfere : Command → Command → Bool
interfere a b = meet a b || meet_seal a b

-- a key that both name
abbrev pub SharesKey : Command → Command → Type 0
SharesKey a b = (k : List ℕ) × Contains (keys_of a) k × Contains (keys_of b) k

abbrev pub Meets : Command → Command → Type 0
Meets a b = SharesKey a b × ¬ (IsTrue (only_reads a) × IsTrue (only_reads b))

abbrev pub MeetsSeal : Command → Command → Type 0
MeetsSeal a b = (IsTrue (is_seal a) ⊎ IsTrue (is_seal b)) × ¬ (IsTrue (is_noop a) ⊎ IsTrue (is_noop b))

-- the order of the two matters
abbrev pub Interferes : Command → Command → Type 0
Interferes a b = Meets a b ⊎ MeetsSeal a b

-- interference is symmetric; a no-op interferes with nothing, itself included, and a seal with everything else, itself included
pub record InterferenceLaw : Type 0 where
  pub symmetric : (a b : Command) → Interferes a b → Interferes b a
  pub noop : (a : Command) → ¬ Interferes Noop a
  pub seal : (value : List ℕ) (a : Command) → a ≢ Noop → Interferes (Seal value) a

-- the footprint has the key
abbrev pub Touches : Touched → List ℕ → Type 0
Touches p k = (p.first ≡ k) ⊎ (p.second ≡ Some k)

-- What interferes with a command of a machine outside, by its footprint alone.
pub record FootprintLaw : Type 0 where
  -- another one, exactly where they have a key in common and don't both only read
  pub others : (p q : Touched) (body text : List ℕ) → Interferes (Opaque p body) (Opaque q text) ↔ (((k : List ℕ) × Touches p k × Touches q k) × ¬ (IsTrue p.reads × IsTrue q.reads))
  -- a get of a key of its, where it doesn't only read
  pub gets : (p : Touched) (body key : List ℕ) → Interferes (Opaque p body) (Get key) ↔ (Touches p key × ¬ IsTrue p.reads)
  -- a put to a key of its
  pub puts : (p : Touched) (body key value : List ℕ) → Interferes (Opaque p body) (Put key value) ↔ Touches p key
  -- and no two commands interfere that only read
  pub readers : (a b : Command) → IsTrue (only_reads a) → IsTrue (only_reads b) → ¬ Interferes a b
