-- The keys of recorded commands.
use Rattle.std.specs.Prelude.{◌≡◌, ℕ, Bool, true, List, [], ◌∷◌, ◌++◌, Option, Some, None, false}
use Rattle.std.specs.List.{AllByRecursion}
use Rattle.ep_base.specs.Interference.{has_key, share_key, keys_in}
use Rattle.ep_base.specs.Items.{item_keys, none_writes}
use Rattle.ep_base.specs.Commands.{Command, Noop, Get, Put, Del, Swap, Cas, Seal, Opaque, Tx}
use Rattle.ep_base.specs.declared.vote.Vote.{Vote}
use Rattle.ep_rules.specs.InterferenceSet.{votes_against, those, instances}
use Rattle.ep_rules.specs.Maps.{Map, get, entries}
use Rattle.ep_rules.specs.declared.record.Record.{Record}

-- what only reads a key stands apart from what writes it: under the key behind a mark
abbrev pub mark : Bool → ℕ
mark false = 0
mark true = 1

abbrev pub marked : ℕ → List (List ℕ) → List (List ℕ)
marked m [] = []
marked m (k ∷ ks) = (m ∷ k) ∷ marked m ks

-- the keys under which a command stands in the index: those that it names, each behind its mark; a seal stands under the empty one
abbrev pub index_keys : Command → List (List ℕ)
index_keys Noop = []
index_keys (Get key) = (1 ∷ key) ∷ []
index_keys (Put key value) = (0 ∷ key) ∷ []
index_keys (Del key) = (0 ∷ key) ∷ []
index_keys (Swap keys) = (0 ∷ keys.first) ∷ (0 ∷ keys.second) ∷ []
index_keys (Cas key expected new) = (0 ∷ key) ∷ []
index_keys (Seal value) = [] ∷ []
index_keys (Opaque p body) = marked (mark p.reads) (keys_in p)
index_keys (Tx items) = marked (mark (none_writes items)) (item_keys items)

-- the keys under which stands what interferes with a command of this key, beside seals: what writes it, and, unless the command only reads, what reads it
abbrev pub met_key : Bool → List ℕ → List (List ℕ)
met_key true k = (0 ∷ k) ∷ []
met_key false k = (0 ∷ k) ∷ (1 ∷ k) ∷ []

-- the same of a command of these keys
abbrev pub met_keys : Bool → List (List ℕ) → List (List ℕ)
met_keys reads [] = []
met_keys reads (k ∷ ks) = met_key reads k ++ met_keys reads ks

abbrev pub voted_keys : Option Vote → List (List ℕ)
voted_keys None = []
voted_keys (Some v) = index_keys v.decree.command

abbrev pub recorded_keys : Option Record → List (List ℕ)
recorded_keys None = []
recorded_keys (Some r) = voted_keys r.vote

-- the keys of i's recorded command, if it has one
abbrev pub keys_at : Map Record → ℕ → List (List ℕ)
keys_at m i = recorded_keys (get m i)

-- each key that a record of the keys `new` brings, where the one before had the keys `own`, is one of those that have room
abbrev pub HasRoom : List (List ℕ) → List (List ℕ) → List (List ℕ) → Type 0
HasRoom room own new = (k : List ℕ) → has_key k new ≡ true → has_key k own ≡ false → has_key k room ≡ true

-- the recorded command has the key k
abbrev pub names_key : List ℕ → ℕ × Record → Bool
names_key k e = has_key k (voted_keys e.1.vote)

-- the instances whose recorded command has the key k, in rising order
abbrev pub holders : List ℕ → Map Record → List ℕ
holders k m = instances (those (names_key k) (entries m))

-- the recorded command has one of the keys
abbrev pub names_one : List (List ℕ) → ℕ × Record → Bool
names_one ks e = share_key ks (voted_keys e.1.vote)

-- the instances whose recorded command has one of the keys, in rising order
abbrev pub holders_of : List (List ℕ) → Map Record → List ℕ
holders_of ks m = instances (those (names_one ks) (entries m))

-- the instances that have a record, in rising order
abbrev pub recorded : Map Record → List ℕ
recorded m = instances (entries m)

-- there is a record, and its command interferes with c
abbrev pub IsMet : Command → Option Record → Type 0
IsMet c None = ⊥
IsMet c (Some r) = votes_against c r.vote ≡ true

-- so are those recorded at these
abbrev pub AreMet : Command → Map Record → List ℕ → Type 0
AreMet c m is = AllByRecursion (λ i. IsMet c (get m i)) is
