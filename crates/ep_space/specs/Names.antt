-- The names of commands in the index, as code has them.
use Rattle.std.specs.Prelude.{◌≡◌, ◌≢◌, ℕ, List, [], ◌∷◌, true, false}
use Rattle.ep_base.specs.Interference.{has_key, is_many}
use Rattle.ep_space.specs.Keys.{index_keys}
use Rattle.ep_space.specs.declared.names.Name.{Name}
use Rattle.ep_space.specs.declared.names.Name.TheVariants as name
use Rattle.ep_space.specs.declared.names.Names.{Names}
use Rattle.ep_space.specs.declared.names.Names.TheVariants as names

abbrev pub named : Name → List ℕ
named name.Seals = []
named (name.Writes k) = 0 ∷ k.now
named (name.Reads k) = 1 ∷ k.now

abbrev pub all_named : Names → List (List ℕ)
all_named names.Nothing = []
all_named (names.One n) = named n ∷ []
all_named (names.Two n m) = named n ∷ named m ∷ []
all_named (names.Many c) = index_keys c.now

-- none of the keys stands twice
abbrev pub AreOnce : List (List ℕ) → Type 0
AreOnce [] = Unit {0}
AreOnce (k ∷ ks) = (has_key k ks ≡ false) × AreOnce ks

-- of two names, that they differ; of many, that none stands twice
abbrev pub AreApart : Names → Type 0
AreApart names.Nothing = Unit {0}
AreApart (names.One n) = Unit {0}
AreApart (names.Two n m) = named n ≢ named m
AreApart (names.Many c) = AreOnce (index_keys c.now)

-- of many, that they are those of a command over many keys
abbrev pub AreMany : Names → Type 0
AreMany names.Nothing = Unit {0}
AreMany (names.One n) = Unit {0}
AreMany (names.Two n m) = Unit {0}
AreMany (names.Many c) = is_many c.now ≡ true
