-- How a bundle begins.
use Rattle.std.specs.Prelude.{◌≡◌, ℕ, List, length, min, take, codes}

abbrev pub magic : List ℕ
magic = codes "EPJB"

-- the bytes are the magic, as far as there are both
abbrev pub MayBegin : List ℕ → Type 0
MayBegin bytes = take (min (length bytes) 4) bytes ≡ take (min (length bytes) 4) magic

-- the first four of them are the magic
abbrev pub HasMagic : List ℕ → Type 0
HasMagic bytes = take 4 bytes ≡ magic
