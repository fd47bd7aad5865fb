-- The frames of one message to several replicas.
use Rattle.std.specs.Prelude.{ℕ, suc, List, [], ◌∷◌}
use Rattle.ep_base.specs.declared.message.Message.{Message}
use Rattle.ep_base.specs.declared.version.Version.{Version}
use Rattle.ep_frame.specs.Origins.{readdressed, OriginFits}
use Rattle.ep_frame.specs.Spelling.{Spells}

-- these bytes are the version's frames of the message from this sender, one to each of these receivers, in order: those of entry n with this stamp, counted from k
abbrev pub AreFramesTo : Version → ℕ → Message → ℕ → ℕ → ℕ → List ℕ → List (List ℕ) → Type 0
AreFramesTo v from m n stamp k [] [] = Unit {0}
AreFramesTo v from m n stamp k [] (b ∷ bs) = ⊥
AreFramesTo v from m n stamp k (r ∷ rs) [] = ⊥
AreFramesTo v from m n stamp k (r ∷ rs) (b ∷ bs) = Spells v b from (record { to = r; out = k; entry = n; stamp = stamp }) m × AreFramesTo v from m n stamp (suc k) rs bs

-- a frame once for each receiver, with its origin
abbrev pub readdressed_to : List ℕ → ℕ → ℕ → ℕ → List ℕ → List (List ℕ)
readdressed_to b n stamp k [] = []
readdressed_to b n stamp k (r ∷ rs) = readdressed b (record { to = r; out = k; entry = n; stamp = stamp }) ∷ readdressed_to b n stamp (suc k) rs

-- these origins are in range
abbrev pub OriginsFit : ℕ → ℕ → ℕ → List ℕ → Type 0
OriginsFit n stamp k [] = Unit {0}
OriginsFit n stamp k (r ∷ rs) = OriginFits (record { to = r; out = k; entry = n; stamp = stamp }) × OriginsFit n stamp (suc k) rs
