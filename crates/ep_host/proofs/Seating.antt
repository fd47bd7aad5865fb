-- The journals of a cluster are as many as its replicas, and start as the first one does.
use Rattle.std.proofs.Common.{◌≡◌, ℕ, List, [], ◌∷◌, arith, sym}
use Rattle.ep_base.specs.Quorums.{size}
use Rattle.ep_base.specs.declared.version.Version.{Version}
use Rattle.ep_journal.specs.Entries.{Log, AreInOrder, first_opening}
use Rattle.ep_journal.specs.Openings.{Opening}
use Rattle.ep_replica.specs.Kept.{first_version}

-- they are of the version of the first one, and have its opening
pub first_is : (v : Version) (o : Opening) (f : ℕ) (ls : List Log) → AreInOrder v o f 0 ls → (v ≡ first_version ls) × (o ≡ first_opening ls)
first_is v o f [] h = let e : 0 ≡ size f = h in absurd (omega arith)
first_is v o f (l ∷ ls) h = (sym h.0.version, sym h.0.opening)
