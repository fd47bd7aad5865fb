-- A replica is seen as its journal: its version and opening, the cluster, its number, and its entries. What it knows is what this leaves.
use Rattle.std.specs.Prelude.{ℕ, List, [], ◌∷◌}
use Rattle.ep_base.specs.declared.version.Version.{Version}
use Rattle.ep_base.specs.declared.version_kind.VersionKind.TheVariants.{V2}
use Rattle.ep_journal.specs.Entries.{Log}
use Rattle.ep_journal.specs.Openings.{Opening, no_opening}

-- a replica of a cluster in which `faults` may fail
abbrev pub Kept : Type 0
Kept = Log

-- a replica of version 2, before any event
abbrev pub begun : ℕ → ℕ → Kept
begun f me = record { version = V2; faults = f; me = me; opening = no_opening; entries = [] }

-- what it starts as: its version, and what it opens with
abbrev pub start_of : Kept → Version × Opening
start_of k = (k.version, k.opening)

-- the version of the first of several; all replicas of a cluster have one
abbrev pub first_version : List Kept → Version
first_version [] = V2
first_version (k ∷ ks) = k.version
