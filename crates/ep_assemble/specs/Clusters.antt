-- Which journals are those of one cluster, in any order, what is collected of them, and the first fault of those that aren't.
use Rattle.std.specs.Prelude.{◌≡◌, ◌<◌, ◌≤◌, ℕ, List, [], Some, All, length, take, eqb, slice_get}
use Rattle.std.specs.List.{count_by}
use Rattle.ep_base.specs.Quorums.{size}
use Rattle.ep_base.specs.declared.version.Version.{Version}
use Rattle.ep_journal.specs.Entries.{Log, Collected, IsOf, entries_at}
use Rattle.ep_journal.specs.Openings.{Opening}
use Rattle.ep_assemble.specs.declared.collect_fault.CollectFault.{CollectFault}
use Rattle.ep_assemble.specs.declared.collect_fault.CollectFault.TheVariants.{NoJournal, OtherCluster, Twice, Missing}

-- how many of the journals are the replica's
abbrev pub count_of : ℕ → List Log → ℕ
count_of r ls = count_by (λ l. eqb l.me r) ls

-- the journal is that of a replica of the cluster, of version v and with this opening, whose f replicas may fail
pub record IsMember (v : Version) (o : Opening) (f : ℕ) (l : Log) : Type 0 where
  pub below : l.me < size f
  pub of : IsOf v o f l.me l

-- they are the cluster's, one for each replica, in any order
pub record AreOfOne (v : Version) (o : Opening) (f : ℕ) (ls : List Log) : Type 0 where
  pub members : All (IsMember v o f) ls
  pub once : (r : ℕ) → r < size f → count_of r ls ≡ 1

-- they are those of one cluster, and each journal's entries are those of its replica
pub record Collects (ls : List Log) (c : Collected) : Type 0 where
  pub all : AreOfOne c.version c.opening c.faults ls
  pub entries : All (λ l. entries_at c l.me ≡ l.entries) ls

-- the journal at the place is the first that isn't one of the cluster's
pub record IsOther (place : ℕ) (v : Version) (o : Opening) (f : ℕ) (ls : List Log) : Type 0 where
  pub other : Log
  pub stands : slice_get ls place ≡ Some other
  pub differs : IsMember v o f other → ⊥
  pub before : All (IsMember v o f) (take place ls)

-- as the first journal says which cluster it is
pub record IsOfAnother (place : ℕ) (ls : List Log) : Type 0 where
  pub first : Log
  pub stands : slice_get ls 0 ≡ Some first
  pub other : IsOther place first.version first.opening first.faults ls

-- r is one of the replicas, and each below it has one journal
pub record IsReached (f r : ℕ) (ls : List Log) : Type 0 where
  pub below : r < size f
  pub before : (k : ℕ) → k < r → count_of k ls ≡ 1

-- the first replica that has more than one, or none
abbrev pub IsMiscounted : CollectFault → ℕ → List Log → Type 0
IsMiscounted NoJournal f ls = ⊥
IsMiscounted (OtherCluster place) f ls = ⊥
IsMiscounted (Twice r) f ls = IsReached f r ls × (2 ≤ count_of r ls)
IsMiscounted (Missing r) f ls = IsReached f r ls × (count_of r ls ≡ 0)

-- all are of one cluster, and this is the first replica that hasn't just one
pub record IsIncomplete (fault : CollectFault) (ls : List Log) : Type 0 where
  pub version : Version
  pub opening : Opening
  pub faults : ℕ
  pub members : All (IsMember version opening faults) ls
  pub miscounted : IsMiscounted fault faults ls

-- the first fault
abbrev pub IsRefused : CollectFault → List Log → Type 0
IsRefused NoJournal ls = ls ≡ []
IsRefused (OtherCluster place) ls = IsOfAnother place ls
IsRefused (Twice r) ls = IsIncomplete (Twice r) ls
IsRefused (Missing r) ls = IsIncomplete (Missing r) ls

-- the replica has more than one journal, or none
abbrev pub IsNotOne : CollectFault → ℕ → List Log → Type 0
IsNotOne NoJournal k ls = ⊥
IsNotOne (OtherCluster place) k ls = ⊥
IsNotOne (Twice r) k ls = (r ≡ k) × (2 ≤ count_of r ls)
IsNotOne (Missing r) k ls = (r ≡ k) × (count_of r ls ≡ 0)

-- there are n journals, each of which is that of the replica of its place, and perhaps others after them
pub record AreInPlace (n : ℕ) (ls : List Log) : Type 0 where
  pub long : n ≤ length ls
  pub each : (k : ℕ) (l : Log) → k < n → slice_get ls k ≡ Some l → l.me ≡ k

-- the journal at the place is the replica's
pub record IsAt (r place : ℕ) (ls : List Log) : Type 0 where
  pub journal : Log
  pub stands : slice_get ls place ≡ Some journal
  pub of : journal.me ≡ r
