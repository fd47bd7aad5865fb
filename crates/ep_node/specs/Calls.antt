-- What a node's calls do, as moves of a cluster whose nodes crash and come back.
use Rattle.std.specs.Prelude.{◌≡◌, ◌≢◌, ℕ, ◌<◌, ◌≤◌, List, [], length}
use Rattle.ep_base.specs.Quorums.{size}
use Rattle.ep_journal.specs.Entries.{entry_of, entries_of}
use Rattle.ep_journal.specs.Events.{event_of}
use Rattle.ep_journal.specs.declared.entry.Entry.{Entry}
use Rattle.ep_journal.specs.declared.event.Event.{Event as Happening}
use Rattle.ep_log.specs.Crashing.{AreFirst}
use Rattle.ep_replica.specs.Applied.{Applied}
use Rattle.ep_replica.specs.Kept.{Kept, begun}
use Rattle.ep_rules.specs.Journals.{IsAmong}
use Rattle.ep_node.specs.Crashes.{Cluster, fresh_cluster, Start, no_start, Move, Take, HandOut, ComeBack, mover, IsMove, moved}

-- what the replica opened with is what its cluster starts from
pub record StartsFrom (start : Start) (k : Kept) : Type 0 where
  pub map : k.opening.contents ≡ start.map
  pub base_stamp : k.opening.base_stamp ≡ start.base_stamp k.me

-- a node of the cluster has this replica, which opened with its start; the first n of its entries are on the disk, and nothing was handed out of the
-- others
pub record IsNode (start : Start) (f : ℕ) (c : Cluster) (k : Kept) (n : ℕ) : Type 0 where
  pub opening : StartsFrom start k
  pub faults : k.faults ≡ f
  pub member : k.me < size f
  pub journal : c.journal k.me ≡ entries_of k.entries
  pub out : c.out k.me ≤ n
  pub synced : n ≤ length k.entries

-- it is a move of the cluster, and leaves the node so
pub record Makes (start : Start) (f : ℕ) (c : Cluster) (m : Move) (k : Kept) (n : ℕ) : Type 0 where
  pub move : IsMove start f c m
  pub node : IsNode start f (moved c m) k n

-- What the calls of a node do are the moves of the laws on crashes.
pub record CallsAreMoves : Type 0 where
  -- a new node has no entries
  pub begins : (f me : ℕ) → me < size f → IsNode no_start f fresh_cluster (begun f me) 0
  -- so has one that opens with a start
  pub opens : (start : Start) (k : Kept) → StartsFrom start k → k.me < size k.faults → k.entries ≡ [] → IsNode start k.faults fresh_cluster k 0
  -- an event that was taken is a `Take` of its entry, if what it handles was handed out
  pub takes :
      (start : Start) (f n : ℕ) (c : Cluster) (k k' : Kept) (event : Happening) (e : Entry) → IsNode start f c k n → IsAmong c.given (event_of event) → Applied k event e k' →
      Makes start f c (Take k.me (entry_of e)) k' n
  -- after a sync, which is no move, more of its entries are on the disk, or all
  pub syncs : (start : Start) (f n m : ℕ) (c : Cluster) (k : Kept) → IsNode start f c k n → n ≤ m → m ≤ length k.entries → IsNode start f c k m
  -- to lend a replica of just the entries that are on the disk, or to report on it, is a `HandOut` of these, whatever was taken since
  pub lends : (start : Start) (f n : ℕ) (c : Cluster) (k : Kept) → IsNode start f c k n → Makes start f c (HandOut k.me n) k n
  -- a crash is a `ComeBack` with the entries that the node is opened with: the first ones, with all that were on the disk
  pub comes_back :
      (start : Start) (f n : ℕ) (c : Cluster) (k : Kept) (es : List Entry) → IsNode start f c k n → AreFirst n k.entries es →
      Makes start f c (ComeBack k.me (length es)) (record k { entries = es }) (length es)
  -- what others do changes nothing of a node
  pub others : (start : Start) (f n : ℕ) (c : Cluster) (k : Kept) (m : Move) → IsNode start f c k n → mover m ≢ k.me → IsNode start f (moved c m) k n
