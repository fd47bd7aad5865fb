-- The nodes of one host, and what both ends of their rings say together.
use Rattle.std.specs.Prelude.{◌≡◌, ℕ, ◌+◌, ◌<◌, List, [], length, slice_index_or, Contains, All}
use mathlib.Core.List.{IsPrefix}
use Rattle.ep_base.specs.Quorums.{size}
use Rattle.ep_base.specs.declared.version.Version.{Version}
use Rattle.ep_frame.specs.Meaning.{sender_at, version_at}
use Rattle.ep_rules.specs.Journals.{AreClocked}
use Rattle.ep_journal.specs.Entries.{entries_of, IsJournal, frames_of}
use Rattle.ep_journal.specs.Openings.{Opening, OpensIn}
use Rattle.ep_replica.specs.Kept.{start_of}
use Rattle.rtrb.specs.Ring.{sent, received, known_free, producer_capacity, IsPair}
use Rattle.ep_host.specs.Node.{Node}
use Rattle.ep_host.specs.Pointwise.{Each}
use Rattle.ep_host.specs.Rings.{KeepsLink, ArePeers, IsBooked, place, frames_handled}
use Rattle.ep_host.specs.declared.link.Link.{Link}

-- the link of a to b and that of b to a have the two ends of the ring from a to b
abbrev pub Paired : Node → Node → Type 0
Paired a b = (d : Link) → IsPair (slice_index_or a.links (place a.replica.me b.replica.me) d).to (slice_index_or b.links (place b.replica.me a.replica.me) d).from

-- the nodes of one host, in order, where f may fail, of one version and with one opening: each has a link to each other one, and each two have both
-- ends of a ring each way
pub record IsHost (f : ℕ) (nodes : List Node) : Type 0 where
  pub count : length nodes ≡ size f
  pub faults : (i : ℕ) (d : Node) → i < length nodes → (slice_index_or nodes i d).replica.faults ≡ f
  pub me : (i : ℕ) (d : Node) → i < length nodes → (slice_index_or nodes i d).replica.me ≡ i
  pub start : (i : ℕ) (d : Node) → i < length nodes → start_of (slice_index_or nodes i d).replica ≡ start_of (slice_index_or nodes 0 d).replica
  pub links : (i : ℕ) (d : Node) → i < length nodes → length (slice_index_or nodes i d).links + 1 ≡ length nodes
  pub peers : (i : ℕ) (d : Node) → i < length nodes → ArePeers i (slice_index_or nodes i d).links
  pub paired : (i j : ℕ) (d : Node) → j < i → i < length nodes → Paired (slice_index_or nodes j d) (slice_index_or nodes i d) × Paired (slice_index_or nodes i d) (slice_index_or nodes j d)

-- of this version, and with this opening
abbrev pub StartsAs : Version → Opening → Node → Type 0
StartsAs v o n = start_of n.replica ≡ (v, o)

-- a link whose ring to the peer has room for so many frames, all of it free
pub record IsRoomy (capacity : ℕ) (l : Link) : Type 0 where
  pub room : producer_capacity l.to ≡ capacity
  pub free : known_free l.to ≡ capacity

-- without entries and tasks, each of its rings with room for so many frames
pub record IsFresh (capacity : ℕ) (n : Node) : Type 0 where
  pub rooms : All (IsRoomy capacity) n.links
  pub entries : n.replica.entries ≡ []
  pub agenda : n.agenda ≡ []
  pub refused : n.refused ≡ []
  pub used : n.used ≡ 0
  pub lost : n.lost ≡ 0

-- What looks at both ends say.

-- a look leaves what was put, taken, held and counted
pub record Quiet (a b : Link) : Type 0 where
  pub keeps : KeepsLink a b
  pub put : sent b.to ≡ sent a.to
  pub taken : received b.from ≡ received a.from
  pub held : b.held ≡ a.held
  pub count : b.count ≡ a.count

-- looks leave all but what the ends know of one another
pub record Looked (a b : Node) : Type 0 where
  pub is : b ≡ record a { links = b.links }
  pub links : Each Quiet a.links b.links

-- what b has taken from a is a beginning of what a has put for b
abbrev pub Begins : Node → Node → Type 0
Begins a b = (d : Link) → IsPrefix (received (slice_index_or b.links (place b.replica.me a.replica.me) d).from) (sent (slice_index_or a.links (place a.replica.me b.replica.me) d).to)

-- a node has a link to this peer at its place
abbrev pub HasLink : Node → ℕ → Type 0
HasLink a peer = (place a.replica.me peer < length a.links) × ((d : Link) → (slice_index_or a.links (place a.replica.me peer) d).peer ≡ peer)

-- the rings between two nodes, both ways
abbrev pub PairedBoth : Node → Node → Type 0
PairedBoth a b = Paired a b × Paired b a × HasLink a b.replica.me × HasLink b a.replica.me

abbrev pub BeginsBoth : Node → Node → Type 0
BeginsBoth a b = Begins a b × Begins b a

-- of each two nodes, what the one has taken from the other is a beginning of what that one has put
abbrev pub AllBegin : List Node → Type 0
AllBegin nodes = (i j : ℕ) (d : Node) → j < i → i < length nodes → BeginsBoth (slice_index_or nodes j d) (slice_index_or nodes i d)

-- what each node knows by itself
pub record Knows (n : Node) : Type 0 where
  pub booked : IsBooked n.replica.me n.replica.entries n.links
  pub opens : OpensIn n.replica.version n.replica.opening
  pub journal : IsJournal n.replica.version n.replica.opening n.replica.faults n.replica.me n.replica.entries
  pub clocked : AreClocked n.replica.opening.base_stamp (entries_of n.replica.entries)
  pub some : 0 < n.replica.faults

-- each frame that a node has handled is a frame out of a node's journal
abbrev pub AllSent : List Node → Type 0
AllSent nodes = (j : ℕ) (d : Node) (b : List ℕ) → j < length nodes → Contains (frames_handled (slice_index_or nodes j d).replica.entries) b
    → (i : ℕ) × (i < length nodes) × Contains (frames_of (slice_index_or nodes i d).replica.entries) b

-- each frame that a node has handled was taken from the ring of the node that it is from, and is a frame out of that node's journal
abbrev pub AllHandledFrom : List Node → Type 0
AllHandledFrom nodes = (j : ℕ) (d : Node) (e : Link) (b : List ℕ) → j < length nodes → Contains (frames_handled (slice_index_or nodes j d).replica.entries) b
    → (sender_at b < length nodes) × Contains (received (slice_index_or (slice_index_or nodes j d).links (place j (sender_at b)) e).from) b × Contains (frames_of (slice_index_or nodes (sender_at b) d).replica.entries) b

-- each frame that a node has taken from a ring, handled or refused, is of the node's own version
abbrev pub AllOfVersion : List Node → Type 0
AllOfVersion nodes = (j k : ℕ) (d : Node) (e : Link) (b : List ℕ) → j < length nodes → k < length (slice_index_or nodes j d).links → Contains (received (slice_index_or (slice_index_or nodes j d).links k e).from) b
    → version_at b ≡ (slice_index_or nodes j d).replica.version

abbrev pub AllFrom : List Node → Type 0
AllFrom nodes = AllHandledFrom nodes × AllOfVersion nodes
