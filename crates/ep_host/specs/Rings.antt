-- The ends of a node's rings, and their account against its journal.
use Rattle.std.specs.Prelude.{◌≡◌, ℕ, ◌+◌, ◌-◌, ◌<◌, ltb, cond, List, [], ◌∷◌, ◌++◌, All, Any, Contains, length, slice_index_or, slice_set, Option, option_to_list, IfSome}
use Rattle.ep_frame.specs.Meaning.{origin_at}
use Rattle.ep_journal.specs.declared.entry.Entry.{Entry}
use Rattle.ep_journal.specs.declared.event.Event.{Event}
use Rattle.ep_journal.specs.declared.event.Event.TheVariants.{Propose, Handle, GiveUp, Recover, Execute}
use Rattle.ep_journal.specs.Entries.{frames_of}
use Rattle.rtrb.specs.Ring.{sent, received, SameProducer, SameConsumer}
use Rattle.ep_host.specs.HostFrames.{IsHostFrame}
use Rattle.ep_host.specs.declared.link.Link.{Link}

-- where a node keeps its link to a peer: the links are in order of the other nodes' numbers
abbrev pub place : ℕ → ℕ → ℕ
place me peer = cond (ltb peer me) peer (peer - 1)

-- the node to which the link at a place goes
abbrev pub peer_at : ℕ → ℕ → ℕ
peer_at me k = cond (ltb k me) k (k + 1)

-- each link is at its place
abbrev pub ArePeers : ℕ → List Link → Type 0
ArePeers me links = (k : ℕ) (d : Link) → k < length links → (slice_index_or links k d).peer ≡ peer_at me k

-- the same ends of the same rings
pub record KeepsLink (a b : Link) : Type 0 where
  pub peer : b.peer ≡ a.peer
  pub to : SameProducer a.to b.to
  pub from : SameConsumer a.from b.from

-- the frame, or none, was taken from the ring at a place, and no other link changed
pub record PopsAt (place : ℕ) (frame : Option (List ℕ)) (xs ys : List Link) : Type 0 where
  pub link : Link
  pub versioned : IfSome frame IsHostFrame
  pub is : ys ≡ slice_set xs place link
  pub keeps : (d : Link) → KeepsLink (slice_index_or xs place d) link
  pub put : (d : Link) → sent link.to ≡ sent (slice_index_or xs place d).to
  pub taken : (d : Link) → received link.from ≡ received (slice_index_or xs place d).from ++ option_to_list frame
  pub held : (d : Link) → link.held ≡ (slice_index_or xs place d).held
  pub count : (d : Link) → link.count ≡ (slice_index_or xs place d).count

-- The account.

-- the frame that an event handles
abbrev pub handled_by : Event → List (List ℕ)
handled_by (Propose client request command seen spared) = []
handled_by (Handle b) = b ∷ []
handled_by (GiveUp i) = []
handled_by (Recover i) = []
handled_by (Execute i) = []

-- the frames that entries handle, in order
abbrev pub frames_handled : List Entry → List (List ℕ)
frames_handled [] = []
frames_handled (e ∷ es) = handled_by e.event ++ frames_handled es

-- the frame is one out of an entry, to this peer
abbrev pub IsOut : List Entry → ℕ → List ℕ → Type 0
IsOut es peer b = Contains (frames_of es) b × ((origin_at b).to ≡ peer)

-- the frame was taken from one of the rings
abbrev pub IsTaken : List Link → List ℕ → Type 0
IsTaken links b = Any (λ (l : Link). Contains (received l.from) b) links

-- each frame that was put, or is held, is one out of an entry of the journal, to that peer; each frame that was handled was taken from one of the rings
pub record IsBooked (me : ℕ) (es : List Entry) (links : List Link) : Type 0 where
  pub peers : ArePeers me links
  pub put : All (λ (l : Link). All (IsOut es l.peer) (sent l.to)) links
  pub held : All (λ (l : Link). All (IsOut es l.peer) l.held) links
  pub taken : All (IsTaken links) (frames_handled es)

-- a link to the next peer, through which nothing went, and which holds nothing
pub record IsFreshLink (me : ℕ) (links : List Link) (l : Link) : Type 0 where
  pub peer : l.peer ≡ peer_at me (length links)
  pub put : sent l.to ≡ []
  pub held : l.held ≡ []
