-- What the calls of nodes do through generations, as moves of a life.
--
-- A life counts its generations from 0. In versions and files the first one has the number `first`.
use Rattle.std.specs.Prelude.{◌≡◌, ◌≢◌, ℕ, suc, ◌+◌, ◌<◌, ◌≤◌, true, false, List, [], length, take}
use Rattle.ep_base.specs.Quorums.{size}
use Rattle.ep_base.specs.declared.version_kind.VersionKind.TheVariants.{V3}
use Rattle.ep_frame.specs.Meaning.{version_at}
use Rattle.ep_journal.specs.Entries.{entry_of, IsEntryIn}
use Rattle.ep_journal.specs.Events.{frame_at}
use Rattle.ep_journal.specs.declared.entry.Entry.{Entry}
use Rattle.ep_journal.specs.declared.event.Event.{Event as Happening}
use Rattle.ep_journal.specs.declared.event.Event.TheVariants.{Propose, Handle, GiveUp, Recover, Execute}
use Rattle.ep_log.specs.Crashing.{AreFirst}
use Rattle.ep_opening.specs.Closing.{IsClosing}
use Rattle.ep_opening.specs.Files.{File}
use Rattle.ep_replica.specs.Applied.{Applied}
use Rattle.ep_replica.specs.Kept.{Kept}
use Rattle.ep_rules.specs.OneMap.{is_closed}
use Rattle.ep_rules.specs.Worlds.{In}
use Rattle.ep_node.specs.Calls.{StartsFrom, IsNode}
use Rattle.ep_node.specs.CrashLives.{Generations, newborn, start_of, store_out, HasSealed, LifeMove, Within, OpensNext, IsLifeMove, after_move, AreLifeMoves, life_after, stand_on, IsLifeInRealTime, AreOpen, AreChained}
use Rattle.ep_node.specs.Crashes.{Start, Take, HandOut, ComeBack, mover, standing}

-- the generations are what moves of a life leave
pub record HasLived (start : Start) (f : ℕ → ℕ) (l : Generations) : Type 0 where
  pub moves : List LifeMove
  pub are : AreLifeMoves f (newborn start) moves
  pub leave : life_after f (newborn start) moves ≡ l

-- a node of the generation has this replica, which has opened it; the first n of its entries are on the disk, and nothing was handed out of the
-- others
pub record IsNodeIn (first : ℕ) (f : ℕ → ℕ) (l : Generations) (g : ℕ) (k : Kept) (n : ℕ) : Type 0 where
  pub version : k.version ≡ V3 (first + g)
  pub has_opened : l.has_opened g k.me ≡ true
  pub node : IsNode (start_of l g k.me) (f g) (l.cluster g) k n

-- it is a move of the life, and leaves the node so
pub record MakesIn (first : ℕ) (f : ℕ → ℕ) (l : Generations) (m : LifeMove) (g : ℕ) (k : Kept) (n : ℕ) : Type 0 where
  pub move : IsLifeMove f l m
  pub node : IsNodeIn first f (after_move f l m) g k n

-- Files.

-- replica q of the generation has handed out of entries that closed the map, this file of the next generation has that map, and its stamp isn't below that
-- of an entry that executed a seal
pub record HasHandedOn (first : ℕ) (f : ℕ → ℕ) (l : Generations) (g q : ℕ) (file : File) : Type 0 where
  pub generation : file.generation ≡ first + suc g
  pub faults : file.faults ≡ f (suc g)
  pub has_opened : l.has_opened g q ≡ true
  pub closed : is_closed (store_out f l g q) ≡ true
  pub map : (store_out f l g q).contents ≡ file.opening.contents
  pub sealed : HasSealed f l g q file.opening.base_stamp

-- the replica, which has no entries, opened with the file
pub record OpensWith (file : File) (k : Kept) : Type 0 where
  pub version : k.version ≡ V3 file.generation
  pub faults : k.faults ≡ file.faults
  pub opening : k.opening ≡ file.opening
  pub entries : k.entries ≡ []
  pub member : k.me < size k.faults

-- Frames.

-- the frame that is handled, if it is one, was handed out in the generation that it names
abbrev pub WasHandedOut : ℕ → Generations → Happening → Type 0
WasHandedOut first l (Propose client request command seen named) = Unit {0}
WasHandedOut first l (Handle b) = (h : ℕ) × (version_at b ≡ V3 (first + h)) × In (frame_at b) (l.cluster h).given
WasHandedOut first l (GiveUp i) = Unit {0}
WasHandedOut first l (Recover i) = Unit {0}
WasHandedOut first l (Execute i) = Unit {0}

-- Others.

-- it is no move of the replica in the generation
abbrev pub IsElsewhere : ℕ → ℕ → LifeMove → Type 0
IsElsewhere g r (Within h m) = h ≡ g → mover m ≢ r
IsElsewhere g r (OpensNext h p q base_stamp) = Unit {0}

-- What the calls of nodes do, through generations, are the moves of the law on lives.
pub record LifeCallsAreMoves : Type 0 where
  -- A life begins, and goes on by each move. So what calls do, one after the other, are the moves of one life, of which the laws on lives speak.
  pub born : (start : Start) (f : ℕ → ℕ) → HasLived start f (newborn start)
  pub lives_on : (start : Start) (f : ℕ → ℕ) (l : Generations) (m : LifeMove) → HasLived start f l → IsLifeMove f l m → HasLived start f (after_move f l m)
  pub is_life :
      (start : Start) (f : ℕ → ℕ) (l : Generations) → ((g : ℕ) → (0 < f g) × (size (f g) ≤ 256)) → (h : HasLived start f l) → IsLifeInRealTime start f l (standing stand_on [] h.moves)
  pub is_chain :
      (start : Start) (f : ℕ → ℕ) (l : Generations) → ((g : ℕ) → (0 < f g) × (size (f g) ≤ 256)) → (h : HasLived start f l) → (n : ℕ) → AreOpen l n → AreChained start f l (standing stand_on [] h.moves) n
  -- a new node of the first generation has no entries
  pub begins :
      (start : Start) (first : ℕ) (f : ℕ → ℕ) (k : Kept) → StartsFrom start k → k.version ≡ V3 first → k.faults ≡ f 0 → k.me < size k.faults → k.entries ≡ [] →
      IsNodeIn first f (newborn start) 0 k 0
  -- an event that was taken is a `Take` of its entry, if what it handles was handed out, in whatever generation: no node takes a frame of another one
  pub takes :
      (first : ℕ) (f : ℕ → ℕ) (l : Generations) (g n : ℕ) (k k' : Kept) (event : Happening) (e : Entry) → IsNodeIn first f l g k n → WasHandedOut first l event →
      Applied k event e k' → MakesIn first f l (Within g (Take k.me (entry_of e))) g k' n
  -- after a sync, which is no move, more of its entries are on the disk, or all
  pub syncs : (first : ℕ) (f : ℕ → ℕ) (l : Generations) (g n m : ℕ) (k : Kept) → IsNodeIn first f l g k n → n ≤ m → m ≤ length k.entries → IsNodeIn first f l g k m
  -- to lend a replica of just the entries that are on the disk, or to report on it, is a `HandOut` of these, whatever was taken since
  pub lends : (first : ℕ) (f : ℕ → ℕ) (l : Generations) (g n : ℕ) (k : Kept) → IsNodeIn first f l g k n → MakesIn first f l (Within g (HandOut k.me n)) g k n
  -- each frame of each of these was handed out, and stays so, whatever comes
  pub sends :
      (start : Start) (first : ℕ) (f : ℕ → ℕ) (l : Generations) (g n : ℕ) (k : Kept) (e : Entry) (b : List ℕ) → HasLived start f l → IsNodeIn first f l g k n →
      In e (take n k.entries) → IsEntryIn k.version e → In b e.frames → WasHandedOut first (after_move f l (Within g (HandOut k.me n))) (Handle b)
  pub stays_out : (first : ℕ) (f : ℕ → ℕ) (l : Generations) (m : LifeMove) (event : Happening) → WasHandedOut first l event → IsLifeMove f l m → WasHandedOut first (after_move f l m) event
  -- a crash is a `ComeBack` with the entries that the node is opened with: the first ones, with all that were on the disk
  pub comes_back :
      (first : ℕ) (f : ℕ → ℕ) (l : Generations) (g n : ℕ) (k : Kept) (es : List Entry) → IsNodeIn first f l g k n → AreFirst n k.entries es →
      MakesIn first f l (Within g (ComeBack k.me (length es))) g (record k { entries = es }) (length es)
  -- to close, with all entries on the disk and for the size that the next generation has, is such a `HandOut` too: of a file that has then been handed on
  pub closes :
      (start : Start) (first : ℕ) (f : ℕ → ℕ) (l : Generations) (g : ℕ) (k : Kept) (file : File) → HasLived start f l → IsNodeIn first f l g k (length k.entries) → IsClosing k (f (suc g)) file →
      MakesIn first f l (Within g (HandOut k.me (length k.entries))) g k (length k.entries)
      × HasHandedOn first f (after_move f l (Within g (HandOut k.me (length k.entries)))) g k.me file
  -- it stays so, whatever comes: the node that handed it on may crash, lag behind, open the next generation or lose its disk
  pub stays : (first : ℕ) (f : ℕ → ℕ) (l : Generations) (g q : ℕ) (file : File) (m : LifeMove) → HasHandedOn first f l g q file → IsLifeMove f l m → HasHandedOn first f (after_move f l m) g q file
  -- whoever hasn't opened the next generation may open it with such a file, which is an `OpensNext`
  pub opens :
      (start : Start) (first : ℕ) (f : ℕ → ℕ) (l : Generations) (g q : ℕ) (file : File) (k : Kept) → HasLived start f l → HasHandedOn first f l g q file → OpensWith file k →
      l.has_opened (suc g) k.me ≡ false → MakesIn first f l (OpensNext g k.me q file.opening.base_stamp) (suc g) k 0
  -- what others do, and what the replica itself does in other generations, changes nothing of a node
  pub others :
      (first : ℕ) (f : ℕ → ℕ) (l : Generations) (g n : ℕ) (k : Kept) (m : LifeMove) → IsNodeIn first f l g k n → IsLifeMove f l m → IsElsewhere g k.me m → IsNodeIn first f (after_move f l m) g k n
