-- What is looked up in journals, by places.
use Rattle.std.specs.Prelude.{ℕ, zero, suc, Bool, true, false, ◌&&◌, cond, eqb, List, [], ◌∷◌, Option, Some, None, slice_get}
use Rattle.ep_base.specs.Sameness.{same_answer}
use Rattle.ep_base.specs.declared.reply.Answer.{Answer}
use Rattle.ep_frame.specs.Meaning.{sender_at, origin_at}
use Rattle.ep_journal.specs.Entries.{Collected, entries_at, frame_in}
use Rattle.ep_journal.specs.declared.entry.Entry.{Entry}
use Rattle.ep_journal.specs.declared.event.Event.{Event}
use Rattle.ep_journal.specs.declared.event.Event.TheVariants.{Propose, Handle, GiveUp, Recover, Execute}
use Rattle.ep_journal.specs.Events.{first_named}

-- the entry of this number, from 1
abbrev pub entry_at : List Entry → ℕ → Option Entry
entry_at es zero = None
entry_at es (suc k) = slice_get es k

-- Frames.

-- what stands where the frame's sender, entry and place say
abbrev pub sent_there : Collected → List ℕ → Option (List ℕ)
sent_there c b = frame_in (entry_at (entries_at c (sender_at b)) (origin_at b).entry) (origin_at b).out

-- Proposals.

-- the instance as which a command is proposed: the first frame is about it
abbrev pub proposed : Event → List (List ℕ) → Option ℕ
proposed (Propose client request command seen spared) frames = first_named frames
proposed (Handle b) frames = None
proposed (GiveUp i) frames = None
proposed (Recover i) frames = None
proposed (Execute i) frames = None

abbrev pub is_this : ℕ → Option ℕ → Bool
is_this i None = false
is_this i (Some j) = eqb j i

-- the first entry that proposes instance i
abbrev pub proposal_in : List Entry → ℕ → Option Entry
proposal_in [] i = None
proposal_in (e ∷ es) i = cond (is_this i (proposed e.event e.frames)) (Some e) (proposal_in es i)

-- whether it is this client's request
abbrev pub is_request : ℕ → ℕ → Event → Bool
is_request client request (Propose k n command seen spared) = eqb k client && eqb n request
is_request client request (Handle b) = false
is_request client request (GiveUp i) = false
is_request client request (Recover i) = false
is_request client request (Execute i) = false

-- Executions.

-- whether the instance was executed, with this answer
abbrev pub has_answer : List (ℕ × Answer) → ℕ → Answer → Bool
has_answer [] i answer = false
has_answer (d ∷ ds) i answer = cond (eqb d.0 i && same_answer d.1 answer) true (has_answer ds i answer)

-- whether the entry has this stamp, and executed the instance with this answer
abbrev pub has_done : Option Entry → ℕ → ℕ → Answer → Bool
has_done None stamp i answer = false
has_done (Some e) stamp i answer = eqb e.stamp stamp && has_answer e.done i answer
