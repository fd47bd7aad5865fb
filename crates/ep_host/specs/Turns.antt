-- What a turn does to a node.
use Rattle.std.specs.Prelude.{◌≡◌, ◌⊎◌, ℕ, Bool, true, false, ◌||◌, is_some, zero, suc, length, List, [], ◌∷◌, ◌++◌, Option, Some, None, MatchBool, slice_set, slice_index_or}
use Rattle.ep_journal.specs.declared.step_fault.StepFault.{StepFault}
use Rattle.ep_replica.specs.Pending.{ExecutesNext}
use Rattle.ep_host.specs.Acts.{Made, IsIdle, IsHandled}
use Rattle.ep_host.specs.Fates.{counted_up}
use Rattle.ep_host.specs.Node.{Node}
use Rattle.ep_host.specs.Rings.{PopsAt}
use Rattle.ep_host.specs.Tasks.{event_of, next_place}
use Rattle.ep_host.specs.declared.link.Link.{Link}
use Rattle.ep_host.specs.declared.task.Task.{Task}
use Rattle.ep_host.specs.declared.turn.Turn.{Turn}
use Rattle.ep_host.specs.declared.turn.Turn.TheVariants.{Moved, Idle}

abbrev pub has_moved : Turn → Bool
has_moved Moved = true
has_moved Idle = false

abbrev pub Assigns : Node → Task → Node → Type 0
Assigns a task b = b ≡ record a { agenda = a.agenda ++ task ∷ [] }

-- the same of the node at a place, and no other changed
pub record AssignsAt (place : ℕ) (task : Task) (xs ys : List Node) : Type 0 where
  pub node : Node
  pub is : ys ≡ slice_set xs place node
  pub assigned : (d : Node) → Assigns (slice_index_or xs place d) task node

abbrev pub with_links : Node → List Link → Node
with_links a links = record a { links = links }

-- the frame, if there is one, is handled, and what is lost is counted
abbrev pub TakesUp : Option (List ℕ) → Node → Node → Type 0
TakesUp None a b = b ≡ a
TakesUp (Some f) a b = (lost : ℕ) × IsHandled a.weather f lost a.replica b.replica a.links b.links × (b ≡ record a { replica = b.replica; links = b.links; lost = counted_up a.lost lost })

-- at most one frame is taken from the ring at a place, and handled
pub record TakesAt (place : ℕ) (moved : Bool) (a b : Node) : Type 0 where
  pub frame : Option (List ℕ)
  pub links : List Link
  pub pops : PopsAt place frame a.links links
  pub handled : TakesUp frame (with_links a links) b
  pub moves : moved ≡ is_some frame

-- the same for each of the first places, in rising order; moved where a frame was taken
abbrev pub Takes : ℕ → Bool → Node → Node → Type 0
Takes zero moved a b = (moved ≡ false) × (b ≡ a)
Takes (suc k) moved a b = (c : Node) × (before : Bool) × (now : Bool) × (moved ≡ (before || now)) × Takes k before a c × TakesAt k now c b

-- the task makes its entry, whose lost frames are counted; or it is refused, and listed with this place
abbrev pub UsesUp : Task → ℕ → Node → Node → Type 0
UsesUp task place a b =
    ((lost : ℕ) × Made a.weather (event_of task) lost a.replica b.replica a.links b.links × (b ≡ record a { replica = b.replica; links = b.links; lost = counted_up a.lost lost }))
    ⊎ ((fault : StepFault) × IsIdle (event_of task) fault a.replica b.replica a.links b.links × (b ≡ record a { refused = a.refused ++ (place, fault) ∷ [] }))

-- the agenda's head is used up; or the agenda is empty, and all is as it was
abbrev pub BeginsTask : Bool → Node → Node → Type 0
BeginsTask moved a b = MatchBool moved
    ((task : Task) × (rest : List Task) × (a.agenda ≡ task ∷ rest) × UsesUp task a.used (record a { agenda = rest; used = next_place a.used }) b)
    ((a.agenda ≡ []) × (b ≡ a))

-- the next ready instance of the replica's own is executed, or there is none
abbrev pub ExecutesOwn : Bool → Node → Node → Type 0
ExecutesOwn moved a b = ExecutesNext a.replica moved b.replica × (b ≡ record a { replica = b.replica })

-- at most one frame of each peer, by rising number, then the agenda's head, then at most one execution
pub record IsTurn (moved : Bool) (a b : Node) : Type 0 where
  pub after_frames : Node
  pub after_task : Node
  pub taken : Bool
  pub begun : Bool
  pub executed : Bool
  pub moves : moved ≡ (taken || begun || executed)
  pub takes : Takes (length a.links) taken a after_frames
  pub begins : BeginsTask begun after_frames after_task
  pub executes : ExecutesOwn executed after_task b
