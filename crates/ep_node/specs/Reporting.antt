-- What entries report: what they send and execute, which instances they commit, and what each instance was first reported by.
use Rattle.std.specs.Prelude.{◌≡◌, ◌≤◌, ◌<◌, ℕ, zero, suc, Bool, true, false, eqb, cond, is_some, take, length, List, [], ◌∷◌, ◌++◌, Option, Some, None, slice_index_or as get_or}
use Rattle.ep_base.specs.Instances.{IsInstance}
use Rattle.ep_base.specs.Messages.{instance_of_message}
use Rattle.ep_frame.specs.Meaning.{instance_at, kind_at, message_at}
use Rattle.ep_frame.specs.declared.kind.Kind.{Kind}
use Rattle.ep_frame.specs.declared.kind.Kind.TheVariants as kind
use Rattle.ep_base.specs.declared.version.Version.{Version}
use Rattle.ep_journal.specs.Entries.{IsJournal}
use Rattle.ep_journal.specs.Leaving.{state_left}
use Rattle.ep_journal.specs.Openings.{Opening}
use Rattle.ep_rules.specs.States.{committed_in}
use Rattle.ep_journal.specs.declared.entry.Entry.{Entry}
use Rattle.ep_journal.specs.declared.event.Event.{Event as Happening}
use Rattle.ep_journal.specs.declared.event.Event.TheVariants.{Propose, Handle, GiveUp, Recover, Execute}
use Rattle.ep_journal.specs.Events.{first_named}
use Rattle.ep_phase.specs.Progress.{progress_in}
use Rattle.ep_replica.specs.Kept.{Kept}
use Rattle.ep_replica.specs.Pending.{state_of}
use Rattle.ep_rules.specs.Maps.{get}
use Rattle.ep_rules.specs.Steps.{order_of}
use Rattle.ep_space.specs.Open.{IsNextOpen}
use Rattle.ep_space.specs.Entries.{slot}
use Rattle.ep_node.specs.Nodes.{Logged, IsQuiet}
use Rattle.ep_node.specs.declared.open_instance.OpenInstance.{OpenInstance}
use Rattle.ep_node.specs.declared.ready_fault.ReadyFault.{ReadyFault}
use Rattle.ep_node.specs.declared.ready_fault.ReadyFault.TheVariants.{Memory, Unsynced, Closed}

-- What entries send and execute.

-- the instances that they execute, in order
abbrev pub executed_by : List Entry → List ℕ
executed_by [] = []
executed_by (e ∷ es) = order_of e.done ++ executed_by es

-- Which entry is the first.

abbrev pub or_other : Option ℕ → Option ℕ → Option ℕ
or_other None other = other
or_other (Some n) other = Some n

-- the number, where it is the instance's
abbrev pub number_for : Option ℕ → ℕ → ℕ → Option ℕ
number_for None number i = None
number_for (Some j) number i = cond (eqb j i) (Some number) None

-- the number of the first of these entries whose instance, by this key, is i
abbrev pub first_number : (Entry → Option ℕ) → List Entry → ℕ → Option ℕ
first_number key [] i = None
first_number key (e ∷ es) i = or_other (number_for (key e) e.number i) (first_number key es i)

-- a table by instances: it has the number of the first of these entries
abbrev pub noted : List (Option ℕ) → ℕ → Option ℕ
noted table i = get_or table (slot i) None

abbrev pub AreFirst : (Entry → Option ℕ) → List Entry → List (Option ℕ) → Type 0
AreFirst key es table = (i : ℕ) → IsInstance i → noted table i ≡ first_number key es i

-- What an entry is about.

-- the instance that its event is about; of a proposal the one that it took; none of an execution
abbrev pub about_in : Happening → List (List ℕ) → Option ℕ
about_in (Propose client request command seen named) frames = first_named frames
about_in (Handle b) frames = Some (instance_of_message (message_at b))
about_in (GiveUp i) frames = Some i
about_in (Recover i) frames = Some i
about_in (Execute i) frames = None

abbrev pub about_by : Entry → Option ℕ
about_by e = about_in e.event e.frames

-- What an entry commits.

-- the instance that a frame says is committed: that of a Commit
abbrev pub committed_as : Kind → ℕ → Option ℕ
committed_as kind.PreAccept i = None
committed_as kind.PreAcceptOk i = None
committed_as kind.Accept i = None
committed_as kind.AcceptOk i = None
committed_as kind.Commit i = Some i
committed_as kind.Prepare i = None
committed_as kind.PrepareOk i = None
committed_as kind.Nack i = None

abbrev pub said_by : List ℕ → Option ℕ
said_by b = committed_as (kind_at b) (instance_at b)

abbrev pub first_said : List (List ℕ) → Option ℕ
first_said [] = None
first_said (b ∷ bs) = said_by b

-- the instance that an entry learns to be committed: by the Commit that it handles, or by those that it sends, since its replica has decided
abbrev pub learnt_in : Happening → List (List ℕ) → Option ℕ
learnt_in (Propose client request command seen named) frames = first_said frames
learnt_in (Handle b) frames = or_other (said_by b) (first_said frames)
learnt_in (GiveUp i) frames = first_said frames
learnt_in (Recover i) frames = first_said frames
learnt_in (Execute i) frames = first_said frames

abbrev pub learnt_by : Entry → Option ℕ
learnt_by e = learnt_in e.event e.frames

abbrev pub is_number : ℕ → Option ℕ → Bool
is_number n None = false
is_number n (Some m) = eqb m n

-- the instance, where the entry of this number is the first of all that learns that it is committed
abbrev pub new_commit : List Entry → ℕ → Option ℕ → List ℕ
new_commit all number None = []
new_commit all number (Some i) = cond (is_number number (first_number learnt_by all i)) (i ∷ []) []

-- the instances that these entries commit: which they are the first of all to learn to be committed
abbrev pub commits_by : List Entry → List Entry → List ℕ
commits_by all [] = []
commits_by all (e ∷ es) = new_commit all e.number (learnt_by e) ++ commits_by all es

-- The law: of a replica of a cluster in which one may fail, what it has committed is what some entry of its journal learnt to be committed. So what entries
-- commit, by the definition above, is what its records say after them and not before.
abbrev pub CommitsAreReported : Type 0
CommitsAreReported =
    (v : Version) (o : Opening) (f me : ℕ) (es : List Entry) → 0 < f → IsJournal v o f me es → (i : ℕ) → is_some (committed_in (state_left o f me es).records i) ≡ is_some (first_number learnt_by es i)

-- What is open.

-- an open instance: the number of the first entry that is about it, none where only others depend on it, and how far the replica leads it
abbrev pub open_as : Kept → ℕ → OpenInstance
open_as k i = record { instance = i; since = first_number about_by k.entries i; leads = progress_in k.faults k.me (get (state_of k).leads i) }

-- the least instances that are open above this one, in rising order: so many, or all
abbrev pub AreOpen : Kept → ℕ → Option ℕ → List OpenInstance → Type 0
AreOpen k zero after [] = Unit {0}
AreOpen k zero after (x ∷ xs) = ⊥
AreOpen k (suc n) after [] = IsNextOpen (state_of k).records after None
AreOpen k (suc n) after (x ∷ xs) = IsNextOpen (state_of k).records after (Some x.instance) × (x ≡ open_as k x.instance) × AreOpen k n (Some x.instance) xs

-- What a node notes of its entries.

-- of the first ones, so many, it has noted which was the first about each instance, and which learnt first that it is committed
pub record Knows (es : List Entry) (seen : ℕ) (about commits : List (Option ℕ)) : Type 0 where
  pub within : seen ≤ length es
  pub first_about : AreFirst about_by (take seen es) about
  pub first_learnt : AreFirst learnt_by (take seen es) commits

-- Why nothing is reported: out of memory; not all that was taken is on the disk; or the device failed before.
abbrev pub IsUnreported : {D : Type 0} → Logged D → ReadyFault → Type 0
IsUnreported n Memory = IsQuiet n
IsUnreported n Unsynced = (n.closed ≡ false) × (n.synced < length n.replica.entries)
IsUnreported n Closed = n.closed ≡ true
