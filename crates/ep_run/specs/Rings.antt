-- How a run over rings gets on.
use Rattle.std.specs.Prelude.{◌≡◌, ℕ, ◌<◌, ◌≤◌, eqb, cond, List, [], ◌∷◌, ◌++◌, length, drop, Option, Some, None, slice_index_or as get_or, min, ◌-◌, ◌^◌}
use Rattle.std.specs.List.{sum_by}
use Rattle.ep_host.specs.Follows.{Follows, Settles}
use Rattle.ep_host.specs.Host.{IsHost, StartsAs}
use Rattle.ep_host.specs.Node.{Node}
use Rattle.ep_host.specs.Pointwise.{Each}
use Rattle.ep_host.specs.Setting.{IsReleased}
use Rattle.ep_host.specs.Turned.{IsTurned, AreSettled}
use Rattle.ep_host.specs.Tasks.{Use, tasks_in, events_in, refusals_in, place_after}
use Rattle.ep_host.specs.declared.task.Task.{Task}
use Rattle.ep_host.specs.declared.weather.Weather.{Weather}
use Rattle.ep_journal.specs.declared.step_fault.StepFault.{StepFault}
use Rattle.ep_journal.specs.Entries.{Collected, entries_of}
use Rattle.ep_journal.specs.Openings.{Opening, opens}
use Rattle.ep_base.specs.declared.version.Version.{Version}
use Rattle.ep_replay.specs.Heads.{opening_of}
use Rattle.ep_script.specs.Heads.{Head}
use Rattle.ep_replay.specs.Tables.{AreCounted}
use Rattle.ep_replay.specs.declared.clients.Clients.{Clients}
use Rattle.ep_rules.specs.Journals.{asked_in as asked_in_entries}
use Rattle.ep_rules.specs.Verdicts.{IsOwn}
use Rattle.ep_rules.specs.Worlds.{In}
use Rattle.ep_rules.specs.declared.receipt.Receipt.{Receipt}
use Rattle.ep_replica.specs.Receipts.{receipts_after}
use Rattle.ep_script.specs.Plan.{SectionPlan}
use Rattle.ep_run.specs.Asking.{asked_in, proposers_of}
use Rattle.ep_run.specs.Lines.{Fate, made, refused, left, Line, AreBeginnings, HaveAtMost}
use Rattle.ep_run.specs.Weathers.{SetsOwn}
use Rattle.ep_run.specs.declared.ring_run.RingRun.{RingRun}

abbrev pub fate_of : Option StepFault → Fate
fate_of None = made
fate_of (Some fault) = refused fault

-- what became of a replica's next line
abbrev pub next_fate : List Use → Fate
next_fate [] = left
next_fate (u ∷ us) = fate_of u.refusal

-- without the next line of replica r
abbrev pub without_next : ℕ → (ℕ → List Use) → ℕ → List Use
without_next r uses q = cond (eqb q r) (drop 1 (uses q)) (uses q)

-- what became of lines that asked for this, where each replica has used up these of its own, in order
abbrev pub lines_of : List (ℕ × (ℕ × Task)) → (ℕ → List Use) → List Line
lines_of [] uses = []
lines_of (a ∷ asked) uses = record { number = a.0; replica = a.1.0; task = a.1.1; fate = next_fate (uses a.1.0) } ∷ lines_of asked (without_next a.1.0 uses)

-- what is asked of replica r, in order
abbrev pub tasks_at : ℕ → List (ℕ × (ℕ × Task)) → List Task
tasks_at r [] = []
tasks_at r (a ∷ asked) = cond (eqb a.1.0 r) (a.1.1 ∷ []) [] ++ tasks_at r asked

-- what is asked of each node stands last on its agenda, and nothing else changed
pub record AreAssigned (asked : List (ℕ × (ℕ × Task))) (xs ys : List Node) : Type 0 where
  pub len : length ys ≡ length xs
  pub at : (i : ℕ) (d : Node) → i < length xs → get_or ys i d ≡ record (get_or xs i d) { agenda = (get_or xs i d).agenda ++ tasks_at i asked }

-- a section begins: what it asks of each node stands last on its agenda, and then its weather is set
pub record Begins (asked : List (ℕ × (ℕ × Task))) (weather : List Weather) (xs ys : List Node) : Type 0 where
  pub assigned : List Node
  pub assigns : AreAssigned asked xs assigned
  pub sets : Each (SetsOwn weather) assigned ys

-- held frames are put, and then there are rounds, so many or up to the first in which nothing moves
pub record SettlesReleased (limit : ℕ) (xs ys : List Node) : Type 0 where
  pub released : List Node
  pub releases : Each IsReleased xs released
  pub settles : Each (Settles limit) released ys
  pub rounds : AreSettled limit released ys

-- a section's turns in threads, so many of each node or until it has ended; then held frames are put, and there are rounds
pub record Turns (limit : ℕ) (xs ys : List Node) : Type 0 where
  pub turned : List Node
  pub follows : Each Follows xs turned
  pub turns : Each (IsTurned limit) xs turned
  pub settles : SettlesReleased limit turned ys

-- each is a receipt of one of the nodes' own
abbrev pub AreOf : List Node → List Receipt → Type 0
AreOf nodes receipts =
    (t : Receipt) → In t receipts → (i : ℕ) × (i < length nodes)
    × ((d : Node) → IsOwn (opens (get_or nodes i d).replica.opening) (get_or nodes i d).replica.faults (get_or nodes i d).replica.me (entries_of (get_or nodes i d).replica.entries) t)

-- how many entries each node has
abbrev pub entry_counts : List Node → List ℕ
entry_counts [] = []
entry_counts (n ∷ ns) = length n.replica.entries ∷ entry_counts ns

-- the receipts that the nodes have given after so many entries of each: by node, and then in the order of execution
abbrev pub given_after : List ℕ → List Node → List Receipt
given_after [] ns = []
given_after (k ∷ ks) [] = []
given_after (k ∷ ks) (n ∷ ns) = receipts_after n.replica.me k (entries_of n.replica.entries) ++ given_after ks ns

-- the same of the node at a place
abbrev pub given_at : ℕ → List ℕ → List Node → Node → List Receipt
given_at place marks nodes d = receipts_after (get_or nodes place d).replica.me (get_or marks place 0) (entries_of (get_or nodes place d).replica.entries)

-- these receipts, of the nodes' own, are collected, and their clients have seen them
pub record Collects (more : List Receipt) (nodes : List Node) (clients : Clients) (receipts : List Receipt) (clients' : Clients) (receipts' : List Receipt) : Type 0 where
  pub is : receipts' ≡ receipts ++ more
  pub own : AreOf nodes more
  pub counted : (ps : List ℕ) → AreCounted clients ps receipts → AreCounted clients' ps receipts'

-- how many frames the nodes have lost, all together, up to 2^64 - 1
abbrev pub lost_in : List Node → ℕ
lost_in nodes = min (sum_by (λ (n : Node). n.lost) nodes) (2 ^ 64 - 1)

-- a node has used up these tasks, and these are left
pub record HasUsed (used : List Use) (left : List Task) (n : Node) : Type 0 where
  pub agenda : n.agenda ≡ left
  pub asked : asked_in_entries (entries_of n.replica.entries) ≡ events_in used
  pub refused : n.refused ≡ refusals_in 0 used
  pub place : n.used ≡ place_after 0 used

-- of what was asked of replica r a beginning was used up, and the rest is left; nothing was asked of a replica that there isn't
pub record UsesUp (r : ℕ) (tasks : List Task) (nodes : List Node) : Type 0 where
  pub used : List Use
  pub left : List Task
  pub parts : tasks ≡ tasks_in used ++ left
  pub node : (d : Node) → r < length nodes → HasUsed used left (get_or nodes r d)
  pub others : length nodes ≤ r → (used ≡ []) × (left ≡ [])

-- the clients that have proposed in sections
abbrev pub proposers_in : List ℕ → List SectionPlan → List ℕ
proposers_in proposers [] = proposers
proposers_in proposers (s ∷ ss) = proposers_in (proposers_of proposers s.lines) ss

-- what the nodes of a run begin as: how many may fail, their version, and what they open with
pub record Begun : Type 0 where
  pub faults : ℕ
  pub version : Version
  pub opening : Opening

abbrev pub begun_of : Head → Begun
begun_of h = record { faults = h.faults; version = h.version; opening = opening_of h.opening }

-- journals of such nodes
pub record IsBegun (b : Begun) (c : Collected) : Type 0 where
  pub faults : c.faults ≡ b.faults
  pub version : c.version ≡ b.version
  pub opening : c.opening ≡ b.opening

-- how far a run that began so has come, after these sections
pub record HasRun (b : Begun) (turns : ℕ) (sections : List SectionPlan) (s : RingRun) : Type 0 where
  pub host : IsHost b.faults s.nodes.items
  pub start : (i : ℕ) (d : Node) → i < length s.nodes.items → StartsAs b.version b.opening (get_or s.nodes.items i d)
  pub own : AreOf s.nodes.items s.receipts.items
  pub counted : AreCounted s.clients (proposers_in [] sections) s.receipts.items
  -- up to where receipts were collected: there are none but of later entries
  pub collected : s.collected.items ≡ entry_counts s.nodes.items
  -- the receipts that had been given before each section
  pub before : List (List Receipt)
  pub given : AreBeginnings before s.receipts.items
  pub sectioned : length before ≡ length sections
  pub used : (r : ℕ) → UsesUp r (tasks_at r (asked_in [] sections before)) s.nodes.items
  -- no task is left where the turns are as many as a section's lines for a replica
  pub none_left : HaveAtMost turns sections → (i : ℕ) (d : Node) → i < length s.nodes.items → (get_or s.nodes.items i d).agenda ≡ []
