-- What a run over rings is: sections, one after another.
use Rattle.std.specs.Prelude.{◌≡◌, ℕ, List, [], ◌∷◌, ◌++◌, All}
use Rattle.ep_host.specs.Host.{IsHost, IsFresh, StartsAs}
use Rattle.ep_host.specs.Node.{Node}
use Rattle.ep_host.specs.RingFinishing.{replicas_in, entries_in}
use Rattle.ep_replay.specs.Heads.{opening_of}
use Rattle.ep_rules.specs.declared.receipt.Receipt.{Receipt}
use Rattle.ep_script.specs.Heads.{Head}
use Rattle.ep_script.specs.Plan.{SectionPlan}
use Rattle.ep_run.specs.Asking.{asked_by, proposers_of}
use Rattle.ep_run.specs.Rings.{Begins, Turns, entry_counts, given_after}
use Rattle.ep_run.specs.Weathers.{weather_in}
use Rattle.ep_run.specs.declared.ran.Ran.{Ran}

-- A section of nodes xs, where these clients have proposed before and these receipts were given: its tasks are assigned and its weather is set; then come
-- the nodes' turns, held frames, and rounds; and then the receipts of the entries that were made in it are collected.
pub record IsSection (turns : ℕ) (s : SectionPlan) (proposers : List ℕ) (before after : List Receipt) (xs ys : List Node) : Type 0 where
  pub begun : List Node
  pub begins : Begins (asked_by proposers before s.lines) (weather_in s.weather) xs begun
  pub turned : Turns turns begun ys
  pub collected : after ≡ before ++ given_after (entry_counts xs) ys

-- sections, one after another
abbrev pub AreSections : ℕ → List SectionPlan → List ℕ → List Receipt → List Receipt → List Node → List Node → Type 0
AreSections turns [] proposers before after xs ys = (after ≡ before) × (ys ≡ xs)
AreSections turns (s ∷ ss) proposers before after xs ys =
    (between : List Receipt) × (zs : List Node) × IsSection turns s proposers before between xs zs × AreSections turns ss (proposers_of proposers s.lines) between after zs ys

-- the nodes of a host that begins as the head says, with rings of this capacity, run the sections, and leave this
pub record IsRun (h : Head) (capacity turns : ℕ) (sections : List SectionPlan) (ran : Ran) : Type 0 where
  pub first : List Node
  pub last : List Node
  pub host : IsHost h.faults first
  pub fresh : All (IsFresh capacity) first
  pub starts : All (StartsAs h.version (opening_of h.opening)) first
  pub sections_run : AreSections turns sections [] [] ran.receipts.items first last
  pub journals : ran.finished.journals.entries ≡ entries_in (replicas_in last)
