-- What would end what is open in a cluster, as lines.
use Rattle.std.specs.Prelude.{◌≡◌, ◌↔◌, ℕ, ◌<◌, List, [], ◌∷◌, ◌++◌, length, Option, Some, None}
use Rattle.ep_base.specs.Deps.{IsRising}
use Rattle.ep_base.specs.Instances.{leader_of, IsInstance}
use Rattle.ep_base.specs.Places.{Has}
use Rattle.ep_base.specs.Quorums.{size}
use Rattle.ep_base.specs.declared.decree.Decree.{Decree}
use Rattle.ep_exec.specs.Missing.{IsMissing}
use Rattle.ep_journal.specs.Entries.{Log, Collected, entries_at}
use Rattle.ep_journal.specs.Leaving.{standing}
use Rattle.ep_rules.specs.Maps.{Map}
use Rattle.ep_rules.specs.States.{State, committed_in, graph_in}
use Rattle.ep_rules.specs.Worlds.{In}
use Rattle.ep_rules.specs.declared.record.Record.{Record}
use Rattle.ep_space.specs.Open.{IsOpen, IsAbove, IsLeast}
use Rattle.ep_ending.specs.Lines.{open_lines, more_line, owed_line}

-- the journal of r
abbrev pub log_at : Collected → ℕ → Log
log_at c r = record { version = c.version; faults = c.faults; me = r; opening = c.opening; entries = entries_at c r }

-- what it leaves
abbrev pub state_of : Log → State
state_of l = (standing l).state

abbrev pub records_at : Collected → ℕ → Map Record
records_at c r = (state_of (log_at c r)).records

-- What is open.

-- it is open at a replica below n
abbrev pub IsOpenBelow : Collected → ℕ → ℕ → Type 0
IsOpenBelow c n i = (r : ℕ) × (r < n) × IsOpen (records_at c r) i

-- it is open at a replica
abbrev pub IsOpenIn : Collected → ℕ → Type 0
IsOpenIn c i = IsOpenBelow c (size c.faults) i

abbrev pub IsBefore : Option ℕ → ℕ → Type 0
IsBefore None i = Unit {0}
IsBefore (Some n) i = i < n

-- the next one is open too, and as many have lines as may
abbrev pub IsCut : Collected → List ℕ → Option ℕ → Type 0
IsCut c is None = Unit {0}
IsCut c is (Some n) = IsOpenIn c n × (length is ≡ 20)

-- the instances that are open at a replica, in rising order: all of them, or the first 20, and the next one
pub record AreOpen (c : Collected) (is : List ℕ) (next : Option ℕ) : Type 0 where
  pub rising : IsRising is
  pub these : (i : ℕ) → In i is ↔ (IsOpenIn c i × IsBefore next i)
  pub cut : IsCut c is next

-- the text has a line more for each of them, and one that says where others begin
abbrev pub AddsOpen : Collected → List ℕ → List ℕ → Type 0
AddsOpen c old new = (is : List ℕ) × (next : Option ℕ) × AreOpen c is next × (new ≡ old ++ open_lines c.faults is ++ more_line next)

-- The search for it.

-- the least above this one, where there is one, that is open at a replica below n
abbrev pub IsLeastBelow : Collected → Option ℕ → ℕ → Option ℕ → Type 0
IsLeastBelow c after n found = IsLeast (λ i. IsOpenBelow c n i × IsAbove after i) found

abbrev pub IsNextIn : Collected → Option ℕ → Option ℕ → Type 0
IsNextIn c after found = IsLeastBelow c after (size c.faults) found

-- What is owed.

-- the journal commits the instance and doesn't execute it
pub record IsOwedBy (l : Log) (i : ℕ) : Type 0 where
  pub decree : Decree
  pub committed : committed_in (state_of l).records i ≡ Some decree
  pub left : ¬ Has (state_of l).executed i

-- the instance's leader has committed and not executed it
abbrev pub IsOwed : Collected → ℕ → Type 0
IsOwed c i = IsInstance i × (leader_of i < size c.faults) × IsOwedBy (log_at c (leader_of i)) i

-- it is to be executed, or what it reaches has to be committed first
abbrev pub IsOwedLine : Log → ℕ → List ℕ → Type 0
IsOwedLine l i line = (missing : Option ℕ) × IsMissing (graph_in (state_of l).records) i missing × (line ≡ owed_line l.me i missing)

-- the text is a line for each of them
abbrev pub AreOwedLines : Collected → List ℕ → List ℕ → Type 0
AreOwedLines c [] text = text ≡ []
AreOwedLines c (i ∷ is) text = (line : List ℕ) × (rest : List ℕ) × IsOwedLine (log_at c (leader_of i)) i line × AreOwedLines c is rest × (text ≡ line ++ rest)

-- the text has a line more for each instance of these, in rising order
abbrev pub AddsOwedOf : Collected → (ℕ → Type 0) → List ℕ → List ℕ → Type 0
AddsOwedOf c P old new = (is : List ℕ) × IsRising is × ((i : ℕ) → In i is ↔ P i) × ((text : List ℕ) × AreOwedLines c is text × (new ≡ old ++ text))

-- all that is owed
abbrev pub AddsOwed : Collected → List ℕ → List ℕ → Type 0
AddsOwed c old new = AddsOwedOf c (IsOwed c) old new

-- what is owed of the instances before this one
abbrev pub AddsOwedBefore : Collected → ℕ → List ℕ → List ℕ → Type 0
AddsOwedBefore c end old new = AddsOwedOf c (λ i. IsOwed c i × (i < end)) old new

-- the text has the instance's line more, if the journal owes it
pub data AddsIfOwed (l : Log) (i : ℕ) (old new : List ℕ) : Type 0 where
  settled : ¬ IsOwedBy l i → new ≡ old → AddsIfOwed l i old new
  owed : (line : List ℕ) → IsOwedBy l i → IsOwedLine l i line → new ≡ old ++ line → AddsIfOwed l i old new

-- The whole.

-- the text has more: what would end what is open, and then what is owed
abbrev pub AddsEndings : Collected → List ℕ → List ℕ → Type 0
AddsEndings c old new = (mid : List ℕ) × AddsOpen c old mid × AddsOwed c mid new
