-- The table of a replica's own proposals: each at the number of its instance.
use Rattle.std.specs.Prelude.{◌≡◌, ◌≢◌, ℕ, ◌<◌, ◌≤◌, eqb, cond, List, Option, Some, None, length, slice_index_or as get_or}
use Rattle.ep_base.specs.Instances.{instance_of, highest_number}
use Rattle.ep_journal.specs.Entries.{entries_of, frames_at}
use Rattle.ep_journal.specs.Events.{event_of}
use Rattle.ep_journal.specs.declared.entry.Entry.{Entry}
use Rattle.ep_replica.specs.Receipts.{proposed_by, proposal_of}
use Rattle.ep_replica.specs.declared.proposal.Proposal.{Proposal}

abbrev pub found : List (Option Proposal) → ℕ → Option Proposal
found slots number = get_or slots number None

-- what an entry proposes in instance i, where it proposes this one
abbrev pub named : Option (ℕ × Proposal) → ℕ → Option Proposal
named None i = None
named (Some p) i = cond (eqb p.0 i) (Some p.1) None

-- there is a place for what the entry proposes in an instance that replica me leads
abbrev pub HasPlace : ℕ → Entry → List (Option Proposal) → Type 0
HasPlace me e slots = (number : ℕ) → number ≤ highest_number → proposed_by (event_of e.event) (frames_at e.frames) (instance_of me number) ≢ None → number < length slots

-- the table says what the entries of replica me propose in each instance that it leads
abbrev pub HoldsProposals : ℕ → List Entry → List (Option Proposal) → Type 0
HoldsProposals me es slots = (number : ℕ) → number ≤ highest_number → found slots number ≡ proposal_of (entries_of es) (instance_of me number)
