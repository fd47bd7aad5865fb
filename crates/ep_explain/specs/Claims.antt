-- What a receipt says.
use Rattle.std.specs.Prelude.{ℕ, Bool, false, zero, suc, ◌==◌, List, Option, None, option_map, find, slice_get}
use Rattle.ep_audit.specs.Lookups.{proposal_in}
use Rattle.ep_base.specs.Instances.{leader_of}
use Rattle.ep_base.specs.declared.reply.Answer.{Answer}
use Rattle.ep_journal.specs.Entries.{Collected, entries_at}
use Rattle.ep_journal.specs.declared.entry.Entry.{Entry}
use Rattle.ep_journal.specs.declared.event.Event.{Event}
use Rattle.ep_journal.specs.declared.event.Event.TheVariants.{Propose}

-- what stands at this place, counted from 1
abbrev pub numbered : {X : Type 0} → List X → ℕ → Option X
numbered xs zero = None
numbered xs (suc k) = slice_get xs k

-- the answer of the first execution of instance i
abbrev pub answer_in : List (ℕ × Answer) → ℕ → Option Answer
answer_in done i = option_map (λ d. d.1) (find (λ d. d.0 == i) done)

-- a proposal with this seen stamp
abbrev pub has_seen : Event → ℕ → Bool
has_seen (Propose client request command seen spared) stamp = seen == stamp
has_seen _ stamp = false

-- the first entry in its leader's journal that proposes instance i
abbrev pub proposal_of : Collected → ℕ → Option Entry
proposal_of c i = proposal_in (entries_at c (leader_of i)) i
