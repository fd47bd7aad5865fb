-- Committing what was voted for: both ballots and the decree stay.
use Rattle.std.specs.Prelude.{ℕ, Option, Some, None}
use Rattle.ep_base.specs.declared.vote.VoteStatus.TheVariants.{Committed}
use Rattle.ep_base.specs.declared.vote.Vote.{Vote}
use Rattle.ep_rules.specs.Phases.{with_commit}
use Rattle.ep_rules.specs.declared.record.Record.{Record}

abbrev pub committed_vote : Option Vote → Option Vote
committed_vote None = None
committed_vote (Some v) = Some (record { status = Committed; ballot = v.ballot; decree = v.decree })

-- what a table has of an instance then
abbrev pub as_settled : Option Record → Option Record
as_settled None = None
as_settled (Some r) = Some (record { promised = r.promised; vote = committed_vote r.vote })

-- the new record of i, where r is the one before and this its vote; none where nothing was voted for
abbrev pub settled : ℕ → Record → Option Vote → Option Record
settled i r None = None
settled i r (Some v) = Some (with_commit i r v.decree)
