-- What a message keeps to, beyond what its types say: a ballot of counter 0 is the one that the instance's leader begins with.
use Rattle.std.specs.Prelude.{ℕ, ◌≡◌, ◌≤◌, Option, Some, None}
use Rattle.ep_base.specs.Instances.{leader_of}
use Rattle.ep_base.specs.Ballots.{counter_of, owner_of}
use Rattle.ep_base.specs.declared.vote.Vote.{Vote}
use Rattle.ep_base.specs.declared.message.Message.{Message}
use Rattle.ep_base.specs.declared.message.Message.TheVariants.{PreAccept, PreAcceptOk, Accept, AcceptOk, Commit, Prepare, PrepareOk, Nack}

-- the ballot of counter 0 is the leader's
abbrev pub BallotFits : ℕ → ℕ → Type 0
BallotFits i b = counter_of b ≡ 0 → owner_of b ≡ leader_of i

abbrev pub VoteFits : ℕ → Option Vote → Type 0
VoteFits i None = Unit {0}
VoteFits i (Some v) = BallotFits i v.ballot

-- a ballot of counter 0 is the leader's, and none is prepared or promised
abbrev pub BallotsFit : Message → Type 0
BallotsFit (PreAccept i b x) = BallotFits i b
BallotsFit (PreAcceptOk i b a) = BallotFits i b
BallotsFit (Accept i b x) = BallotFits i b
BallotsFit (AcceptOk i b) = BallotFits i b
BallotsFit (Commit i x) = Unit {0}
BallotsFit (Prepare i b) = 1 ≤ counter_of b
BallotsFit (PrepareOk i b v) = (1 ≤ counter_of b) × VoteFits i v
BallotsFit (Nack i refused promised) = BallotFits i refused × (1 ≤ counter_of promised)
