-- What every state keeps to, so that all that a step sends has a spelling.
use Rattle.std.specs.Prelude.{◌≡◌, ◌≢◌, ℕ, List, [], ◌∷◌, Some}
use Rattle.ep_base.specs.Fitting.{BallotFits, VoteFits, BallotsFit}
use Rattle.ep_base.specs.declared.message.Message.{Message}
use Rattle.ep_rules.specs.Maps.{get}
use Rattle.ep_rules.specs.States.{State}
use Rattle.ep_rules.specs.Steps.{Sent, Event, Propose, Handle, GiveUp, Recover, Execute}
use Rattle.ep_rules.specs.declared.record.Record.{Record}

-- the record's two ballots are ballots of the instance
pub record RecordFits (i : ℕ) (r : Record) : Type 0 where
  pub promised : BallotFits i r.promised
  pub vote : VoteFits i r.vote

abbrev pub StateFits : State → Type 0
StateFits s = (i : ℕ) (r : Record) → get s.records i ≡ Some r → RecordFits i r

-- a handled message has a spelling, and comes from another replica
abbrev pub EventFits : Event → Type 0
EventFits (Propose client request c seen spared) = Unit {0}
EventFits (Handle m) = BallotsFit m.sent.message × (m.sent.from ≢ m.sent.to)
EventFits (GiveUp i) = Unit {0}
EventFits (Recover i) = Unit {0}
EventFits (Execute root) = Unit {0}

-- each goes to another replica, and has a spelling
abbrev pub AllFit : ℕ → List (ℕ × Message) → Type 0
AllFit me [] = Unit {0}
AllFit me (m ∷ ms) = (m.0 ≢ me) × BallotsFit m.1 × AllFit me ms

-- each message that a replica sends goes to another one, and has a spelling
abbrev pub AllSpellable : ℕ → List Sent → Type 0
AllSpellable me [] = Unit {0}
AllSpellable me (m ∷ ms) = (m.to ≢ me) × BallotsFit m.message × AllSpellable me ms
