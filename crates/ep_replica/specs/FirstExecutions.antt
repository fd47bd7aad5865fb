-- Where a replica's own instances were first executed.
use Rattle.std.specs.Prelude.{◌≡◌, ℕ, suc, ◌<◌, ◌≤◌, eqb, cond, drop, List, [], ◌∷◌, Option, Some, None, slice_get, slice_index_or as get_or}
use Rattle.std.specs.List.{AllByRecursion}
use Rattle.ep_base.specs.Instances.{instance_of, leader_of, number_of, highest_number}
use Rattle.ep_base.specs.declared.reply.Answer.{Answer}
use Rattle.ep_rules.specs.declared.receipt.Receipt.{Receipt}
use Rattle.ep_journal.specs.Entries.{entry_of}
use Rattle.ep_journal.specs.declared.entry.Entry.{Entry}
use Rattle.ep_replica.specs.Outcomes.{receipt}
use Rattle.ep_replica.specs.declared.proposal.Proposal.{Proposal}
use Rattle.ep_replica.specs.declared.execution_place.ExecutionPlace.{ExecutionPlace}

abbrev pub or_spot : Option ExecutionPlace → Option ExecutionPlace → Option ExecutionPlace
or_spot None other = other
or_spot (Some s) other = Some s

-- the first of these executions of instance i, which are entry n's from its k-th on
abbrev pub first_among : ℕ → ℕ → List (ℕ × Answer) → ℕ → Option ExecutionPlace
first_among n k [] i = None
first_among n k (d ∷ ds) i = cond (eqb d.0 i) (Some (record { entry = n; place = k })) (first_among n (suc k) ds i)

-- the first execution of instance i by these entries, which are a journal's from its n-th on
abbrev pub first_done : ℕ → List Entry → ℕ → Option ExecutionPlace
first_done n [] i = None
first_done n (e ∷ es) i = or_spot (first_among n 0 e.done i) (first_done (suc n) es i)

-- the table: each own instance's at its number
abbrev pub spot_at : List (Option ExecutionPlace) → ℕ → Option ExecutionPlace
spot_at spots number = get_or spots number None

-- there is a place for each of these that replica me leads
abbrev pub HavePlaces : ℕ → ℕ → List (ℕ × Answer) → Type 0
HavePlaces me places ds = AllByRecursion (λ d. leader_of d.0 ≡ me → number_of d.0 < places) ds

-- it says where each own instance of replica me was first executed by these entries
abbrev pub AreFirsts : ℕ → List Entry → List (Option ExecutionPlace) → Type 0
AreFirsts me es spots = (number : ℕ) → number ≤ highest_number → spot_at spots number ≡ first_done 0 es (instance_of me number)

-- the table says what `before` says, and where else that says nothing it says where the entry's executions before the k-th are
abbrev pub AreNoted : ℕ → ℕ → List (Option ExecutionPlace) → List (ℕ × Answer) → ℕ → List (Option ExecutionPlace) → Type 0
AreNoted me n before ds k spots =
    (number : ℕ) → number ≤ highest_number
    → or_spot (spot_at spots number) (first_among n k (drop k ds) (instance_of me number)) ≡ or_spot (spot_at before number) (first_among n 0 ds (instance_of me number))

-- The receipt of an execution.

-- what was executed at a place of an entry, as a receipt of instance i
abbrev pub reported_done : ℕ → ℕ → Proposal → Entry → Option (ℕ × Answer) → Option Receipt
reported_done me i p e None = None
reported_done me i p e (Some d) = Some (receipt me i p (entry_of e) d.1)

abbrev pub reported_in : ℕ → ℕ → Proposal → Option Entry → ℕ → Option Receipt
reported_in me i p None place = None
reported_in me i p (Some e) place = reported_done me i p e (slice_get e.done place)

abbrev pub reported_at : ℕ → ℕ → Proposal → List Entry → ExecutionPlace → Option Receipt
reported_at me i p es s = reported_in me i p (slice_get es s.entry) s.place
