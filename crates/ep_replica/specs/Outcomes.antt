-- The search for an execution of what was proposed.
use Rattle.std.specs.Prelude.{ℕ, eqb, cond, List, [], ◌∷◌, Option, Some, None}
use Rattle.ep_base.specs.declared.reply.Answer.{Answer}
use Rattle.ep_rules.specs.Journals.{Entry}
use Rattle.ep_rules.specs.declared.receipt.Receipt.{Receipt}
use Rattle.ep_replica.specs.declared.proposal.Proposal.{Proposal}

-- the receipt of an execution of instance i by the entry, with this answer
abbrev pub receipt : ℕ → ℕ → Proposal → Entry → Answer → Receipt
receipt me i p e x = record { client = p.client; request = p.request; instance = i; seen = p.seen; replica = me; entry = e.number; stamp = e.stamp; answer = x }

abbrev pub or_this : Option Receipt → Option Receipt → Option Receipt
or_this None other = other
or_this (Some t) other = Some t

-- that of the first of these executions by the entry
abbrev pub reported_among : ℕ → ℕ → Proposal → Entry → List (ℕ × Answer) → Option Receipt
reported_among me i p e [] = None
reported_among me i p e (d ∷ ds) = cond (eqb d.0 i) (Some (receipt me i p e d.1)) (reported_among me i p e ds)

-- that of the first execution by these entries
abbrev pub reported_by : ℕ → ℕ → Proposal → List Entry → Option Receipt
reported_by me i p [] = None
reported_by me i p (e ∷ es) = or_this (reported_among me i p e e.done) (reported_by me i p es)
