-- The receipts that a replica gives: of what it proposed itself, for each execution.
use Rattle.std.specs.Prelude.{◌≡◌, ℕ, eqb, drop, cond, List, [], ◌∷◌, ◌++◌, Option, Some, None}
use Rattle.ep_base.specs.Instances.{leader_of}
use Rattle.ep_base.specs.Messages.{instance_of_message}
use Rattle.ep_base.specs.declared.reply.Answer.{Answer}
use Rattle.ep_rules.specs.Journals.{Entry}
use Rattle.ep_rules.specs.Steps.{Frame, Event, Propose, Handle, GiveUp, Recover, Execute}
use Rattle.ep_rules.specs.Verdicts.{Proposes, HasDone}
use Rattle.ep_rules.specs.declared.receipt.Receipt.{Receipt}
use Rattle.ep_replica.specs.declared.proposal.Proposal.{Proposal}
use Rattle.ep_rules.specs.OneMap.{Store}

-- the proposal of instance i that an event with these frames is: the first frame is about the instance
abbrev pub proposed_by : Event → List Frame → ℕ → Option Proposal
proposed_by (Propose client request c seen named) [] i = None
proposed_by (Propose client request c seen named) (m ∷ ms) i = cond (eqb (instance_of_message m.sent.message) i) (Some (record { client = client; request = request; seen = seen })) None
proposed_by (Handle m) out i = None
proposed_by (GiveUp j) out i = None
proposed_by (Recover j) out i = None
proposed_by (Execute root) out i = None

abbrev pub or_else : Option Proposal → Option Proposal → Option Proposal
or_else None other = other
or_else (Some p) other = Some p

-- the proposal of instance i among the entries; there is at most one
abbrev pub proposal_of : List Entry → ℕ → Option Proposal
proposal_of [] i = None
proposal_of (e ∷ es) i = or_else (proposal_of es i) (proposed_by e.event e.out i)

-- the replica's own proposal of instance i: that of an instance which it leads
abbrev pub own_proposal : ℕ → List Entry → ℕ → Option Proposal
own_proposal me es i = cond (eqb (leader_of i) me) (proposal_of es i) None

-- the receipt of an execution by an entry of replica me, where the replica proposed the instance
abbrev pub receipt_of : ℕ → Entry → ℕ × Answer → Option Proposal → List Receipt
receipt_of me e d None = []
receipt_of me e d (Some p) =
    record { client = p.client; request = p.request; instance = d.0; seen = p.seen; replica = me; entry = e.number; stamp = e.stamp; answer = d.1 } ∷ []

-- the receipts of these executions by the entry, in order, of what replica me proposed, by its entries es
abbrev pub receipts_for : ℕ → List Entry → Entry → List (ℕ × Answer) → List Receipt
receipts_for me es e [] = []
receipts_for me es e (d ∷ ds) = receipt_of me e d (own_proposal me es d.0) ++ receipts_for me es e ds

abbrev pub receipts_of : ℕ → List Entry → Entry → List Receipt
receipts_of me es e = receipts_for me es e e.done

-- the receipts of all executions by the entries `these`
abbrev pub receipts_by : ℕ → List Entry → List Entry → List Receipt
receipts_by me es [] = []
receipts_by me es (e ∷ these) = receipts_of me es e ++ receipts_by me es these

-- the receipts of the executions after the first n entries, in order
abbrev pub receipts_after : ℕ → ℕ → List Entry → List Receipt
receipts_after me n es = receipts_by me es (drop n es)

-- the first receipt of instance i
abbrev pub first_about : ℕ → List Receipt → Option Receipt
first_about i [] = None
first_about i (t ∷ ts) = cond (eqb t.instance i) (Some t) (first_about i ts)

-- the receipt of the first execution of instance i, where replica me proposed it
abbrev pub outcome_of : ℕ → List Entry → ℕ → Option Receipt
outcome_of me es i = first_about i (receipts_after me 0 es)

-- replica me proposed its own instance i, and executed it, from this map on
pub record IsSettled (base : Store) (f me : ℕ) (es : List Entry) (i : ℕ) : Type 0 where
  pub leader : leader_of i ≡ me
  pub client : ℕ
  pub request : ℕ
  pub proposed : Proposes base f me es i client request
  pub number : ℕ
  pub stamp : ℕ
  pub answer : Answer
  pub executed : HasDone es number stamp i answer
