-- What is wrong with receipts, and which fault is the first.
use Rattle.std.specs.Prelude.{ℕ, suc, Bool, false, ◌&&◌, cond, ltb, List, [], ◌∷◌, Option, Some, None}
use Rattle.ep_base.specs.Instances.{leader_of}
use Rattle.ep_journal.specs.Entries.{Collected, entries_at}
use Rattle.ep_journal.specs.declared.entry.Entry.{Entry}
use Rattle.ep_audit.specs.Handlings.{or_else}
use Rattle.ep_audit.specs.Lookups.{entry_at, proposal_in, is_request, has_done}
use Rattle.ep_audit.specs.declared.audit_fault.AuditFault.{AuditFault}
use Rattle.ep_rules.specs.declared.receipt.Receipt.{Receipt}

-- whether the instance's proposal is this one, if there is one
abbrev pub is_proposed : Option Entry → ℕ → ℕ → Bool
is_proposed None client request = false
is_proposed (Some e) client request = is_request client request e.event

-- whether the stamp is below that of the entry, if there is one
abbrev pub is_earlier : ℕ → Option Entry → Bool
is_earlier seen None = false
is_earlier seen (Some e) = ltb seen e.stamp

-- the instance's proposal in its leader's journal
abbrev pub proposal_of : Collected → ℕ → Option Entry
proposal_of c i = proposal_in (entries_at c (leader_of i)) i

-- whether the receipt's command was proposed and executed, as it says
abbrev pub is_known : Collected → Receipt → Bool
is_known c t = is_proposed (proposal_of c t.instance) t.client t.request && has_done (entry_at (entries_at c t.replica) t.entry) t.stamp t.instance t.answer

-- what is wrong with the receipt of this place
abbrev pub receipt_fault : Collected → ℕ → Receipt → Option AuditFault
receipt_fault c place t = cond (is_known c t) (cond (is_earlier t.seen (proposal_of c t.instance)) None (Some (AuditFault.CallerOrder place))) (Some (AuditFault.UnknownReceipt place))

-- the first fault of receipts, counted from this place
abbrev pub first_of : Collected → ℕ → List Receipt → Option AuditFault
first_of c place [] = None
first_of c place (t ∷ ts) = or_else (receipt_fault c place t) (first_of c (suc place) ts)
