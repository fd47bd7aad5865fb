-- What is wrong with handled frames, and which fault is the first.
use Rattle.std.specs.Prelude.{ℕ, zero, suc, cond, ltb, List, [], ◌∷◌, Option, Some, None}
use Rattle.ep_base.specs.Attributes.{same_list}
use Rattle.ep_frame.specs.Meaning.{origin_at}
use Rattle.ep_journal.specs.Entries.{Collected, entries_at}
use Rattle.ep_journal.specs.declared.entry.Entry.{Entry}
use Rattle.ep_journal.specs.declared.event.Event.{Event}
use Rattle.ep_journal.specs.declared.event.Event.TheVariants.{Propose, Handle, GiveUp, Recover, Execute}
use Rattle.ep_audit.specs.Lookups.{sent_there}
use Rattle.ep_audit.specs.declared.audit_fault.AuditFault.{AuditFault}

-- what is wrong with a frame that entry n of replica r handles at this stamp, where that frame or none was sent
abbrev pub frame_fault : ℕ → ℕ → ℕ → List ℕ → Option (List ℕ) → Option AuditFault
frame_fault r n stamp b None = Some (AuditFault.UnsentFrame r n)
frame_fault r n stamp b (Some sent) = cond (same_list sent b) (cond (ltb (origin_at b).stamp stamp) None (Some (AuditFault.StampOrder r n))) (Some (AuditFault.ChangedFrame r n))

abbrev pub event_fault : Collected → ℕ → ℕ → ℕ → Event → Option AuditFault
event_fault c r n stamp (Propose client request command seen spared) = None
event_fault c r n stamp (Handle b) = frame_fault r n stamp b (sent_there c b)
event_fault c r n stamp (GiveUp i) = None
event_fault c r n stamp (Recover i) = None
event_fault c r n stamp (Execute i) = None

-- what is wrong with an entry of r
abbrev pub entry_fault : Collected → ℕ → Entry → Option AuditFault
entry_fault c r e = event_fault c r e.number e.stamp e.event

abbrev pub or_else : Option AuditFault → Option AuditFault → Option AuditFault
or_else None other = other
or_else (Some x) other = Some x

-- the first fault of entries of r
abbrev pub first_in : Collected → ℕ → List Entry → Option AuditFault
first_in c r [] = None
first_in c r (e ∷ es) = or_else (entry_fault c r e) (first_in c r es)

-- the first fault of the entries of the replicas below n
abbrev pub first_below : Collected → ℕ → Option AuditFault
first_below c zero = None
first_below c (suc n) = or_else (first_below c n) (first_in c n (entries_at c n))
