-- Why events are refused: the number and the words in the name of each refusal, and what it is printed as.
use Rattle.std.specs.Prelude.{ℕ, List, [], ◌++◌, Option, Some, None, codes, decimal}
use Rattle.ep_base.specs.Instances.{leader_of, number_of}
use Rattle.ep_journal.specs.declared.refusal.Refusal.{Refusal}
use Rattle.ep_journal.specs.declared.refusal.Refusal.TheVariants.{BadFrame, NoSuchMessage, Step}
use Rattle.ep_journal.specs.declared.step_fault.StepFault.{StepFault}
use Rattle.ep_journal.specs.declared.step_fault.StepFault.TheVariants.{Memory, OutOfRange, NotMine, OtherVersion, OtherGeneration, StampFull, SpaceFull, SeqExhausted, NotLeading, TooFewAnswers, AlreadyCommitted, BallotsExhausted, NotCommitted}

-- the table of names
abbrev pub name_of : StepFault → ℕ × List ℕ
name_of Memory = (1, codes "memory")
name_of OutOfRange = (3, codes "out of range")
name_of SpaceFull = (4, codes "space full")
name_of SeqExhausted = (5, codes "seq exhausted")
name_of NotLeading = (6, codes "not leading")
name_of TooFewAnswers = (7, codes "too few answers")
name_of AlreadyCommitted = (8, codes "already committed")
name_of BallotsExhausted = (9, codes "ballots exhausted")
name_of (NotCommitted i) = (10, codes "not committed")
name_of NotMine = (13, codes "not mine")
name_of OtherVersion = (14, codes "bad frame")
name_of OtherGeneration = (14, codes "bad frame")
name_of StampFull = (15, codes "stamp full")

abbrev pub refusal_name : Refusal → ℕ × List ℕ
refusal_name BadFrame = (14, codes "bad frame")
refusal_name (NoSuchMessage message) = (18, codes "no such message")
refusal_name (Step fault) = name_of fault

abbrev pub code_of : Refusal → ℕ
code_of refusal = (refusal_name refusal).0

-- the instance that it names
abbrev pub instance_named : StepFault → Option ℕ
instance_named (NotCommitted i) = Some i
instance_named _ = None

abbrev pub names : Refusal → Option ℕ
names BadFrame = None
names (NoSuchMessage message) = None
names (Step fault) = instance_named fault

-- the replica that leads it, a dot, and its number
abbrev pub instance_text : ℕ → List ℕ
instance_text i = decimal (leader_of i) ++ codes "." ++ decimal (number_of i)

abbrev pub name_text : ℕ × List ℕ → List ℕ
name_text name = codes "E" ++ decimal name.0 ++ codes " " ++ name.1

abbrev pub named_text : Option ℕ → List ℕ
named_text None = []
named_text (Some i) = codes " " ++ instance_text i

-- what stands behind its name
abbrev pub about_text : Refusal → List ℕ
about_text BadFrame = []
about_text (NoSuchMessage message) = codes " " ++ decimal message
about_text (Step fault) = named_text (instance_named fault)

abbrev pub refusal_text : Refusal → List ℕ
refusal_text refusal = name_text (refusal_name refusal) ++ about_text refusal
