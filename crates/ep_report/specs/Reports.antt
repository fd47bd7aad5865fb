-- What the program prints of a run.
use Rattle.std.specs.Prelude.{ℕ, ◌+◌, List, [], ◌∷◌, ◌++◌, Option, length, map, codes, decimal}
use Rattle.ep_base.specs.declared.decree.Decree.{Decree}
use Rattle.ep_journal.specs.Refusals.{refusal_text}
use Rattle.ep_journal.specs.declared.refusal.Refusal.{Refusal}
use Rattle.ep_rules.specs.Audits.{Fault}
use Rattle.ep_rules.specs.declared.receipt.Receipt.{Receipt}
use Rattle.ep_report.specs.Lives.{Life, generation_lines, closing_lines}
use Rattle.ep_report.specs.Parts.{instance_text, deps_text, command_text, reply_text, answer_text}
use Rattle.ep_audit.specs.Faults.{fault_text}
use Rattle.ep_report.specs.Refusals.{chain_fault_text}
use Rattle.ep_audit.specs.declared.chain_fault.ChainFault.{ChainFault}
use Rattle.ep_audit.specs.declared.happening.Happening.{Happening}

-- each line ends by a line feed
abbrev pub text_of : List (List ℕ) → List ℕ
text_of [] = []
text_of (line ∷ lines) = line ++ codes "\n" ++ text_of lines

-- a name and how many lines follow, and these
abbrev pub counted : List ℕ → List (List ℕ) → List (List ℕ)
counted name lines = (name ++ codes " " ++ decimal (length lines)) ∷ lines

-- an instance that is committed, with its attributes and its command
abbrev pub committed_line : ℕ × Decree → List ℕ
committed_line e = instance_text e.0 ++ codes " seq " ++ decimal e.1.attrs.seq ++ codes " deps " ++ deps_text e.1.attrs.deps ++ codes " " ++ command_text e.1.command

-- a command of the history, with its place there and its reply
abbrev pub history_line : ℕ → Happening → List ℕ
history_line place h = decimal place ++ codes " " ++ instance_text h.instance ++ codes " " ++ command_text h.command ++ codes " -> " ++ reply_text h.reply

-- the history from this place on
abbrev pub history_lines : ℕ → List Happening → List (List ℕ)
history_lines place [] = []
history_lines place (h ∷ hs) = history_line place h ∷ history_lines (place + 1) hs

-- what a client was answered
abbrev pub receipt_line : Receipt → List ℕ
receipt_line t = codes "client " ++ decimal t.client ++ codes " request " ++ decimal t.request ++ codes " " ++ instance_text t.instance ++ codes " " ++ answer_text t.answer

-- the event at this line of the script was refused
abbrev pub refused_line : ℕ × Refusal → List ℕ
refused_line e = codes "line " ++ decimal e.0 ++ codes " " ++ refusal_text e.1

-- what the audit accepts: in version 3 which generation it is, what is committed, the history, in version 3 the first seal and what the keys then have, and
-- the receipts
abbrev pub accepted_lines : Option Life → List (ℕ × Decree) → List Happening → List Receipt → List (List ℕ)
accepted_lines life committed history receipts =
    codes "verdict accepted"
    ∷ generation_lines life
    ++ counted (codes "committed") (map committed_line committed)
    ++ counted (codes "history") (history_lines 1 history)
    ++ closing_lines life
    ++ counted (codes "receipts") (map receipt_line receipts)

-- the events that were refused
abbrev pub refused_lines : List (ℕ × Refusal) → List (List ℕ)
refused_lines refused = counted (codes "refused") (map refused_line refused)

-- the frames that a run lost
abbrev pub lost_line : ℕ → List ℕ
lost_line lost = codes "lost " ++ decimal lost

-- what a replay prints
abbrev pub replay_lines : Option Life → List (ℕ × Decree) → List Happening → List Receipt → List (ℕ × Refusal) → List (List ℕ)
replay_lines life committed history receipts refused = accepted_lines life committed history receipts ++ refused_lines refused

-- what a run prints: the same, and how many frames were lost
abbrev pub run_lines : Option Life → List (ℕ × Decree) → List Happening → List Receipt → List (ℕ × Refusal) → ℕ → List (List ℕ)
run_lines life committed history receipts refused lost = replay_lines life committed history receipts refused ++ lost_line lost ∷ []

-- the audit's refusal
abbrev pub refusal_lines : Fault → List (List ℕ)
refusal_lines fault = codes "verdict refused" ∷ fault_text fault ∷ []

-- the audit's refusal of a chain: its first generation that has a fault, and that fault
abbrev pub chain_refusal_lines : ℕ → ChainFault → List (List ℕ)
chain_refusal_lines generation fault = codes "verdict refused" ∷ (codes "generation " ++ decimal generation) ∷ chain_fault_text fault ∷ []
