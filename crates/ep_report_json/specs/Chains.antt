-- What the program prints of a chain as JSON.
use Rattle.std.specs.Prelude.{ℕ, List, [], ◌∷◌, Option, Some, None, codes, decimal, length}
use Rattle.ep_audit.specs.Verdicts.{summary_of}
use Rattle.ep_audit.specs.declared.chain_fault.ChainFault.{ChainFault}
use Rattle.ep_audit.specs.declared.chain_link.ChainLink.{ChainLink}
use Rattle.ep_audit.specs.declared.verdict.Verdict.{Verdict}
use Rattle.ep_json.specs.Values.{array, member, null}
use Rattle.ep_report.specs.Lives.{Life, life_in}
use Rattle.ep_report.specs.Refusals.{chain_fault_text}
use Rattle.ep_report_json.specs.JsonReports.{link_item, verdict_object}
use Rattle.ep_report_json.specs.Members.{fault_members}

abbrev pub life_value : Option Life → ℕ → ℕ → List ℕ
life_value None committed history = null
life_value (Some l) committed history = link_item l committed history

-- the item of a generation
abbrev pub link_value : ChainLink → Verdict → List ℕ
link_value l v = life_value (life_in l.journals (summary_of v)) (length v.committed.items) (length v.history.items)

abbrev pub link_values : List ChainLink → List Verdict → List (List ℕ)
link_values [] vs = []
link_values (l ∷ ls) [] = []
link_values (l ∷ ls) (v ∷ vs) = link_value l v ∷ link_values ls vs

abbrev pub chain_json : List ChainLink → List Verdict → List ℕ
chain_json ls vs = verdict_object (codes "accepted") (member (codes "generations") (array (link_values ls vs)) ∷ [])

-- the audit's refusal of a chain: its first generation that has a fault, and that fault
abbrev pub chain_refusal_json : ℕ → ChainFault → List ℕ
chain_refusal_json generation fault =
    verdict_object (codes "refused") (member (codes "generation") (decimal generation) ∷ fault_members (chain_fault_text fault))
