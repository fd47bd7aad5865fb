use Rattle.std.proofs.Common.{ℕ, List, take}
use Rattle.ep_rules.specs.declared.receipt.Receipt.{Receipt}
use Rattle.ep_run.specs.Asking.{asked_by}
use Rattle.ep_run.specs.Walks.{Lists}
use Rattle.ep_run.proofs.refusals.list_section.Given as goal

abbrev pub invariant-loop-number : goal.invariant-loop-number
invariant-loop-number l = (ps : List ℕ) (ts : List Receipt) → Lists (asked_by ps ts (take l.number-index l.number-items)) l.nodes l.initial.cursors l.cursors l.initial.refused.items l.refused.items
