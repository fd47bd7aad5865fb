use Rattle.std.proofs.Common.{◌≡◌, List, [], length, take}
use Rattle.ep_rules.specs.declared.receipt.Receipt.{Receipt}
use Rattle.ep_run.specs.Asking.{asked_in}
use Rattle.ep_run.specs.Walks.{Lists}
use Rattle.ep_run.proofs.refusals.list_all.Given as goal

abbrev pub invariant-loop-section : goal.invariant-loop-section
invariant-loop-section l = (before : List (List Receipt)) → length before ≡ length l.sections → Lists (asked_in [] (take l.section-index l.sections) before) l.nodes l.initial.cursors l.cursors l.initial.refused.items l.refused.items
