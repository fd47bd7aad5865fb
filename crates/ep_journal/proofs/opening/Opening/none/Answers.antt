use Rattle.std.proofs.Common.{◌≡◌, ◌≤◌, length, ap, ◌∙◌, arith}
use Rattle.std.specs.FinMap.{entries}
use Rattle.ep_exec.proofs.Rising.{none_listed}
use Rattle.ep_rules.specs.OneMap.{Contents}
use Rattle.ep_journal.proofs.opening.Opening.none.Goals as goal

pub invariant_of-result : goal.invariant_of-result
invariant_of-result c =
    let none : length (entries c.new.result) ≡ 0 = ap (λ (m : Contents). length (entries m)) c.new.ensures ∙ ap length none_listed in
    (omega arith, omega arith)
