use Rattle.std.proofs.Common.{ap, sym, refl, ◌∙◌, Option, Some, None, Bool, ◌&&◌, cond}
use Rattle.ep_base.specs.Quorums.{may_spare}
use Rattle.ep_rules.specs.Cells.{Refusal, NotMine, OutOfRange}
use Rattle.ep_journal.proofs.screen.screen_request.Goals as goal

pub returns-then-not-may_propose-clause-refused : goal.returns-then-not-may_propose-clause-refused
returns-then-not-may_propose-clause-refused c = λ f me seen named.
    (OutOfRange, ap (λ b. cond {A = Option Refusal} (b && may_spare f me named) None (Some OutOfRange)) (sym c.may_propose.ensures ∙ c.if-not-may_propose.true), refl)

pub returns-clause-ok : goal.returns-clause-ok
returns-clause-ok c = sym c.may_propose.ensures ∙ c.if-not-may_propose.false
