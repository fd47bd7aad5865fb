use Rattle.std.proofs.Common.{rules, arith, ℕ, ◌<◌, List, ◌++◌, sym, ap, ◌∙◌}
use Rattle.std.proofs.lemmas.Fmt.{decimal_digit}
use Rattle.ep_report.proofs.parts.push_number.Goals as goal

pub returns-then-number-lt10 : goal.returns-then-number-lt10
returns-then-number-lt10 c =
    let small : c.args.number < 10 = grind (rules, arith, c.if-number-lt10.true) in
    c.in_ok-push.ensures.items ∙ ap (λ (t : List ℕ). c.args.text.now.items ++ t) (sym (decimal_digit c.args.number small))
