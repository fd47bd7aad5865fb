use Rattle.std.proofs.Common.{rules, ◌≡◌, codes}
use Rattle.ep_cli.specs.Lines.{numbered}
use Rattle.ep_cli.proofs.Puts.{puts_as}
use Rattle.ep_cli.proofs.reporting.write_not_a_run.Goals as goal

pub returns : goal.returns
returns g c =
    let begins : numbered (codes "bundle refused E11 at replica ") c.from.result (codes " entry ") ≡ numbered (codes "bundle refused E11 at replica ") c.args.replica (codes " entry ") = search rules in
    let ends : numbered (codes "") c.from-2.result (codes "\n") ≡ numbered (codes "") c.args.entry (codes "\n") = search rules in
    puts_as _ _ _ _ _ _ _ _ _ _ _ begins ends c.in_ok-write_number.ensures.0 c.in_ok-write_number.ensures.1 c.write_number-2.ensures
