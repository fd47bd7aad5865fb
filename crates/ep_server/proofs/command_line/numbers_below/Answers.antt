use Rattle.std.proofs.Common.{rules, ◌≡◌, ℕ, ◌*◌, ◌<◌, arith, sym}
use Rattle.ep_server.proofs.Spelled.{with_digit}
use Rattle.ep_server.proofs.command_line.numbers_below.Goals as goal

pub returns-in-3 : goal.returns-in-3
returns-in-3 c =
    let digit : 2 * c.args.size ≡ 2 = search rules in
    sym (with_digit c.args.size 2 digit (omega arith))

pub returns-in-5 : goal.returns-in-5
returns-in-5 c =
    let digit : 2 * c.args.size ≡ 4 = search rules in
    sym (with_digit c.args.size 4 digit (omega arith))

pub returns-in_default : goal.returns-in_default
returns-in_default c =
    let digit : 2 * c.args.size ≡ 6 = search rules in
    sym (with_digit c.args.size 6 digit (omega arith))
