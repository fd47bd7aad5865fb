use Rattle.std.proofs.Common.{◌≡◌, ◌≤◌, arith, rules, false, length}
use Rattle.ep_explain.proofs.Keeping.{pulled}
use Rattle.ep_explain.proofs.kept.KeptSource.pull.Goals as goal

pub returns-clause-bytes : goal.returns-clause-bytes
returns-clause-bytes g c =
    let over : length c.args.self.now.bytes ≤ c.args.self.now.at = grind arith in
    let after : length c.pull_more.new.self.bytes ≤ c.pull_more.new.self.at = grind arith in
    let still : c.args.self.now.is_over ≡ false = search rules in
    pulled g.S.Source.left c.args.self.now c.pull_more.new.self _ _ c.pull_more.result c.pull_more.new.buf over after still c.pull_more.ensures.over c.pull_more.ensures.goes_on c.pull_more.ensures.bytes
