use Rattle.std.proofs.Common.{rules}
use Rattle.ep_main.proofs.Linked.{line_reported}
use Rattle.ep_main.proofs.chaining.push_link.Goals as goal

pub returns : goal.returns
returns c = line_reported c.push_link_line.result c.args.link.now c.args.verdict.now c.in-Some.life _ _ _ _ (search rules) (search rules) (search rules) c.push_link_line.ensures
