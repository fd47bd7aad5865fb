use Rattle.ep_ending.proofs.Naming.{line_reported}
use Rattle.ep_ending.proofs.opened.push_open.Goals as goal

pub returns : goal.returns
returns c =
    line_reported c.args.cluster c.args.instance c.replica.result c.args.text.now.items c.push_parts.new.text.items c.push_names.new.text.items c.push.new.self.items
    c.in_ok-push_parts.ensures c.replica.ensures c.in_ok-push_names.ensures c.in_ok-push.ensures.items
