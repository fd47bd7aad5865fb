use Rattle.ep_report.proofs.Numbers.{appended_two}
use Rattle.ep_report.proofs.parts.push_two.Goals as goal

pub returns : goal.returns
returns c = appended_two c.args.number c.digit-tens.result c.digit-ones.result c.args.text.now.items c.extend_from_slice.new.self.items c.requires.least c.requires.most c.digit-tens.ensures c.digit-ones.ensures c.in_ok-extend_from_slice.ensures.items
