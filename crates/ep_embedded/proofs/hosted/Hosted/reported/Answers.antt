use Rattle.std.proofs.Common.{rules, ◌≡◌, Some, None}
use Rattle.ep_embedded.proofs.Still.{reported_now}
use Rattle.ep_embedded.proofs.hosted.Hosted.reported.Goals as goal

pub returns-in-Some-clause-ok : goal.returns-in-Some-clause-ok
returns-in-Some-clause-ok c =
    let held : c.self.inside.held ≡ Some c.in-Some.answers = search rules in
    let none : c.take.new.self ≡ None = search rules in
    reported_now _ c.args.self.now c.in-Some.answers c.take.new.self c.self.view_is held (c.may_report.ensures.yes c.if-not-may_report.false) none
