use Rattle.ep_embedded.proofs.Still.{prepared}
use Rattle.ep_embedded.proofs.hosted.Hosted.prepare.Goals as goal

pub returns-in-Ok-clause-ok : goal.returns-in-Ok-clause-ok
returns-in-Ok-clause-ok c =
    prepared _ c.args.self.now c.all_answers.new.node c.clear.new.self.items c.deref.result.now c.args.after c.args.most c.taken-self-inside.result c.in-Ok.answers c.self.view_is
    (c.is_all_lent.ensures.yes c.if-not-is_all_lent.false) (c.is_holding.ensures.none c.if-is_holding.false) c.deref.ensures.value c.in-Ok.ensures.reported c.all_answers.ensures.same c.clear.ensures.items c.taken-self-inside.ensures
