use Rattle.std.proofs.Common.{sym, ◌∙◌}
use Rattle.ep_embedded.proofs.Still.{not_executed}
use Rattle.ep_embedded.proofs.hosted.Hosted.execute_next.Goals as goal

pub returns-in-Err-clause-err : goal.returns-in-Err-clause-err
returns-in-Err-clause-err c = not_executed _ c.args.self.now c.execute_own.new.node c.in-Err.fault c.self.view_is (sym c.is_anew.ensures ∙ c.if-is_anew.false) c.in-Err.ensures.err
