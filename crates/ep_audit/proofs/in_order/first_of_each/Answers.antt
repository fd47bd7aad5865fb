use Rattle.std.proofs.Common.{rules}
use Rattle.ep_journal.specs.Entries.{journals_of}
use Rattle.ep_audit.specs.Turns.{all_taken}
use Rattle.ep_audit.proofs.Turning.{first_more}
use Rattle.ep_audit.proofs.in_order.first_of_each.Goals as goal

pub loop-replica-preserved : goal.loop-replica-preserved
loop-replica-preserved c = first_more c.loop-replica.replica (all_taken c.args.all (journals_of c.args.journals.now)) c.loop-replica.turns.items c.push.new.self.items c.first.result (search rules) c.in_ok-push.ensures.items c.loop-replica.invariant
