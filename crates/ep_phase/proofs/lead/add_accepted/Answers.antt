use Rattle.ep_phase.specs.Changes.{with_accepted}
use Rattle.ep_phase.proofs.TakenOut.{added, as_it_was}
use Rattle.ep_phase.proofs.lead.add_accepted.Goals as goal

pub returns-clause-ok : goal.returns-clause-ok
returns-clause-ok c =
    added (with_accepted c.args.from) c.count_accepted-outcome.result c.args.leads.now c.put_back-led.new.self c.write.new.self c.args.id
    c.put_back-led.result c.count_accepted-outcome.new.led c.put_back-led.ensures.old c.put_back-led.ensures.new c.write.ensures c.count_accepted-outcome.ensures.ok

pub returns-clause-err : goal.returns-clause-err
returns-clause-err c =
    as_it_was (with_accepted c.args.from) c.count_accepted-outcome.result c.args.leads.now c.put_back-led.new.self c.write.new.self c.args.id
    c.put_back-led.result c.count_accepted-outcome.new.led c.put_back-led.ensures.old c.put_back-led.ensures.new c.write.ensures c.count_accepted-outcome.ensures.err
