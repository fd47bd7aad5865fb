use Rattle.std.proofs.Common.{◌≡◌, ◌≢◌, None, rules}
use Rattle.ep_base.specs.Instances.{leader_of}
use Rattle.ep_rules.specs.States.{committed_in}
use Rattle.ep_replica.specs.Pending.{state_of}
use Rattle.ep_replica.proofs.Remembering.{no_subject, not_committed, woken_own, woken_other}
use Rattle.ep_replica.proofs.remembered.Remembered.note.Goals as goal

pub returns-in_default-clause-remembers : goal.returns-in_default-clause-remembers
returns-in_default-clause-remembers c = λ k g h. (let is : c.args.subject ≡ None = search rules in no_subject k c.args.journal.now c.args.subject c.args.self.now.due c.args.self.now.blockers is g h)

pub returns-then-is_none-clause-remembers : goal.returns-then-is_none-clause-remembers
returns-then-is_none-clause-remembers c = λ k g h.
    (let none : committed_in (state_of c.args.journal.now).records c.in-Some.instance ≡ None = search rules in
    not_committed k c.args.journal.now c.args.subject c.in-Some.instance c.args.self.now.due c.args.self.now.blockers c.in-Some.is none g h)

pub returns-then-eq-clause-remembers : goal.returns-then-eq-clause-remembers
returns-then-eq-clause-remembers c = λ k g h.
    woken_own k c.args.journal.now c.args.subject c.in-Some.instance c.args.self.now.due c.wake.new.due c.add.new.self c.args.self.now.blockers c.wake.new.self c.in-Some.is g c.wake.ensures.each c.wake.ensures.more c.add.ensures.more
    (let here = c.add.ensures.here in search rules) h

pub returns-else-eq-clause-remembers : goal.returns-else-eq-clause-remembers
returns-else-eq-clause-remembers c = λ k g h.
    (let other : leader_of c.in-Some.instance ≢ c.args.journal.now.me = search rules in
    woken_other k c.args.journal.now c.args.subject c.in-Some.instance c.args.self.now.due c.wake.new.due c.args.self.now.blockers c.wake.new.self c.in-Some.is g c.wake.ensures.each c.wake.ensures.more other h)
