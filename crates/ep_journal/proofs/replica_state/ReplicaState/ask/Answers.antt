use Rattle.ep_journal.proofs.Whole.{asked_writable, changed_steps, refused_unmarked}
use Rattle.ep_journal.specs.Stepping.{standing_of}
use Rattle.std.proofs.Common.{refl}
use Rattle.ep_journal.proofs.replica_state.ReplicaState.ask.Goals as goal

pub returns-in_default : goal.returns-in_default
returns-in_default c = λ event a. (refused_unmarked (standing_of c.args.self.now) event c.args.mark c.in_default.is a.through, refl)

pub change-requires-clause-writable : goal.change-requires-clause-writable
change-requires-clause-writable c = asked_writable (standing_of c.args.self.now) c.requires.asked.0 _ c.requires.sound c.requires.asked.1

pub returns : goal.returns
returns c = λ event a. changed_steps c.args.self.now c.change.new.self event c.args.mark c.in-Some.mark _ c.change.result c.in-Some.is a c.change.ensures.ok c.change.ensures.refused c.change.ensures.err
