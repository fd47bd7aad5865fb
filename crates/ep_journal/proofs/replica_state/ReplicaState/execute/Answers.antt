use Rattle.ep_journal.specs.Standing.{stands}
use Rattle.ep_journal.specs.Stepping.{standing_of}
use Rattle.ep_journal.specs.declared.event.Event.TheVariants.{Execute}
use Rattle.ep_journal.proofs.Whole.{executed_steps, refused_root, refused_on}
use Rattle.std.proofs.Common.{refl}
use Rattle.ep_journal.proofs.replica_state.ReplicaState.execute.Goals as goal

pub returns-in_err-done : goal.returns-in_err-done
returns-in_err-done c =
    let p = c.args.self.now in
    let fault = c.in_err-done.field-0.0 in
    let kept = c.in_err-done.ensures.err in
    refused_on (standing_of p) _ (Execute c.args.root) c.args.mark fault c.from_residual.result c.from_residual.ensures.1
    (refused_root p c.args.root c.args.mark c.in-Some._mark fault c.in-Some.is c.requires.through c.in_err-done.ensures.refused)
    (λ t. stands p.me p.space p.lead (kept.0 t) (kept.1 t))

pub returns : goal.returns
returns c =
    let p = c.args.self.now in
    executed_steps p (record p { executed = c.execute.new.executed; store = c.execute.new.store }) c.args.root c.args.mark c.in-Some._mark c.none.result c.in_ok-done.done c.in-Some.is c.none.ensures c.requires.sound c.requires.through
    refl refl refl c.in_ok-done.ensures.ok
