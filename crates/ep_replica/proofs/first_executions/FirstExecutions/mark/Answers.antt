use Rattle.std.proofs.Common.{◌∙◌, ℕ, List, Option, ap}
use Rattle.ep_base.specs.Instances.{instance_of}
use Rattle.ep_base.specs.declared.reply.Answer.{Answer}
use Rattle.ep_replica.specs.FirstExecutions.{or_spot, first_among, spot_at}
use Rattle.ep_replica.specs.declared.execution_place.ExecutionPlace.{ExecutionPlace}
use Rattle.ep_replica.proofs.FirstDone.{firsts_more}
use Rattle.ep_replica.proofs.first_executions.FirstExecutions.mark.Goals as goal

pub returns-clause-reported : goal.returns-clause-reported
returns-clause-reported c = λ es count firsts.
    firsts_more c.args.me c.args.before es c.args.entry.now c.args.self.now c.note_all.new.items.items count firsts
    (λ number low.
    c.note_all.ensures.noted number low
    ∙ ap (λ (ds : List (ℕ × Answer)). or_spot (spot_at c.self.inside.items.items number) (first_among c.args.before 0 ds (instance_of c.args.me number))) c.as_slice.ensures
    ∙ ap (λ (spots : List (Option ExecutionPlace)). or_spot (spot_at spots number) (first_among c.args.before 0 c.args.entry.now.done (instance_of c.args.me number))) c.self.view_is)
