use Rattle.std.proofs.Common.{◌∙◌, [], ap}
use Rattle.ep_rules.specs.InterferenceSet.{touches}
use Rattle.ep_rules.specs.States.{or_zero}
use Rattle.ep_space.specs.Gathering.{gather_all, next_attrs}
use Rattle.ep_space.proofs.Bringing.{on_value}
use Rattle.ep_space.proofs.Gathering.{gathered-every}
use Rattle.ep_space.proofs.gathered.gathered_every.Goals as goal

pub returns : goal.returns
returns c =
    let m = c.args.records.now.held in
    let except = or_zero c.args.except in
    on_value c.gathered_run.result
    (λ g e. ap next_attrs e ∙ ap (λ is. next_attrs (gather_all (touches c.args.command.now except) m (record { seq = 0; deps = [] }) is)) (c.as_slice.ensures.value ∙ c.in_ok-all.ensures.instances) ∙ gathered-every c.args.command.now except m)
    c.gathered_run.ensures
