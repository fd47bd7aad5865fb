use Rattle.std.proofs.Common.{◌≡◌, ◌∙◌, cond}
use Rattle.ep_base.specs.Attributes.{same_list}
use Rattle.ep_space.specs.Index.{run_in}
use Rattle.ep_space.proofs.Entered.{run-updated}
use Rattle.ep_space.proofs.index.set_run.Goals as goal

pub returns-in-Ok : goal.returns-in-Ok
returns-in-Ok c k =
    let es = c.args.runs.now.entries in
    let key : c.in_ok-key.key.items ≡ c.args.key.now = c.in_ok-key.ensures.items in
    let places : c.in_ok-run.run'.items ≡ c.args.instances.now = c.in_ok-run.ensures.items in
    run-updated es c.insert.new.self.entries c.in_ok-key.key.items c.in_ok-run.run' c.in-Ok.ensures.updates.1 c.in-Ok.ensures.updates.3 k
    ∙ (λ d. cond (same_list k (key d)) (places d) (run_in es k))
