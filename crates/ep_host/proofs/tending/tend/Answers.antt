use Rattle.std.proofs.Common.{◌≡◌, ◌||◌, is_some, sym, ap, refl, ◌∙◌}
use Rattle.ep_host.proofs.Pumping.{tends}
use Rattle.ep_host.proofs.tending.tend.Goals as goal
use Rattle.ep_host.proofs.tending.tend.Goals.{then-given, else-given}

pub returns-clause-tends : goal.returns-clause-tends
returns-clause-tends c =
    let executed = c.execute_next-executed.result in
    let moved : c.if-given.result ≡ (is_some c.args.frame || c.execute_next-executed.result) = elim c.if-given.branch [
      | then-given w ↦ w.result-is ∙ w.if-given.true ∙ sym (ap (λ b. b || c.execute_next-executed.result) (sym c.is_some-given.ensures ∙ w.if-given.true))
      | else-given w ↦ w.result-is ∙ sym (ap (λ b. b || c.execute_next-executed.result) (sym c.is_some-given.ensures ∙ w.if-given.false))
    ] in
    tends c.args.frame c.args.replica.now c.handle-frames.new.replica c.execute_next-executed.new.self c.execute_next-executed.result
    record {
      moved = c.if-given.result;
      frames = c.handle-frames.result.frames;
      lost = c.handle-frames.result.lost;
    }
    c.handle-frames.result.frames.items c.handle-frames.result.lost c.handle-frames.ensures.handles c.execute_next-executed.ensures moved refl refl
