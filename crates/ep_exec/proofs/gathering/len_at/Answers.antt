use Rattle.std.proofs.Common.{◌∙◌, length, sym, ap}
use Rattle.ep_exec.specs.Settling.{first_len}
use Rattle.ep_exec.proofs.Gathered.{at_here, layer_at}
use Rattle.ep_exec.proofs.gathering.len_at.Goals as goal

pub returns-in-Some : goal.returns-in-Some
returns-in-Some c =
    let at = at_here c.args.layers.now c.args.place c.in-Some.layer.now c.in-Some.ensures.lookup.0 c.in-Some.ensures.lookup.1 in
    c.len.ensures.len ∙ (λ i. length (c.deref.ensures i).entries) ∙ sym (ap first_len (layer_at c.args.layers.now c.args.place c.in-Some.layer.now at))
