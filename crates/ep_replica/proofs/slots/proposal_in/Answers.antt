use Rattle.ep_replica.proofs.Noted.{proposal_is}
use Rattle.std.proofs.Common.{◌∙◌, ap, ℕ, List, slice_get}
use Rattle.ep_replica.proofs.slots.proposal_in.Goals as goal

pub returns : goal.returns
returns c =
    proposal_is c.args.entry.now c.in-Propose.client c.in-Propose.request c.in-Propose.command c.in-Propose.seen c.in-Propose.spared c.in-Some.frame.now c.instance.result c.in-Propose.is
    (c.in-Some.ensures.value ∙ ap (λ (fs : List (List ℕ)). slice_get fs 0) c.as_slice.ensures)
    c.instance.ensures.message
