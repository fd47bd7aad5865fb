use Rattle.std.proofs.Common.{◌∙◌}
use Rattle.std.proofs.lemmas.Bool.Decides.{Decides-at}
use Rattle.ep_base.specs.Sameness.{same_options}
use Rattle.ep_base.proofs.Same.{Decides-same_options}
use Rattle.ep_base.proofs.reply_values.ReplyValues.is_same.Goals as goal

pub returns-clause-same : goal.returns-clause-same
returns-clause-same c =
    Decides-at c.are_same.result (same_options c.args.self.now c.args.other.now)
    (c.are_same.ensures ∙ (λ i. same_options (c.as_slice.ensures.value i) (c.as_slice-2.ensures.value i)))
    (Decides-same_options c.args.self.now c.args.other.now)
