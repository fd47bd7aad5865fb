use Rattle.std.proofs.Common.{ap, ◌∙◌}
use Rattle.ep_rules.specs.Answers.{answer}
use Rattle.ep_prepare.specs.Chosen.{choose_with}
use Rattle.ep_prepare.proofs.choosing.choose.Goals as goal

pub returns : goal.returns
returns c = c.choose_with.ensures ∙ ap (λ top. choose_with c.args.size c.args.leader top (λ r. answer c.args.answers.now r)) c.top_ballot-top.ensures
