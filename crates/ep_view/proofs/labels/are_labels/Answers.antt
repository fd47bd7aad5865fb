use Rattle.ep_view.proofs.AsLabels.{are_labels}
use Rattle.ep_view.proofs.labels.are_labels.Goals as goal

pub returns : goal.returns
returns c = are_labels c.args.words.now
