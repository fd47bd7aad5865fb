use Rattle.std.proofs.Common.{◌∙◌}
use Rattle.ep_exec.proofs.Rising.{next_key}
use Rattle.ep_exec.proofs.listing.is_above.Goals as goal

pub returns : goal.returns
returns c value = c.is_below.ensures ∙ next_key c.args.items.now c.args.key.now value c.in-Some.last.now c.in-Some.ensures.value c.requires
