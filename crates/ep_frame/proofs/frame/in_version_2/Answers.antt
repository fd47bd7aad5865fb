use Rattle.std.proofs.Common.{List, ℕ, ap, ◌∙◌}
use Rattle.std.specs.Prelude.{slice_set as set}
use Rattle.ep_frame.proofs.Upgrading.{set_third}
use Rattle.ep_frame.proofs.frame.in_version_2.Goals as goal

pub returns : goal.returns
returns c = c.in_ok-from_vec.ensures.ok ∙ ap (λ (bs : List ℕ). set bs 2 2) c.in_ok-copy.ensures.items ∙ set_third c.args.bytes.now 2 c.requires
