use Rattle.ep_script.proofs.KeySets.{opens_with_none}
use Rattle.ep_script.proofs.script_opening.ScriptOpening.none.Goals as goal

pub invariant_of-result : goal.invariant_of-result
invariant_of-result c = opens_with_none c.new.result.items c.new.ensures.items
