use Rattle.std.proofs.Common.{List, subst}
use Rattle.ep_exec.specs.Layers.{layers_of}
use Rattle.ep_exec.specs.Settling.{IsGathering}
use Rattle.ep_exec.specs.Table.{Entry}
use Rattle.ep_exec.proofs.ground.or_begun.Goals as goal

pub returns-in-None : goal.returns-in-None
returns-in-None c = subst (λ (es : List Entry). IsGathering es (layers_of c.args.older.now) c.new-in-None.result) c.new.ensures.empty c.new-in-None.ensures
