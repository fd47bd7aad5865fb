use Rattle.std.proofs.Common.{ap}
use Rattle.std.specs.Option.{option_copied}
use Rattle.ep_exec.specs.Layers.{reported_over}
use Rattle.ep_exec.proofs.layers.reported_over.Goals as goal

pub returns-in-Some : goal.returns-in-Some
returns-in-Some c = ap (λ l. reported_over l (option_copied c.args.reported)) c.in-Some.ensures.value

pub returns-in-None : goal.returns-in-None
returns-in-None c = ap (λ l. reported_over l (option_copied c.args.reported)) c.in-None.ensures.value
