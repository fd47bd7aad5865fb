use Rattle.std.proofs.lemmas.Bool.Decides.{Decides-at}
use Rattle.ep_base.specs.Interference.{interfere}
use Rattle.ep_base.proofs.Interfering.{Decides-interfere}
use Rattle.ep_base.proofs.interference.interferes.Goals as goal

pub returns-clause-relation : goal.returns-clause-relation
returns-clause-relation c = Decides-at c.touch.result (interfere c.args.a.now c.args.b.now) c.touch.ensures (Decides-interfere c.args.a.now c.args.b.now)
