use Rattle.std.proofs.Common.{rules}
use Rattle.std.proofs.lemmas.Bool.Decides.{Decides-at}
use Rattle.ep_base.specs.Attributes.{same_list}
use Rattle.ep_base.proofs.Same.{Decides-same_list}
use Rattle.ep_base.proofs.deps.Deps.is_same.Goals as goal

pub returns-clause-same : goal.returns-clause-same
returns-clause-same c =
    let a = c.args.self.now in
    let b = c.args.other.now in
    Decides-at c.eq.result (same_list a b) (search rules) (Decides-same_list a b)
