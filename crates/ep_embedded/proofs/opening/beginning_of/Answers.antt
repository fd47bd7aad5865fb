use Rattle.std.proofs.Common.{Option, sym, subst}
use Rattle.std.specs.Prelude.{IfErr}
use Rattle.std.specs.Option.{option_map}
use Rattle.ep_embedded.specs.Beginning.{IsUnfounded}
use Rattle.ep_embedded.specs.Hosting.{Buffer}
use Rattle.ep_embedded.proofs.opening.beginning_of.Goals as goal

pub returns-in-Some-clause-err : goal.returns-in-Some-clause-err
returns-in-Some-clause-err c = subst (λ (o : Option Buffer). IfErr c.beginning_in.result (IsUnfounded c.args.cluster (option_map (λ v. v.items) o))) (sym c.in-Some.is) c.beginning_in.ensures.err
