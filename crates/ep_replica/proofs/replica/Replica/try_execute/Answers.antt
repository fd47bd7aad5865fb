use Rattle.std.proofs.Common.{rules, inl, refl}
use Rattle.ep_replica.specs.Pending.{IsPending}
use Rattle.ep_replica.proofs.replica.Replica.try_execute.Goals as goal

pub returns-in-Err : goal.returns-in-Err
returns-in-Err c = let p : IsPending c.args.self.now c.args.instance = search rules in (p, inl refl, refl)
