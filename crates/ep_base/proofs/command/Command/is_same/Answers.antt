use Rattle.ep_base.proofs.Runs.{same_where, tested}
use Rattle.ep_base.proofs.command.Command.is_same.Goals as goal

pub returns-then-is_alike-clause-same : goal.returns-then-is_alike-clause-same
returns-then-is_alike-clause-same c =
    same_where c.args.self.now c.args.other.now c.is_alike.ensures.in_range.0 c.is_alike.ensures.in_range.1 (c.is_alike.ensures.alike.0 c.if-is_alike.true) c.has_bytes_of.result c.has_bytes_of.ensures

pub returns-then-is_alike-clause-test : goal.returns-then-is_alike-clause-test
returns-then-is_alike-clause-test c = tested c.args.self.now c.args.other.now c.has_bytes_of.result (returns-then-is_alike-clause-same c)
