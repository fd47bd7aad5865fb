use Rattle.std.proofs.Common.{sym}
use Rattle.ep_space.specs.Index.{is_at}
use Rattle.ep_space.proofs.Standing.{key-passes, stands-here}
use Rattle.ep_space.proofs.index.place_of.Goals as goal

pub returns-in-Some-clause-some : goal.returns-in-Some-clause-some
returns-in-Some-clause-some c =
    stands-here c.args.runs.now.entries c.in-Some.at c.args.key.now (c.in-Some.field-0-1.now, c.in-Some.field-0-2.now)
    c.in-Some.ensures.entry
    (key-passes (is_at c.args.key.now) c.args.runs.now.entries c.in-Some.field-0-1.now (sym c.in-Some.ensures.key))
