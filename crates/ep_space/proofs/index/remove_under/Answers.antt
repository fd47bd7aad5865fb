use Rattle.std.proofs.Common.{sym}
use Rattle.ep_space.specs.Index.{without}
use Rattle.ep_space.proofs.Entered.{run-changed}
use Rattle.ep_space.proofs.index.remove_under.Goals as goal

pub returns : goal.returns
returns c =
    run-changed (without c.args.id) c.args.runs.now.entries _ c.args.key.now c.in-Some.run'.now c.take.new.run (sym c.in-Some.ensures.value) (c.get_mut.follows.holds c.take.new.run).0 c.take.ensures
