use Rattle.std.proofs.Common.{length, ap}
use Rattle.ep_exec.proofs.Layered.{counted_all}
use Rattle.ep_exec.proofs.ground.Ground.at_most.Goals as goal

pub returns : goal.returns
returns c =
    counted_all c.self.inside.listing c.args.self.now c.deref.result.now c.self.inside.older.items (length c.entries-keys.result.now) c.count.result c.saturating_add.result
    c.deref.ensures.value c.self.view_is (ap length c.entries-keys.ensures) c.count.ensures c.saturating_add.ensures
