use Rattle.std.proofs.Common.{subst}
use Rattle.ep_space.specs.Index.{roomy_keys}
use Rattle.ep_space.specs.Indexed.{Indexed}
use Rattle.ep_space.specs.Keys.{index_keys, keys_at, HasRoom}
use Rattle.ep_space.proofs.Bringing.{on_ok}
use Rattle.ep_space.proofs.Kept.{kept-same}
use Rattle.ep_space.proofs.Room.{with_room}
use Rattle.ep_space.proofs.keyed.Keyed.make_room.Goals as goal

pub invariant_of-self : goal.invariant_of-self
invariant_of-self c = (
  kept-same c.self.inside.table c.self.inside.index c.room_at.new.index c.self.invariant.0 c.room_at.ensures.same,
  c.self.invariant.1,
  c.self.invariant.2,
)

pub returns-clause-room : goal.returns-clause-room
returns-clause-room c =
    let y = c.room_at.new.index in
    on_ok c.room_at.result
    (λ h.
    subst (λ (x : Indexed). HasRoom (roomy_keys y) (keys_at x.held c.args.id) (index_keys c.args.command.now)) c.self.view_is
    (with_room y (keys_at c.self.inside.table.held c.args.id) (index_keys c.args.command.now) h))
    c.room_at.ensures.room
