use Rattle.std.proofs.Common.{◌∙◌}
use Rattle.std.specs.Option.{option_copied}
use Rattle.ep_space.specs.Keys.{recorded_keys}
use Rattle.ep_space.specs.Names.{named}
use Rattle.ep_space.proofs.Bringing.{on_ok}
use Rattle.ep_space.proofs.Room.{room_two}
use Rattle.ep_space.proofs.index.room_for_two.Goals as goal

pub returns-clause-room : goal.returns-clause-room
returns-clause-room c =
    on_ok c.room_for_one-2.result
    (room_two c.room_for_one.new.index c.room_for_one-2.new.index (recorded_keys (option_copied c.args.there)) (named c.args.first) (named c.args.second) c.in_ok-room_for_one.ensures.room c.room_for_one-2.ensures.keeps)
    c.room_for_one-2.ensures.room

pub returns-clause-same : goal.returns-clause-same
returns-clause-same c = λ k. c.room_for_one-2.ensures.same k ∙ c.room_for_one.ensures.same k
