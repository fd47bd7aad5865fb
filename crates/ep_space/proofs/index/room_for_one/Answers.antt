use Rattle.std.proofs.Common.{◌∙◌, sym}
use Rattle.std.specs.Option.{option_copied}
use Rattle.ep_space.specs.Keys.{recorded_keys}
use Rattle.ep_space.specs.Names.{named}
use Rattle.ep_space.proofs.Bringing.{on_ok}
use Rattle.ep_space.proofs.Room.{room_none, room_one}
use Rattle.ep_space.proofs.index.room_for_one.Goals as goal

pub returns-then-is_named-clause-room : goal.returns-then-is_named-clause-room
returns-then-is_named-clause-room c = room_none c.args.index.now (recorded_keys (option_copied c.args.there)) (named c.args.name) (sym c.is_named.ensures ∙ c.if-is_named.true)

pub returns-clause-room : goal.returns-clause-room
returns-clause-room c = on_ok c.widen.result (room_one c.widen.new.index (recorded_keys (option_copied c.args.there)) (named c.args.name)) c.widen.ensures.room
