use Rattle.std.proofs.Common.{◌∙◌, refl, sym}
use Rattle.std.specs.Option.{option_copied}
use Rattle.ep_space.specs.Index.{run, with_instance}
use Rattle.ep_space.specs.Keys.{recorded_keys}
use Rattle.ep_space.specs.Names.{named}
use Rattle.ep_space.proofs.Bringing.{one_step}
use Rattle.ep_space.proofs.Room.{room_sole}
use Rattle.ep_space.proofs.index.enter_one.Goals as goal

pub add_unless-requires-clause-rising : goal.add_unless-requires-clause-rising
add_unless-requires-clause-rising c = c.requires.stands.rising (named c.args.name)

pub add_unless-requires-clause-room : goal.add_unless-requires-clause-room
add_unless-requires-clause-room c = λ goes. room_sole c.args.index.now (recorded_keys (option_copied c.args.there)) (named c.args.name) c.requires.room (sym c.is_named-stays.ensures ∙ goes)

pub returns : goal.returns
returns c = λ k.
    one_step with_instance (recorded_keys (option_copied c.args.there)) (named c.args.name) k _ _ c.args.id (run c.args.index.now k) _ c.is_named-stays.ensures refl (c.add_unless.ensures.runs k)
