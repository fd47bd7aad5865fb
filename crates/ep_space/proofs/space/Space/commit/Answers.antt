use Rattle.std.proofs.Common.{subst, sym}
use Rattle.ep_space.specs.Held.{HasPlace}
use Rattle.ep_space.specs.Keys.{index_keys, keys_at, HasRoom}
use Rattle.ep_space.specs.Records.{Records}
use Rattle.ep_space.proofs.space.Space.commit.Goals as goal

pub write-requires-clause-place : goal.write-requires-clause-place
write-requires-clause-place c = subst (λ (s : Records). HasPlace s.places c.args.id) (sym c.self.view_is) c.requires.place

pub write-requires-clause-room : goal.write-requires-clause-room
write-requires-clause-room c = subst (λ (s : Records). HasRoom s.room (keys_at s.records c.args.id) (index_keys c.args.decree.command)) (sym c.self.view_is) c.requires.room
