use Rattle.std.proofs.Common.{subst, sym}
use Rattle.ep_space.specs.Keys.{recorded_keys, keys_at, HasRoom}
use Rattle.ep_space.specs.Records.{Records}
use Rattle.ep_space.proofs.space.Space.put_back.Goals as goal

pub put_back-requires-clause-room : goal.put_back-requires-clause-room
put_back-requires-clause-room c = subst (λ (s : Records). HasRoom s.room (keys_at s.records c.args.id) (recorded_keys c.args.earlier)) (sym c.self.view_is) c.requires.room
