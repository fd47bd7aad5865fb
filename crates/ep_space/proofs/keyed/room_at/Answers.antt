use Rattle.std.proofs.Common.{List, ℕ, ap, subst}
use Rattle.ep_space.specs.Index.{HasRuns}
use Rattle.ep_space.specs.Keys.{index_keys, recorded_keys}
use Rattle.ep_space.proofs.Bringing.{on_ok}
use Rattle.ep_space.proofs.keyed.room_at.Goals as goal

pub returns-clause-room : goal.returns-clause-room
returns-clause-room c =
    on_ok c.make_room.result
    (subst (λ (ks : List (List ℕ)). HasRuns c.make_room.new.index ks (index_keys c.args.command.now)) (ap recorded_keys c.get.ensures))
    c.make_room.ensures.room
