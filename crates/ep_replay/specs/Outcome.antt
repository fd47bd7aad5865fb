-- Where a script's lines lead, and what a replay leaves.
use Rattle.std.specs.Prelude.{◌≡◌, length}
use Rattle.ep_script.specs.Plan.{Plan}
use Rattle.ep_world.specs.Played.{collected}
use Rattle.ep_replay.specs.Replays.{Replay, IsOpening, PlayAll, AreUngiven, refusals}
use Rattle.ep_replay.specs.declared.ended.Ended.{Ended}
use Rattle.ep_replay.specs.declared.replayed.Replayed.{Replayed}

-- the script's lines, played from a world before any event, end at this
pub record EndsAt (script : Plan) (last : Replay) : Type 0 where
  pub first : Replay
  pub opening : IsOpening script.head first
  pub played : PlayAll first script.lines last

-- where the lines have led
pub record HasEnded (script : Plan) (d : Ended) : Type 0 where
  pub last : Replay
  pub at_end : EndsAt script last
  pub world : d.world ≡ last.world
  pub receipts : d.receipts.items ≡ last.receipts
  pub tried : d.tried.items ≡ last.tried
  pub ungiven : AreUngiven last.given (length last.world.messages) d.ungiven.items

-- the journals, the receipts, and the events that were refused
pub record IsReplay (script : Plan) (d : Replayed) : Type 0 where
  pub last : Replay
  pub at_end : EndsAt script last
  pub journals : d.journals ≡ collected last.world
  pub receipts : d.receipts.items ≡ last.receipts
  pub refused : d.refused.items ≡ refusals last.tried
