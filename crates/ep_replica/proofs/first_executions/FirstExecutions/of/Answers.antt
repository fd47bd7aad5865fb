use Rattle.std.proofs.Common.{ℕ, List, length, subst}
use Rattle.ep_base.specs.declared.reply.Answer.{Answer}
use Rattle.ep_replica.specs.FirstExecutions.{HavePlaces}
use Rattle.ep_replica.proofs.first_executions.FirstExecutions.of.Goals as goal

pub mark-requires : goal.mark-requires
mark-requires c = record {
  room = subst (λ (ds : List (ℕ × Answer)). HavePlaces c.args.me (length c.make_room.new.self) ds) c.as_slice.ensures (c.top_of.ensures c.args.me (length c.make_room.new.self) c.in_ok-make_room.ensures.room);
}
