use Rattle.std.proofs.Common.{refl, length, ◌+◌}
use Rattle.ep_replay.proofs.Leading.{took, took_so, listed, refused_so}
use Rattle.ep_replay.proofs.player.Player.attempt_kept.Goals as goal

pub returns-in_ok-keep-in-Ok : goal.returns-in_ok-keep-in-Ok
returns-in_ok-keep-in-Ok c =
    took c.args.self.now (record { world = c.step.new.self; clients = c.collect.new.clients; given = c.args.self.now.given; receipts = c.collect.new.receipts; refused = c.args.self.now.refused; keeps = c.args.self.now.keeps; tried = c.keep.new.tried; alloc = c.args.self.now.alloc })
    c.args.line c.args.event c.in-Ok.ensures.ok (c.in_ok-collect-in-Ok.ensures.receipts c.args.self.now.world c.args.event c.in-Ok.ensures.ok) refl refl refl
    (λ _. took_so c.args.line c.next_message-first.result (length c.args.self.now.world.messages + 1) c.args.event c.in_ok-copy.copy c.last_step-outcome.result c.args.self.now.world c.step.new.self c.in-Ok.ensures.ok c.args.self.now.tried.items c.keep.new.tried.items
    c.in_ok-copy.ensures c.next_message-first.ensures (c.last_step-outcome.ensures c.args.self.now.world c.args.event c.in-Ok.ensures.ok) c.in_ok-keep-in-Ok.ensures)
    c.in_ok-collect-in-Ok.ensures.counted c.in_ok-collect-in-Ok.ensures.own

pub returns-in_ok-keep-in-Err : goal.returns-in_ok-keep-in-Err
returns-in_ok-keep-in-Err c =
    listed c.args.self.now (record { world = c.step.new.self; clients = c.args.self.now.clients; given = c.args.self.now.given; receipts = c.args.self.now.receipts; refused = c.list.new.refused; keeps = c.args.self.now.keeps; tried = c.keep-in-Err.new.tried; alloc = c.args.self.now.alloc })
    c.args.line c.args.event c.in-Err.refusal c.in-Err.ensures.refused c.in_ok-list-in-Err.ensures.reported c.in_ok-list-in-Err.ensures.listed c.in-Err.ensures.err refl refl refl refl
    (λ _. refused_so c.args.line c.args.event c.in_ok-copy.copy c.in-Err.refusal c.args.self.now.tried.items
    c.keep-in-Err.new.tried.items c.in_ok-copy.ensures c.in_ok-keep-in-Err.ensures)
