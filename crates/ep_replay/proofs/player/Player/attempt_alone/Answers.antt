use Rattle.std.proofs.Common.{refl}
use Rattle.ep_replay.proofs.Leading.{took, listed, unkept}
use Rattle.ep_replay.proofs.player.Player.attempt_alone.Goals as goal

pub returns-in_ok-collect-in-Ok : goal.returns-in_ok-collect-in-Ok
returns-in_ok-collect-in-Ok c =
    took c.args.self.now (record { world = c.step.new.self; clients = c.collect.new.clients; given = c.args.self.now.given; receipts = c.collect.new.receipts; refused = c.args.self.now.refused; keeps = c.args.self.now.keeps; tried = c.args.self.now.tried; alloc = c.args.self.now.alloc })
    c.args.line c.args.event c.in-Ok.ensures.ok (c.in_ok-collect-in-Ok.ensures.receipts c.args.self.now.world c.args.event c.in-Ok.ensures.ok) refl refl refl (unkept c.args.self.now.keeps c.requires)
    c.in_ok-collect-in-Ok.ensures.counted c.in_ok-collect-in-Ok.ensures.own

pub returns-in_ok-list-in-Err : goal.returns-in_ok-list-in-Err
returns-in_ok-list-in-Err c =
    listed c.args.self.now (record { world = c.step.new.self; clients = c.args.self.now.clients; given = c.args.self.now.given; receipts = c.args.self.now.receipts; refused = c.list.new.refused; keeps = c.args.self.now.keeps; tried = c.args.self.now.tried; alloc = c.args.self.now.alloc })
    c.args.line c.args.event c.in-Err.refusal c.in-Err.ensures.refused c.in_ok-list-in-Err.ensures.reported c.in_ok-list-in-Err.ensures.listed c.in-Err.ensures.err refl refl refl refl (unkept c.args.self.now.keeps c.requires)
