use Rattle.std.proofs.Common.{◌∙◌, ◌++◌, List, append-nil, refl, sym, ap}
use Rattle.ep_world.specs.declared.world_event.WorldEvent.TheVariants.{Deliver}
use Rattle.ep_rules.specs.declared.receipt.Receipt.{Receipt as Reported}
use Rattle.ep_replay.proofs.Leading.{took, listed, unkept}
use Rattle.ep_replay.proofs.Receiving.{no_receipts}
use Rattle.ep_replay.proofs.player.Player.hand_over_alone.Goals as goal

pub returns-in-Ok : goal.returns-in-Ok
returns-in-Ok c =
    let had : List Reported = c.args.self.now.receipts.items in
    took c.args.self.now (record { world = c.deliver.new.self; clients = c.args.self.now.clients; given = c.args.self.now.given; receipts = c.args.self.now.receipts; refused = c.args.self.now.refused; keeps = c.args.self.now.keeps; tried = c.args.self.now.tried; alloc = c.args.self.now.alloc })
    c.args.line (Deliver c.args.message) c.in-Ok.ensures.ok (sym (ap (λ (ts : List Reported). had ++ ts) (no_receipts c.args.self.now.world c.deliver.new.self c.args.message c.in-Ok.ensures.ok) ∙ append-nil had)) refl refl refl (unkept c.args.self.now.keeps c.requires)
    (λ ps counted. counted) (λ own. own)

pub returns-in_ok-list-in-Err : goal.returns-in_ok-list-in-Err
returns-in_ok-list-in-Err c =
    listed c.args.self.now (record { world = c.deliver.new.self; clients = c.args.self.now.clients; given = c.args.self.now.given; receipts = c.args.self.now.receipts; refused = c.list.new.refused; keeps = c.args.self.now.keeps; tried = c.args.self.now.tried; alloc = c.args.self.now.alloc })
    c.args.line (Deliver c.args.message) c.in-Err.refusal c.in-Err.ensures.refused c.in_ok-list-in-Err.ensures.reported c.in_ok-list-in-Err.ensures.listed c.in-Err.ensures.err refl refl refl refl (unkept c.args.self.now.keeps c.requires)
