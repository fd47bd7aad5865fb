use Rattle.std.proofs.Common.{sym, subst, OnOk}
use Rattle.ep_script.specs.declared.agenda_line.AgendaLine.{AgendaLine}
use Rattle.ep_replay.specs.Replays.{Asks}
use Rattle.ep_replay.specs.Tables.{LeadsTo}
use Rattle.ep_replay.proofs.player.Player.ask.Goals as goal

pub returns-in-Propose : goal.returns-in-Propose
returns-in-Propose c = subst (λ (asked : AgendaLine). OnOk c.propose.result (LeadsTo (λ p q. Asks p c.args.line asked q) c.args.self.now c.propose.new.self)) (sym c.in-Propose.is) c.propose.ensures

pub returns-in-GiveUp : goal.returns-in-GiveUp
returns-in-GiveUp c = subst (λ (asked : AgendaLine). OnOk c.attempt.result (LeadsTo (λ p q. Asks p c.args.line asked q) c.args.self.now c.attempt.new.self)) (sym c.in-GiveUp.is) c.attempt.ensures

pub returns-in-Recover : goal.returns-in-Recover
returns-in-Recover c = subst (λ (asked : AgendaLine). OnOk c.attempt-in-Recover.result (LeadsTo (λ p q. Asks p c.args.line asked q) c.args.self.now c.attempt-in-Recover.new.self)) (sym c.in-Recover.is) c.attempt-in-Recover.ensures
