use Rattle.std.proofs.Common.{sym, subst, OnOk}
use Rattle.ep_script.specs.declared.line.Line.{Line}
use Rattle.ep_replay.specs.Replays.{Plays}
use Rattle.ep_replay.specs.Tables.{LeadsTo}
use Rattle.ep_replay.proofs.player.Player.play.Goals as goal

pub returns-in-Agenda : goal.returns-in-Agenda
returns-in-Agenda c = subst (λ (what : Line). OnOk c.ask.result (LeadsTo (λ p q. Plays p c.args.line what q) c.args.self.now c.ask.new.self)) (sym c.in-Agenda.is) c.ask.ensures

pub returns-in-Execute : goal.returns-in-Execute
returns-in-Execute c = subst (λ (what : Line). OnOk c.attempt.result (LeadsTo (λ p q. Plays p c.args.line what q) c.args.self.now c.attempt.new.self)) (sym c.in-Execute.is) c.attempt.ensures

pub returns-in-Deliver : goal.returns-in-Deliver
returns-in-Deliver c = subst (λ (what : Line). OnOk c.deliver.result (LeadsTo (λ p q. Plays p c.args.line what q) c.args.self.now c.deliver.new.self)) (sym c.in-Deliver.is) c.deliver.ensures

pub returns-in-Flush : goal.returns-in-Flush
returns-in-Flush c = subst (λ (what : Line). OnOk c.flush.result (LeadsTo (λ p q. Plays p c.args.line what q) c.args.self.now c.flush.new.self)) (sym c.in-Flush.is) c.flush.ensures
