use Rattle.std.proofs.Common.{◌++◌, ◌∙◌, List, ap, append-nil, codes, sym, subst, ℕ}
use Rattle.std.specs.Prelude.{decimal}
use Rattle.ep_base.specs.Devices.{Puts}
use Rattle.ep_cli.specs.Causes.{cause_text}
use Rattle.ep_server.proofs.reporting.write_cause.Goals as goal

pub returns-in-System : goal.returns-in-System
returns-in-System g c =
    subst
    (λ (t : List ℕ). Puts (g.F.Sink.held c.args.sink.now) (g.F.Sink.held c.write_number.new.sink) (g.F.Sink.has_failed c.args.sink.now) (g.F.Sink.has_failed c.write_number.new.sink) c.write_number.result t)
    (append-nil (codes "system error " ++ decimal c.in-System.number) ∙ sym (ap cause_text c.in-System.is))
    c.write_number.ensures
