use Rattle.std.proofs.Common.{◌∙◌, Ok, ap, refl}
use Rattle.clap.specs.Matches.{found_of}
use Rattle.clap.specs.Walk.{rows_of}
use Rattle.ep_main.specs.Words.{run_words}
use Rattle.ep_main.specs.Options.{Options}
use Rattle.ep_main.proofs.Choosing.{chosen_as, ok_is, options_are}
use Rattle.ep_main.proofs.Literals.{err_not_ok}
use Rattle.ep_main.proofs.command_line.options_of.Goals as goal

pub returns-in_err-emit-clause-chosen : goal.returns-in_err-emit-clause-chosen
returns-in_err-emit-clause-chosen c o chooses = absurd (err_not_ok _ o.emit _ refl (c.in_err-emit.ensures.named o.emit chooses.emit))

pub returns-in_err-host-clause-chosen : goal.returns-in_err-host-clause-chosen
returns-in_err-host-clause-chosen c o chooses = absurd (err_not_ok _ o.host _ refl (c.in_err-host.ensures.named o.host chooses.host))

pub returns-in_err-capacity-clause-chosen : goal.returns-in_err-capacity-clause-chosen
returns-in_err-capacity-clause-chosen c o chooses = absurd (err_not_ok _ o.capacity _ refl (c.in_err-capacity.ensures.spelled o.capacity chooses.capacity))

pub returns-in_err-turns-clause-chosen : goal.returns-in_err-turns-clause-chosen
returns-in_err-turns-clause-chosen c o chooses = absurd (err_not_ok _ o.turns _ refl (c.in_err-turns.ensures.spelled o.turns chooses.turns))

pub returns-clause-chosen : goal.returns-clause-chosen
returns-clause-chosen c o chooses =
    ap (λ (x : Options). Ok x)
    (c.new.ensures ∙ options_are _ _ _ _ o (ok_is _ _ (c.in_ok-host.ensures.named o.host chooses.host)) (ok_is _ _ (c.in_ok-emit.ensures.named o.emit chooses.emit))
    (ok_is _ _ (c.in_ok-capacity.ensures.spelled o.capacity chooses.capacity)) (ok_is _ _ (c.in_ok-turns.ensures.spelled o.turns chooses.turns)))

pub returns-clause-only : goal.returns-clause-only
returns-clause-only c =
    chosen_as (run_words (rows_of (found_of c.args.options.now))) _ (record { host = c.in_ok-host.host; emit = c.in_ok-emit.emit; capacity = c.in_ok-capacity.capacity; turns = c.in_ok-turns.turns })
    c.new.ensures
    (record { host = c.in_ok-host.ensures.only; capacity = c.in_ok-capacity.ensures.only; turns = c.in_ok-turns.ensures.only; emit = c.in_ok-emit.ensures.only })
