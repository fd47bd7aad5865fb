use Rattle.std.proofs.Common.{refl}
use Rattle.ep_main.proofs.Bundling.{countable}
use Rattle.ep_main.proofs.Making.{emitted_made, not_played, stops_playing}
use Rattle.ep_main.proofs.Flags.{script_read, script_unwritten}
use Rattle.ep_main.specs.declared.engine_fault.EngineFault.TheVariants.{Memory}
use Rattle.ep_main.specs.declared.asked.Asked.TheVariants.{Replay}
use Rattle.ep_main.specs.Runs.{Does}
use Rattle.ep_cli.proofs.Printed.{not_made}
use Rattle.ep_main.proofs.replaying.replay_of.Goals as goal

pub emitted-text-requires : goal.emitted-text-requires
emitted-text-requires g c = record { accepted = c.in_ok-played.ensures.accepted; receipts = countable c.in_ok-played.played.receipts.items c.in_ok-played.played.receipts.items refl c.in_ok-played.ensures.few }

pub returns-in_err-script-clause-plays : goal.returns-in_err-script-clause-plays
returns-in_err-script-clause-plays g c zs known = not_played c.args.emit c.in_err-script.field-0.0 _ zs c.from_residual.ensures.1 (c.in_err-script.ensures.bytes zs known)

pub returns-in_err-script-clause-read : goal.returns-in_err-script-clause-read
returns-in_err-script-clause-read g c = script_read c.in_err-script.field-0.0 _ _ _ c.from_residual.ensures.1 c.in_err-script.ensures.failed

pub returns-in_err-script-clause-unwritten : goal.returns-in_err-script-clause-unwritten
returns-in_err-script-clause-unwritten g c = script_unwritten c.in_err-script.field-0.0 _ c.from_residual.ensures.1

pub returns-in-Ok-clause-plays : goal.returns-in-Ok-clause-plays
returns-in-Ok-clause-plays g c zs known out wrote =
    emitted_made c.args.emit c.in_ok-script.script c.in_ok-played.played c.in-Ok.text.items zs out (c.in_ok-script.ensures.bytes zs known) c.in_ok-played.ensures.value c.in_ok-played.ensures.accepted
    c.in-Ok.ensures.value wrote

pub returns-in-Err-clause-plays : goal.returns-in-Err-clause-plays
returns-in-Err-clause-plays g c zs known out silent = stops_playing c.args.emit c.in-Err.fault zs out c.in-Err.ensures.memory silent

pub returns-in_err-played-clause-plays : goal.returns-in_err-played-clause-plays
returns-in_err-played-clause-plays g c zs known =
    not_made (Does (Replay c.args.emit)) _ Memory zs c.from_residual-in_err-played.ensures.1 (λ out silent. stops_playing c.args.emit Memory zs out refl silent)
