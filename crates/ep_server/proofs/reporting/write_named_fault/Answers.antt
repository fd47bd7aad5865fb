use Rattle.std.proofs.Common.{rules, ◌≡◌}
use Rattle.ep_server.proofs.Named.{puts_named}
use Rattle.ep_server.proofs.reporting.write_named_fault.Goals as goal

pub returns : goal.returns
returns g c =
    let text : c.as_bytes.result.now ≡ c.args.folder.now = search rules in
    puts_named _ _ _ _ _ _ _ _ _ _ _ _ _ text c.in_ok-put.ensures.0 c.in_ok-put.ensures.1 c.in_ok-put-2.ensures.0 c.in_ok-put-2.ensures.1 c.write_failure.ensures
