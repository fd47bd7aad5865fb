use Rattle.std.proofs.Common.{rules, ◌≡◌}
use Rattle.ep_cli.proofs.Puts.{puts_in_two}
use Rattle.ep_cli.proofs.reporting.write_words_refused.Goals as goal

pub returns : goal.returns
returns g c =
    let text : c.as_bytes.result.now ≡ c.args.why.now = search rules in
    puts_in_two _ _ _ _ _ _ _ _ _ _ c.in_ok-put.ensures.0 c.in_ok-put.ensures.1 text c.put-2.ensures
