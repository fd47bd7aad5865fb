use Rattle.std.proofs.Common.{rules, ◌≡◌}
use Rattle.ep_server.proofs.Gathered.{puts_behind}
use Rattle.ep_server.proofs.unopened.put_line.Goals as goal

pub returns : goal.returns
returns g c =
    let text : c.as_bytes.result.now ≡ c.args.folder.now = search rules in
    puts_behind _ _ _ _ _ _ _ _ _ _ _ _ _ text c.in_ok-put.ensures.0 c.in_ok-put.ensures.1 c.in_ok-put-2.ensures.0 c.in_ok-put-2.ensures.1 c.write_folder_fault.ensures
