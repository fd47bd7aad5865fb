use Rattle.std.proofs.Common.{◌≡◌, rules}
use Rattle.ep_library.proofs.Made.{spelled}
use Rattle.ep_library.proofs.openings.copy_made.Goals as goal
use Rattle.ep_library.specs.Openings.{file_bytes}

pub returns-in-Ok : goal.returns-in-Ok
returns-in-Ok c =
    let is : c.deref.result.now ≡ file_bytes c.args.parts.now = search rules in
    spelled c.copy_file.result c.args.parts.now c.deref.result.now (c.args.out.now, (c.args.len.now, c.args.place.now))
    (c.copy_file.new.out, (c.copy_file.new.len, c.copy_file.new.place)) is c.copy_file.ensures
