use Rattle.std.proofs.Common.{◌≡◌, rules}
use Rattle.ep_library.proofs.Heirs.{kept}
use Rattle.ep_library.proofs.succeeding.keep_file.Goals as goal

pub returns-in-Ok : goal.returns-in-Ok
returns-in-Ok c =
    let own : c.in-Ok.begun.value ≡ c.new-2.result = search rules in
    kept c.args.file c.new.result c.new-2.result c.in-Ok.begun.value c.of.result.value c.of.ensures own c.new-2.ensures.checkpoint c.new-2.ensures.piece c.new.ensures
