use Rattle.std.proofs.Common.{inr, string_bytes}
use Rattle.std.proofs.KnownBytes.{Appends-nil}
use Rattle.ep_server.proofs.FilesGiven.{are_shown}
use Rattle.ep_server.proofs.contents.show_named.Goals as goal

pub returns-in-Ok : goal.returns-in-Ok
returns-in-Ok g c =
    are_shown c.args.generation c.args.folder.now (string_bytes c.args.names.now.opening) (string_bytes c.args.names.now.log) c.in-Ok.kept c.show_files-shown.result c.put_printout.result _ _ c.in-Ok.ensures.named
    c.show_files-shown.ensures.ok c.show_files-shown.ensures.err c.put_printout.ensures

pub returns-in-Err : goal.returns-in-Err
returns-in-Err g c = inr (record { why = c.in-Err.fault; of = c.in-Err.ensures.err; silent = Appends-nil _; reported = c.turned_away.ensures })
