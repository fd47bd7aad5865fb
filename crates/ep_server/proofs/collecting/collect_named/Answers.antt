use Rattle.std.proofs.Common.{inr, string_bytes}
use Rattle.std.proofs.KnownBytes.{Appends-nil}
use Rattle.ep_server.proofs.FilesGiven.{are_collected}
use Rattle.ep_server.proofs.collecting.collect_named.Goals as goal

pub returns-in-Ok : goal.returns-in-Ok
returns-in-Ok g c =
    are_collected string_bytes c.args.names.now.logs.items c.args.names.now.receipts.items c.in-Ok.gathered.logs.items c.in-Ok.gathered.receipts.items c.bundle_of.result c.put_printout.result _ _
    c.in-Ok.ensures.logs c.in-Ok.ensures.receipts c.bundle_of.ensures.ok c.bundle_of.ensures.err c.put_printout.ensures

pub returns-in-Err : goal.returns-in-Err
returns-in-Err g c = inr (record { why = c.in-Err.fault; of = c.in-Err.ensures.err; silent = Appends-nil _; reported = c.turned_away.ensures })
