use Rattle.std.proofs.Common.{◌++◌, Err, refl}
use Rattle.std.proofs.KnownBytes.{Appends-nil}
use Rattle.ep_server.proofs.InFolders.{has_served_there, unready_there}
use Rattle.ep_server.proofs.Serving.{ends_after}
use Rattle.ep_server.proofs.in_folder.serve_folder.Goals as goal
use Rattle.ep_server.specs.Served.{reported_first}

pub returns-in-Ok : goal.returns-in-Ok
returns-in-Ok g c = λ zs left. record {
  first = c.in-Ok.ensures.reported.first;
  then_ = c.in-Ok.ensures.reported.then_;
  outcome = c.served-outcome.result;
  happens = has_served_there _ _ _ _ c.in-Ok.node zs _ _ _ c.in-Ok.ensures.ok.1 (c.served-outcome.ensures.over zs left);
  concluded =
      ends_after g.F.Sink.held g.F.Sink.has_failed c.served-outcome.result c.concluded.result c.args.streams.now.fault_writer c.ready.new.fault_writer _ c.concluded.new.fault_writer
      (reported_first c.in-Ok.ensures.reported.first ++ reported_first c.in-Ok.ensures.reported.then_) c.in-Ok.ensures.reported.reported c.served-outcome.ensures.unreported c.concluded.ensures.for_good c.concluded.ensures.concluded;
}

pub returns-in-Err : goal.returns-in-Err
returns-in-Err g c = λ zs left. record {
  first = c.in-Err.ensures.reported.first;
  then_ = c.in-Err.ensures.reported.then_;
  outcome = Err c.in-Err.fault;
  happens = unready_there _ _ _ _ zs c.in-Err.fault _ _ c.in-Err.ensures.err (Appends-nil _);
  concluded =
      ends_after g.F.Sink.held g.F.Sink.has_failed (Err c.in-Err.fault) c.concluded-in-Err.result c.args.streams.now.fault_writer c.ready.new.fault_writer _ c.concluded-in-Err.new.fault_writer
      (reported_first c.in-Err.ensures.reported.first ++ reported_first c.in-Err.ensures.reported.then_) c.in-Err.ensures.reported.reported refl c.concluded-in-Err.ensures.for_good c.concluded-in-Err.ensures.concluded;
}
