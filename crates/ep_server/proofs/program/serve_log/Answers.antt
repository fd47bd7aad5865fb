use Rattle.std.proofs.Common.{None, Err, refl}
use Rattle.std.proofs.KnownBytes.{Appends-nil}
use Rattle.ep_server.proofs.Serving.{concludes_after, has_served}
use Rattle.ep_server.specs.declared.server_fault.ServerFault.TheVariants.{Open}
use Rattle.ep_server.proofs.program.serve_log.Goals as goal

pub returns-in-Ok : goal.returns-in-Ok
returns-in-Ok g c = λ bytes zs was left.
    let written = c.in-Ok.ensures.written bytes was in
    let ok = c.in-Ok.ensures.ok in
    record {
      cut = c.in-Ok.node.cut;
      outcome = c.served-outcome.result;
      happens = has_served _ _ _ c.in-Ok.node bytes zs written.0 _ _ _ _ ok.1 ok.2 c.in-Ok.ensures.origin (ok.3 bytes was) written.1 written.2 (c.served-outcome.ensures.over zs left);
      concluded = concludes_after g.F.Sink.held g.F.Sink.has_failed _ _ _ _ _ _ _ _ _ c.cut.ensures c.write_first.ensures c.served-outcome.ensures.unreported c.concluded.ensures.for_good c.concluded.ensures.concluded;
    }

pub returns-in-Err : goal.returns-in-Err
returns-in-Err g c = λ bytes zs was left. record {
  cut = None;
  outcome = Err (Open c.in-Err.fault);
  happens = (c.in-Err.ensures.err.0 bytes was, c.in-Err.ensures.err.1, Appends-nil _, refl);
  concluded = c.concluded-in-Err.ensures.concluded;
}
