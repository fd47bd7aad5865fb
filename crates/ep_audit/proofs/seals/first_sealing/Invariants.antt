use Rattle.std.proofs.Common.{◌≡◌, drop}
use Rattle.ep_audit.specs.Sealed.{first_sealing}
use Rattle.ep_audit.proofs.seals.first_sealing.Given as goal

abbrev pub invariant-loop-happening : goal.invariant-loop-happening
invariant-loop-happening l = first_sealing (drop l.happening-index l.history) ≡ first_sealing l.history
