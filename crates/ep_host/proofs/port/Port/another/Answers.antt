use Rattle.ep_host.proofs.Ordered.{admits}
use Rattle.ep_host.proofs.port.Port.another.Goals as goal

pub pass-pass-requires : goal.pass-pass-requires
pass-pass-requires g c = admits
