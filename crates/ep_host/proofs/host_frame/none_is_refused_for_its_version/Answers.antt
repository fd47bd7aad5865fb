use Rattle.ep_host.proofs.Versioned.{none_for_version}
use Rattle.ep_host.proofs.host_frame.none_is_refused_for_its_version.Goals as goal

pub returns : goal.returns
returns c = none_for_version
