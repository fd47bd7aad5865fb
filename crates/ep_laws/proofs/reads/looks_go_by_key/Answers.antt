use Rattle.ep_laws.proofs.ByKey.{looks_go_by_key_lem}
use Rattle.ep_laws.proofs.reads.looks_go_by_key.Goals as goal

pub returns : goal.returns
returns c = looks_go_by_key_lem
