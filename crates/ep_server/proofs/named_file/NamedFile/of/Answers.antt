use Rattle.ep_server.proofs.Replayed.{by_digest}
use Rattle.ep_server.proofs.named_file.NamedFile.of.Goals as goal

pub returns-clause-opened : goal.returns-clause-opened
returns-clause-opened c = by_digest _ c.args.file c.into_file.ensures c.digest-digest.ensures
