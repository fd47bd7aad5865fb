use Rattle.std.proofs.Common.{refl}
use Rattle.ep_server.proofs.Gathered.{spelled_named}
use Rattle.ep_server.proofs.opened_logs.spelled.Goals as goal

pub returns-in-Ok-clause-named : goal.returns-in-Ok-clause-named
returns-in-Ok-clause-named c = spelled_named (record { opening = c.in-Ok.opening; digest = c.args.named.now.digest; log = c.args.log }) c.args.named.now c.requires c.in-Ok.ensures refl
