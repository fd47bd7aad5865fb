use Rattle.std.proofs.Common.{refl}
use Rattle.ep_run.proofs.Beginning.{locks_begun, starts_so}
use Rattle.ep_run.proofs.runner.host_of.Goals as goal

pub opened-requires-clause-start : goal.opened-requires-clause-start
opened-requires-clause-start g c =
    let is = c.in_ok-beginning.ensures in
    starts_so _ c.args.head.now c.in_ok-beginning.beginning c.requires.start is.version is.opening

pub opened-requires-clause-room : goal.opened-requires-clause-room
opened-requires-clause-room g c = rw c.requires.room refl

pub returns : goal.returns
returns g c =
    let is = c.in_ok-beginning.ensures in
    let made = c.opened.ensures in
    locks_begun c.opened.result (λ host. host.cluster) (λ host. host.version) (λ host. host.opening) c.args.head.now
    c.size.result c.in_ok-beginning.beginning c.size.ensures is.version is.opening made.cluster made.version made.opening
