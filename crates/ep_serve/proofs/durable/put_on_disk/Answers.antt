use Rattle.ep_serve.proofs.Keeping.{leaves_on, quiet_after, rests}
use Rattle.ep_serve.proofs.durable.put_on_disk.Goals as goal

pub returns-in_err-sync-clause-onward : goal.returns-in_err-sync-clause-onward
returns-in_err-sync-clause-onward g c = leaves_on g.D.Device.seen g.D.Device.moment g.D.Device.left_since c.args.node.now _ (c.sync.ensures.any_moment c.requires)

pub returns-clause-kept : goal.returns-clause-kept
returns-clause-kept g c =
    let quiet = quiet_after c.args.node.now c.sync.new.self c.requires c.in_ok-sync.ensures.ok.1 in
    rests c.args.node.now.digest g.D.Device.seen g.D.Device.moment g.D.Device.left_since c.sync.new.self _ _ c.sync.ensures.kept c.sync.ensures.origin quiet (λ bytes was. (_, c.in_ok-sync.ensures.written bytes was)) (c.is_at_rest.ensures quiet.works)

pub returns-clause-known : goal.returns-clause-known
returns-clause-known g c = λ bytes was. (_, c.in_ok-sync.ensures.written bytes was)

pub returns-clause-onward : goal.returns-clause-onward
returns-clause-onward g c = leaves_on g.D.Device.seen g.D.Device.moment g.D.Device.left_since c.args.node.now _ (c.sync.ensures.any_moment c.requires)
