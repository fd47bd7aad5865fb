use Rattle.std.proofs.Common.{◌≡◌, rules}
use Rattle.ep_replay.specs.Heads.{opening_of}
use Rattle.ep_replay.proofs.Beginning.{known, opens}
use Rattle.ep_replay.proofs.heads.beginning_of.Goals as goal

pub opened-requires : goal.opened-requires
opened-requires c =
    let h = c.args.head.now in
    let is : c.in_ok-opening.opening ≡ opening_of h.opening = search rules in
    rw (c.version.ensures.value, is) (opens h.version h.opening c.version.ensures.opens)

pub returns-clause-known : goal.returns-clause-known
returns-clause-known c =
    known c.opened.result c.version.result _ c.args.head.now c.version.ensures.value c.version.ensures.opens
    c.opened.ensures
