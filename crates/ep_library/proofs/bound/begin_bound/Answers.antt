use Rattle.ep_library.specs.Arguments.{log_given}
use Rattle.ep_library.proofs.Heirs.{begins}
use Rattle.ep_library.proofs.bound.begin_bound.Goals as goal

pub returns : goal.returns
returns c =
    begins c.args.heir.now c.args.opening.now c.in_ok-opening.opening.items _ (log_given c.args.succession.now.is_new c.args.succession.now.log.now) c.open_bound.result c.in_ok-opening.ensures.items c.in_ok-log.ensures
    c.open_bound.ensures.ok c.open_bound.ensures.err
