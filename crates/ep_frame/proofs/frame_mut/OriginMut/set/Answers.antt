use Rattle.std.proofs.Common.{sym, subst}
use Rattle.ep_frame.specs.Origins.{KeepsMessage}
use Rattle.ep_frame.proofs.Reorigin.{keeps_message}
use Rattle.ep_frame.proofs.frame_mut.OriginMut.set.Goals as goal

pub returns-clause-message : goal.returns-clause-message
returns-clause-message c =
    let old = c.args.self.now.front.now in
    subst (λ x. KeepsMessage old x c.args.origin) (sym c.write_origin.ensures.written) (keeps_message old c.args.origin c.requires.long c.requires.apart c.write_origin.ensures.in_range)
