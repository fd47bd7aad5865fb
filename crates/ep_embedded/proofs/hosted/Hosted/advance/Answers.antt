use Rattle.std.proofs.Common.{sym, ap, ◌∙◌}
use Rattle.ep_embedded.specs.Hosting.{Hosting}
use Rattle.ep_embedded.proofs.Longer.{executes_grow}
use Rattle.ep_embedded.proofs.Still.{still_hosted}
use Rattle.ep_embedded.proofs.hosted.Hosted.advance.Goals as goal

pub invariant_of-self : goal.invariant_of-self
invariant_of-self c =
    let begun = ap (λ (h : Hosting). h.is_anew) c.self.view_is ∙ sym c.is_anew.ensures ∙ c.if-is_anew.false in
    let done = c.advance_own.ensures.some in
    still_hosted c.self.inside.node c.advance_own.new.node c.self.inside.is_anew c.self.inside.durable c.self.inside.lent begun c.advance_own.ensures.same (executes_grow done.0 _ _ done.1) c.self.invariant

pub invariant_of-self-2 : goal.invariant_of-self-2
invariant_of-self-2 c =
    let begun = ap (λ (h : Hosting). h.is_anew) c.self.view_is ∙ sym c.is_anew.ensures ∙ c.if-is_anew.false in
    let done = c.advance_own.ensures.some in
    still_hosted c.self.inside.node c.advance_own.new.node c.self.inside.is_anew c.self.inside.durable c.self.inside.lent begun c.advance_own.ensures.same (executes_grow done.0 _ _ done.1) c.self.invariant
