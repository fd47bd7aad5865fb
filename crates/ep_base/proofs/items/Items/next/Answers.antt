use Rattle.std.proofs.Common.{◌-◌, ◌∷◌, length, take, drop, sym, ◌∙◌, arith}
use Rattle.std.proofs.lemmas.List.{take_rest}
use Rattle.ep_base.specs.CommandParts.{items_at}
use Rattle.ep_base.proofs.Saying.{never_none, rest_there, first_and_rest}
use Rattle.ep_base.proofs.items.Items.next.Goals as goal

pub returns-in_err-found-clause-end : goal.returns-in_err-found-clause-end
returns-in_err-found-clause-end c =
    let some = c.if-self-eq0.false in
    never_none c.self.inside.left c.self.inside.rest.now (omega (arith, some)) c.self.invariant c.in_err-found.ensures.none

pub invariant_of-self : goal.invariant_of-self
invariant_of-self c =
    let some = c.if-self-eq0.false in
    let b = c.self.inside.rest.now in
    let k = c.in_ok-found.found.1 in
    rest_there c.self.inside.left b (take (length b - k) (drop k b)) k (omega (arith, some)) c.self.invariant c.in_ok-found.ensures.len (take_rest b k)

pub returns-clause-item : goal.returns-clause-item
returns-clause-item c =
    let some = c.if-self-eq0.false in
    let b = c.self.inside.rest.now in
    let k = c.in_ok-found.found.1 in
    let r = take (length b - k) (drop k b) in
    sym c.self.view_is ∙ first_and_rest c.self.inside.left b r k (omega (arith, some)) c.in_ok-found.ensures.len (take_rest b k)
    ∙ (λ d. sym c.in_ok-found.ensures.item d ∷ items_at (c.self.inside.left - 1) r)
