use Rattle.std.proofs.Common.{◌∙◌, ◌++◌, ℕ, Option, subst}
use Rattle.ep_trace.specs.Left.{open_line}
use Rattle.ep_trace.proofs.Opening.{Listed, goes_on, over}
use Rattle.ep_trace.proofs.left.push_all_open.Goals as goal

pub loop-next-preserved : goal.loop-next-preserved
loop-next-preserved c =
    goes_on c.args.replica.now c.in-Some.instance c.next_open-next-in-Some.result c.args.text.now.items c.loop-next.text.items c.push_open.new.text.items
    (subst (λ (o : Option ℕ). Listed c.args.replica.now o c.args.text.now.items c.loop-next.text.items) c.in-Some.is c.loop-next.invariant) c.next_open-next-in-Some.ensures
    (c.in_ok-push_open.ensures ∙ (λ i. c.loop-next.text.items ++ open_line (c.me.ensures i) c.in-Some.instance (c.leads.ensures i)))

pub returns : goal.returns
returns c =
    over c.args.replica.now c.args.text.now.items c.loop-next.text.items
    (subst (λ (o : Option ℕ). Listed c.args.replica.now o c.args.text.now.items c.loop-next.text.items) c.in_default.is c.loop-next.invariant)
