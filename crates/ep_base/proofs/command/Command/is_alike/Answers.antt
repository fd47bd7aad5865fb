use Rattle.std.proofs.lemmas.Bool.{eqb-true, eq-eqb}
use Rattle.ep_base.proofs.Runs.{view_lens, view_range, heads_then, then_heads}
use Rattle.ep_base.proofs.command.Command.is_alike.Goals as goal

pub returns-then-self-other-clause-in_range : goal.returns-then-self-other-clause-in_range
returns-then-self-other-clause-in_range c = (let i = c.self.inside in view_range i.op i.run i.first i.second c.args.self.now c.self.invariant.1 c.self.view_is, let i = c.other.inside in view_range i.op i.run i.first i.second c.args.other.now c.other.invariant.1 c.other.view_is)

pub returns-else-self-other-clause-in_range : goal.returns-else-self-other-clause-in_range
returns-else-self-other-clause-in_range c = (let i = c.self.inside in view_range i.op i.run i.first i.second c.args.self.now c.self.invariant.1 c.self.view_is, let i = c.other.inside in view_range i.op i.run i.first i.second c.args.other.now c.other.invariant.1 c.other.view_is)

pub returns-else-is_same_op-clause-in_range : goal.returns-else-is_same_op-clause-in_range
returns-else-is_same_op-clause-in_range c = (let i = c.self.inside in view_range i.op i.run i.first i.second c.args.self.now c.self.invariant.1 c.self.view_is, let i = c.other.inside in view_range i.op i.run i.first i.second c.args.other.now c.other.invariant.1 c.other.view_is)

pub returns-then-self-other-clause-alike : goal.returns-then-self-other-clause-alike
returns-then-self-other-clause-alike c =
    let i = c.self.inside in
    let j = c.other.inside in
    let a = c.args.self.now in
    let b = c.args.other.now in
    let mine = view_lens i.op i.run i.first i.second a c.self.invariant.0 c.self.invariant.1 c.self.view_is in
    let theirs = view_lens j.op j.run j.first j.second b c.other.invariant.0 c.other.invariant.1 c.other.view_is in (
      λ is. heads_then i.op j.op i.first i.second j.first j.second a b mine theirs (c.is_same_op.ensures.0 c.if-is_same_op.true) c.if-self-other.true (eqb-true i.second j.second is),
      λ h. let same = then_heads i.op j.op i.first i.second j.first j.second a b mine theirs h in eq-eqb i.second j.second same.2,
    )
