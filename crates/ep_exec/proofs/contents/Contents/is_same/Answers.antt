use Rattle.ep_exec.specs.Layers.{layers_of}
use Rattle.ep_exec.proofs.Agreement.{agreed_as, both_agree, not_one}
use Rattle.ep_exec.proofs.contents.Contents.is_same.Goals as goal

pub returns-then-agree : goal.returns-then-agree
returns-then-agree c =
    let m = c.args.self.now in
    let n = c.args.other.now in
    both_agree m n c.agree.result c.agree-then-agree.result c.if-agree.true
    (agreed_as m n m c.self.inside.ground c.deref.result.now c.self.inside.layers.items c.agree.result c.deref.ensures.value c.self.view_is c.agree.ensures.same)
    (agreed_as m n n c.other.inside.ground c.deref-then-agree.result.now c.other.inside.layers.items c.agree-then-agree.result c.deref-then-agree.ensures.value c.other.view_is c.agree-then-agree.ensures.same)
    c.agree-then-agree.ensures.own

pub returns-else-agree : goal.returns-else-agree
returns-else-agree c = not_one c.args.self.now c.args.other.now c.agree.result c.if-agree.false c.agree.ensures.own
