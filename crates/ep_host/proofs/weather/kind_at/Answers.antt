use Rattle.std.proofs.Common.{refl, sym, ◌∙◌, eqb}
use Rattle.std.proofs.lemmas.Bool.{ne_eqb, and_left, and_right}
use Rattle.ep_host.proofs.Naming.{kind_here, kind_past, kind_none}
use Rattle.ep_host.proofs.weather.kind_at.Goals as goal
use Rattle.ep_host.proofs.weather.kind_at.Goals.{else-eq-via-then-eq+else-from-count, else-eq-via-else-eq}

pub loop-it-init : goal.loop-it-init
loop-it-init c = refl

pub returns-then-from-count : goal.returns-then-from-count
returns-then-from-count c = kind_here c.args.weather.now c.loop-it.it-index c.it-item.result c.args.peer c.args.count c.loop-it-test.true c.it-item.is c.loop-it.invariant (sym c.if-eq.ensures) (sym c.from.ensures ∙ c.if-from-count.true)

pub loop-it-preserved : goal.loop-it-preserved
loop-it-preserved c = let w = c.it-item.result in
    kind_past c.args.weather.now c.loop-it.it-index w c.args.peer c.args.count c.loop-it-test.true c.it-item.is c.loop-it.invariant
    (elim c.else-eq.branch [
      | else-eq-via-then-eq+else-from-count b ↦ and_right (eqb w.to c.args.peer) (eqb w.count c.args.count) (ne_eqb w.count c.args.count (λ e. b.if-from-count.false (b.from.ensures ∙ e)))
      | else-eq-via-else-eq b ↦ and_left (eqb w.to c.args.peer) (eqb w.count c.args.count) (sym b.if-eq.ensures)
    ])

pub returns : goal.returns
returns c = kind_none c.args.weather.now c.loop-it.it-index c.args.peer c.args.count c.loop-it-test.false c.loop-it.invariant
