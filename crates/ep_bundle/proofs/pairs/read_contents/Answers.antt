use Rattle.std.proofs.Common.{[], Ok, refl, subst, sym, ◌∙◌}
use Rattle.std.specs.FinMap.{entries}
use Rattle.ep_rules.specs.OneMap.{Contents}
use Rattle.ep_bundle.specs.Headers.{contents}
use Rattle.ep_bundle.specs.Reading.{Reads}
use Rattle.ep_bundle.proofs.PairLoops.{none_filled, none_many, one_filled, one_many, none_more, all_filled}
use Rattle.ep_bundle.proofs.pairs.read_contents.Goals as goal

pub loop-init : goal.loop-init
loop-init g c = record {
  bytes = none_filled c.args.count c.new-map.result c.args.place.now (g.S.Source.left c.args.source.now) c.new-map.ensures;
  many = none_many c.new-map.result c.new-map.ensures;
  reported = refl;
}

pub returns-in_err-read_pair-clause-bytes : goal.returns-in_err-read_pair-clause-bytes
returns-in_err-read_pair-clause-bytes g c = λ y0 e0.
    none_more c.args.count c.loop.counter (entries c.loop.map) c.in_err-read_pair.field-0.0 _ c.args.place.now c.loop.place c.read_pair.new.place (g.S.Source.left c.args.source.now) (g.S.Source.left c.loop.source) (g.S.Source.left c.read_pair.new.source)
    c.loop-test.true c.loop.invariant.bytes (λ ys k. c.in_err-read_pair.ensures.bytes ys k [] [] tt) c.from_residual.ensures.1 y0 e0

pub loop-preserved : goal.loop-preserved
loop-preserved g c = record {
  bytes =
      one_filled c.args.count c.loop.counter (entries c.loop.map) (entries c.read_pair.new.map) c.args.place.now c.loop.place c.read_pair.new.place (g.S.Source.left c.args.source.now) (g.S.Source.left c.loop.source) (g.S.Source.left c.read_pair.new.source)
      c.loop-test.true c.loop.invariant.bytes c.in_ok-read_pair.ensures.one c.in_ok-read_pair.ensures.bytes;
  many = one_many c.loop.counter (entries c.loop.map) (entries c.read_pair.new.map) c.loop.invariant.many c.in_ok-read_pair.ensures.one;
  reported = c.in_ok-read_pair.ensures.reported ∙ c.loop.invariant.reported;
}

pub returns-clause-bytes : goal.returns-clause-bytes
returns-clause-bytes g c = λ y0 e0.
    subst (λ (m : Contents). Reads (contents c.args.count (record { at = c.args.place.now; bytes = y0 })) (Ok m) c.loop.place (g.S.Source.left c.loop.source)) (sym c.of.ensures)
    (all_filled c.args.count c.loop.counter c.loop.map c.args.place.now c.loop.place (g.S.Source.left c.args.source.now) (g.S.Source.left c.loop.source) c.loop-test.false c.loop.invariant.bytes y0 e0)
