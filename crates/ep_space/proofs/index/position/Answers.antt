use Rattle.std.proofs.Common.{◌≡◌, ◌∙◌, ◌<◌, ◌≤◌, ◌+◌, ◌-◌, ◌/◌, ℕ, Some, ap, sym, length, arith, rules, ltb}
use Rattle.std.specs.Prelude.{slice_get}
use Rattle.std.proofs.lemmas.Bool.{ltb-true, ltb-false}
use Rattle.std.proofs.lemmas.Option.{slice_get-get_or}
use Rattle.ep_space.proofs.Rising.{count_within, count_after, count_upto}
use Rattle.ep_space.proofs.index.position.Goals as goal

pub loop-low-init : goal.loop-low-init
loop-low-init c = let most = count_within c.args.id c.args.run.now in record {
  above = omega arith;
  below = most;
  within = omega arith;
}

half_within : (low high n : ℕ) → low < high → high ≤ n → low + (high - low) / 2 < n
half_within low high n h k = omega (arith, h, k)

pub loop-low-preserved-then-lt : goal.loop-low-preserved-then-lt
loop-low-preserved-then-lt c =
    let middle : ℕ = c.loop-low.low + (c.loop-low.high - c.loop-low.low) / 2 in
    let inside : middle < length c.args.run.now = half_within c.loop-low.low c.loop-low.high (length c.args.run.now) c.loop-low-test.true c.loop-low.invariant.within in
    let x = c.index-run-middle.result in
    let at : slice_get c.args.run.now middle ≡ Some x = slice_get-get_or c.args.run.now middle x inside ∙ ap Some (sym c.index-run-middle.is) in
    let is : c.lt.result ≡ ltb x c.args.id = search rules in
    let after = count_after c.args.id c.args.run.now middle x c.requires at (ltb-true x c.args.id (sym is ∙ c.if-lt.true)) in
    record {
      above = omega (arith, after);
      below = c.loop-low.invariant.below;
      within = c.loop-low.invariant.within;
    }

pub loop-low-preserved : goal.loop-low-preserved
loop-low-preserved c =
    let middle : ℕ = c.loop-low.low + (c.loop-low.high - c.loop-low.low) / 2 in
    let inside : middle < length c.args.run.now = half_within c.loop-low.low c.loop-low.high (length c.args.run.now) c.loop-low-test.true c.loop-low.invariant.within in
    let x = c.index-run-middle.result in
    let at : slice_get c.args.run.now middle ≡ Some x = slice_get-get_or c.args.run.now middle x inside ∙ ap Some (sym c.index-run-middle.is) in
    let is : c.lt.result ≡ ltb x c.args.id = search rules in
    let upto = count_upto c.args.id c.args.run.now middle x at (ltb-false x c.args.id (sym is ∙ c.if-lt.false)) in
    record {
      above = c.loop-low.invariant.above;
      below = upto;
      within = omega (arith, inside);
    }
