use Rattle.std.proofs.Common.{◌≡◌, ◌∙◌, ◌+◌, ◌-◌, ap, sym, arith, Some}
use Rattle.ep_base.specs.Versions.{highest_in}
use Rattle.ep_base.proofs.Versions.{highest_low}
use Rattle.ep_rules.specs.Counting.{least}
use Rattle.ep_rules.specs.States.{is_free}
use Rattle.ep_space.proofs.Least.{free_first, free_past, least_none}
use Rattle.ep_space.proofs.space.Space.free_number.Goals as goal

pub loop-place-init : goal.loop-place-init
loop-place-init c = record {
  none = ap (λ s. least c.taken_by-taken.result (is_free s.records c.args.replica)) (sym c.self.view_is) ∙ least_none (is_free c.self.inside.table.held c.args.replica) c.taken_by-taken.result c.taken_by-taken.ensures.full;
}

pub returns-then-is_free-clause-free : goal.returns-then-is_free-clause-free
returns-then-is_free-clause-free c =
    let k = c.loop-place.place in
    let place : k + 1 - 1 ≡ k = omega arith in
    let top : c.highest_number-place-end.result ≡ highest_in c.args.self.now.version = c.highest_number-place-end.ensures ∙ ap (λ s. highest_in s.version) c.self.view_is in
    let most = highest_low c.args.self.now.version in (
      omega arith,
      omega (arith, c.loop-place-test.true, top),
      free_first _ _ k c.highest_number-place-end.result c.loop-place.invariant.none (sym c.is_free.ensures ∙ c.if-is_free.true) c.loop-place-test.true (omega (arith, top, most)) ∙ ap Some (sym place),
    )

pub returns-clause-full : goal.returns-clause-full
returns-clause-full c = λ _ n is.
    let top : c.highest_number-place-end.result ≡ highest_in c.args.self.now.version = c.highest_number-place-end.ensures ∙ ap (λ s. highest_in s.version) c.self.view_is in
    let past = free_past _ _ c.loop-place.place c.highest_number-place-end.result n c.loop-place.invariant.none c.loop-place-test.false is in
    omega (arith, past, top)
