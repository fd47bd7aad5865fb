use Rattle.std.proofs.Common.{◌≡◌, ℕ, ◌≤◌, ◌+◌, ◌*◌, ◌∷◌, drop, sym, subst, ◌∙◌, ap, arith, List}
use Rattle.std.proofs.lemmas.List.{drop_more}
use Rattle.std.specs.List.{AllByRecursion}
use Rattle.ep_base.specs.Instances.{highest_number}
use Rattle.ep_space.specs.Entries.{slot}
use Rattle.ep_exec.proofs.marks.top_number.Goals as goal

pub loop-instance-preserved : goal.loop-instance-preserved
loop-instance-preserved c =
    let n : ℕ = c.loop-instance.instance-index in
    let is : List ℕ = c.args.list.now in
    let i : ℕ = c.instance-item.result in
    let own = c.number_at_least-top.ensures.own in
    let least = c.number_at_least-top.ensures.least in
    let range = c.number_at_least-top.ensures.in_range in
    let left : drop n is ≡ i ∷ drop (n + 1) is = drop_more is n i c.loop-instance-test.true ∙ ap (λ x. x ∷ drop (n + 1) is) (sym c.instance-item.is) in
    record {
      small = c.number_at_least-top.ensures.most highest_number (omega arith) c.loop-instance.invariant.small;
      whole = λ t top rest.
          let here : slot i ≤ t * 8 + 6 = omega (arith, own, range, top) in
          c.loop-instance.invariant.whole t (omega (arith, least, top)) (subst (λ (xs : List ℕ). AllByRecursion (λ j. slot j ≤ t * 8 + 6) xs) (sym left) (here, rest));
    }
