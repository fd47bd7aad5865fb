use Rattle.std.proofs.Common.{◌≡◌, ◌∙◌, ℕ, ◌+◌, List, ap, subst, min, rules, Bor}
use Rattle.std.proofs.lemmas.Fn.{fold_over, slice_gives, fronts}
use Rattle.ep_host.specs.Node.{Node}
use Rattle.ep_run.specs.Rings.{lost_in}
use Rattle.ep_run.proofs.Counting.{lost_none, lost_more}
use Rattle.ep_run.proofs.ring_run.lost_of.Goals as goal

pub returns : goal.returns
returns c = subst (λ (l : List Node). c.fold.result ≡ lost_in l) c.iter.ensures.rest
    (fold_over fronts (λ (y : Bor Node). y.now) _ (λ (ys : List Node) (n : ℕ). n ≡ lost_in ys) _
    (λ ys a x b f' j k.
    let is : b ≡ min (a + x.now.lost) 18446744073709551615 = search rules in
    (is ∙ ap (λ (n : ℕ). min (n + x.now.lost) 18446744073709551615) j ∙ lost_more ys x.now, search rules))
    _ _ _ _ (slice_gives c.iter.result) lost_none c.fold.ensures.ran)
