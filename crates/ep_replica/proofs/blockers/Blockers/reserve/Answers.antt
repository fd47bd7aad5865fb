use Rattle.std.proofs.Common.{◌≡◌, ◌≢◌, inr, ◌∷◌, [], ◌++◌, ◌∙◌, ◌+◌, None, true, IfSome, List, Option, ℕ, length, arith, sym, subst, ap}
use Rattle.std.proofs.lemmas.List.{length_push}
use Rattle.ep_replica.specs.Blockers.{blocker_of, is_flagged}
use Rattle.ep_replica.proofs.Waking.{pushed_none}
use Rattle.ep_replica.proofs.blockers.Blockers.reserve.Goals as goal

pub loop-preserved : goal.loop-preserved
loop-preserved c =
    let was = c.loop.self-inside.items.items in
    let more : c.push.new.self.items ≡ was ++ None ∷ [] = c.in_ok-push.ensures.items in
    let longer : length c.push.new.self.items ≡ length was + 1 = ap length more ∙ length_push was None in
    let step : (n : ℕ) → blocker_of c.push.new.self.items n ≡ blocker_of was n = (λ n. ap (λ (xs : List (Option ℕ)). blocker_of xs n) more ∙ pushed_none was n) in
    record {
      long = (let h = c.loop.invariant.long in omega arith);
      few = inr (omega arith);
      same = λ n. step n ∙ c.loop.invariant.same n;
      awaited = λ n. subst (λ o. IfSome o (λ i. is_flagged c.loop.self-inside.awaited.items i ≡ true)) (sym (step n)) (c.loop.invariant.awaited n);
      within = λ n there. c.loop.invariant.within n (subst (λ o. o ≢ None) (step n) there);
    }
