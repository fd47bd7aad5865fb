use Rattle.std.proofs.Common.{◌≡◌, ◌+◌, [], ◌∷◌, ◌++◌, ◌∙◌, None, List, Option, length, arith, ap}
use Rattle.std.proofs.lemmas.List.{length_push}
use Rattle.ep_replica.specs.Slots.{found}
use Rattle.ep_replica.specs.declared.proposal.Proposal.{Proposal}
use Rattle.ep_replica.proofs.Waking.{pushed_none}
use Rattle.ep_replica.proofs.slots.Slots.reserve.Goals as goal

pub loop-preserved : goal.loop-preserved
loop-preserved c =
    let was = c.loop.self-inside.items.items in
    let more : c.push.new.self.items ≡ was ++ None ∷ [] = c.in_ok-push.ensures.items in
    let longer : length c.push.new.self.items ≡ length was + 1 = ap length more ∙ length_push was None in
    record {
      long = (let h = c.loop.invariant.long in omega arith);
      same = λ n. ap (λ (xs : List (Option Proposal)). found xs n) more ∙ pushed_none was n ∙ c.loop.invariant.same n;
    }

pub returns-clause-reports : goal.returns-clause-reports
returns-clause-reports c = λ me es reports number low. c.loop.invariant.same number ∙ reports number low
