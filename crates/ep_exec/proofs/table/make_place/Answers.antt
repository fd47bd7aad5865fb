use Rattle.std.proofs.Common.{◌∙◌, List, ℕ}
use Rattle.ep_rules.specs.OneMap.{Contents, with_key}
use Rattle.ep_exec.specs.Held.{held}
use Rattle.ep_exec.proofs.Entries.{with_key_own}
use Rattle.ep_exec.proofs.table.make_place.Goals as goal

pub returns-clause-contents : goal.returns-clause-contents
returns-clause-contents c =
    let m : Contents = held c.args.table.now in
    let k : List ℕ = c.args.key.now in
    c.in_ok-set.ensures.ok ∙ (λ t. with_key m (c.in_ok-name.ensures.items t) ((c.in_ok-value.ensures ∙ c.value_of.ensures) t)) ∙ with_key_own m k
