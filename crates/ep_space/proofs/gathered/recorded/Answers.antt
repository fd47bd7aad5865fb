use Rattle.std.proofs.Common.{◌∙◌, ℕ, List, sym, subst, eqb}
use Rattle.std.specs.List.Sorted.{IsPermutation}
use Rattle.std.proofs.lemmas.List.Filters.{dedup_is}
use Rattle.ep_base.specs.Deps.{IsRising}
use Rattle.ep_space.specs.Gathering.{recorded_in}
use Rattle.ep_space.proofs.Gathering.{places_sorted}
use Rattle.ep_space.proofs.gathered.recorded.Goals as goal

pub returns-clause-instances : goal.returns-clause-instances
returns-clause-instances c =
    let sorted = c.sort_unstable.new.self.items in
    let moved : IsPermutation (recorded_in c.entries.result.now) sorted = subst (λ (is : List ℕ). IsPermutation is sorted) c.in_ok-all.ensures c.sort_unstable.ensures.permutation in
    dedup_is eqb sorted c.dedup.new.self.items c.dedup.ensures.filtered
    ∙ (places_sorted c.args.records.now.held c.entries.result.now sorted c.entries.ensures moved c.sort_unstable.ensures.sorted).0

pub returns-clause-rising : goal.returns-clause-rising
returns-clause-rising c =
    let sorted = c.sort_unstable.new.self.items in
    let moved : IsPermutation (recorded_in c.entries.result.now) sorted = subst (λ (is : List ℕ). IsPermutation is sorted) c.in_ok-all.ensures c.sort_unstable.ensures.permutation in
    subst IsRising (sym (dedup_is eqb sorted c.dedup.new.self.items c.dedup.ensures.filtered))
    (places_sorted c.args.records.now.held c.entries.result.now sorted c.entries.ensures moved c.sort_unstable.ensures.sorted).1
