use Rattle.std.proofs.Common.{◌∙◌, ap, sym, subst}
use Rattle.ep_base.specs.Deps.{IsRising, union}
use Rattle.ep_base.specs.Items.{item_keys}
use Rattle.ep_base.proofs.Union.{IsRising-union}
use Rattle.ep_space.specs.Keys.{met_keys, holders_of}
use Rattle.ep_space.proofs.Bringing.{on_value}
use Rattle.ep_space.proofs.Holders.{rising-holders_of, union-joined}
use Rattle.ep_space.proofs.gathered.+met_by_some.Goals as goal

pub returns-clause-rising : goal.returns-clause-rising
returns-clause-rising t c =
    let a = c.in_ok-of_first.of_first.items in
    let b = c.in_ok-of_others.of_others.items in
    on_value c.merged.result
    (λ v e. subst IsRising (sym (e ∙ (λ d. union (c.deref.ensures.value d) (c.deref-2.ensures.value d)))) (IsRising-union a b c.in_ok-of_first.ensures.rising c.in_ok-of_others.ensures.rising))
    c.merged.ensures

pub returns-clause-met : goal.returns-clause-met
returns-clause-met t c =
    let m = c.args.records.now.held in
    let a = c.in_ok-of_first.of_first.items in
    let b = c.in_ok-of_others.of_others.items in
    let left = met_keys c.args.reads (item_keys c.met_by_some-2.new.items) in
    on_value c.merged.result
    (λ v e. ap (λ is. union is (holders_of left m)) (e ∙ (λ d. union (c.deref.ensures.value d) (c.deref-2.ensures.value d)))
    ∙ union-joined a b (holders_of left m) c.in_ok-of_first.ensures.rising c.in_ok-of_others.ensures.rising (rising-holders_of left m)
    ∙ ap (union a) c.in_ok-of_others.ensures.met ∙ c.in_ok-of_first.ensures.met)
    c.merged.ensures
