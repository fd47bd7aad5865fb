use Rattle.std.proofs.Common.{◌≡◌, ◌∙◌, ap, sym, subst}
use Rattle.ep_base.specs.Deps.{IsRising, union}
use Rattle.ep_base.specs.Items.{item_keys}
use Rattle.ep_space.specs.Keys.{met_key, met_keys, holders_of}
use Rattle.ep_space.proofs.Bringing.{on_value}
use Rattle.ep_space.proofs.Holders.{holders-joined, holders-nothing, rising-holders_of, union-joined}
use Rattle.ep_space.proofs.gathered.+met_by_items.Goals as goal

pub returns-in_default : goal.returns-in_default
returns-in_default t c =
    let m = c.args.records.now.held in
    c.new.ensures.items ∙ sym (holders-nothing m) ∙ ap (λ is. holders_of (met_keys c.args.reads (item_keys is)) m) (sym c.in_default.ensures.end.0)

pub returns : goal.returns
returns t c =
    let m = c.args.records.now.held in
    let p = met_key c.args.reads c.in-Some.item.key.now in
    let q = met_keys c.args.reads (item_keys c.next.new.self) in
    let left = met_keys c.args.reads (item_keys c.met_by_some.new.items) in
    let a = c.in_ok-of_first.of_first.items in
    let b = c.in_ok-of_some.of_some.items in
    let first : a ≡ holders_of p m = c.in_ok-of_first.ensures in
    let these : c.deref-3.result.now ≡ union a b =
    c.deref-3.ensures.value ∙ c.in_ok-of_these.ensures ∙ (λ d. union (c.deref.ensures.value d) (c.deref-2.ensures.value d)) in
    let others : c.deref-4.result.now ≡ holders_of left m = c.deref-4.ensures.value ∙ c.in_ok-of_others.ensures in
    on_value c.merged-2.result
    (λ v e. e ∙ (λ d. union (these d) (others d))
    ∙ union-joined a b (holders_of left m) (subst IsRising (sym first) (rising-holders_of p m)) c.in_ok-of_some.ensures.rising (rising-holders_of left m)
    ∙ ap (union a) c.in_ok-of_some.ensures.met ∙ ap (λ is. union is (holders_of q m)) first ∙ holders-joined p q m
    ∙ ap (λ is. holders_of (met_keys c.args.reads (item_keys is)) m) (sym c.in-Some.ensures.item))
    c.merged-2.ensures
