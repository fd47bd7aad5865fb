use Rattle.std.proofs.Common.{◌∙◌, ap, sym, subst}
use Rattle.ep_base.specs.Deps.{IsRising, union}
use Rattle.ep_base.specs.Items.{item_keys}
use Rattle.ep_space.specs.Keys.{met_key, met_keys, holders_of}
use Rattle.ep_space.proofs.Bringing.{on_value}
use Rattle.ep_space.proofs.Holders.{holders-joined, rising-holders_of}
use Rattle.ep_space.proofs.gathered.met_by_next.Goals as goal

pub returns-in-Some-clause-rising : goal.returns-in-Some-clause-rising
returns-in-Some-clause-rising c =
    on_value c.met_by.result (λ v e. subst IsRising (sym e) (rising-holders_of (met_key c.args.reads c.in-Some.item.key.now) c.args.records.now.held)) c.met_by.ensures

pub returns-in-Some-clause-met : goal.returns-in-Some-clause-met
returns-in-Some-clause-met c =
    let m = c.args.records.now.held in
    let p = met_key c.args.reads c.in-Some.item.key.now in
    let q = met_keys c.args.reads (item_keys c.next.new.self) in
    on_value c.met_by.result
    (λ v e. ap (λ is. union is (holders_of q m)) e ∙ holders-joined p q m ∙ ap (λ is. holders_of (met_keys c.args.reads (item_keys is)) m) (sym c.in-Some.ensures.item)) c.met_by.ensures
