use Rattle.std.proofs.Common.{true, false}
use Rattle.ep_script.specs.Clauses.{Said}
use Rattle.ep_script.proofs.Merging.{add_joined, add_new, place_is, test_is}
use Rattle.ep_script.proofs.tx_items.TxItems.add.Goals as goal

pub returns-then-is_at-clause-ok : goal.returns-then-is_at-clause-ok
returns-then-is_at-clause-ok c =
    let s : Said = record { key = c.args.key; clause = c.args.clause } in
    let is = c.self.inside.items.items in
    let n = c.place_of-place.result in
    add_joined c.add.result s is c.args.self.now n c.index_mut.result.now c.add.new.self c.self.view_is
    (place_is c.args.key c.as_slice-2.result.now is c.as_slice.result.now n c.as_slice-2.ensures.value c.as_slice.ensures.value c.place_of-place.ensures.value)
    (test_is c.args.key c.as_slice-4.result.now is c.as_slice-3.result.now n c.is_at.result true c.as_slice-4.ensures.value c.as_slice-3.ensures.value c.is_at.ensures.value c.if-is_at.true)
    c.index_mut.ensures.value c.add.ensures

pub returns-clause-ok : goal.returns-clause-ok
returns-clause-ok c =
    let s : Said = record { key = c.args.key; clause = c.args.clause } in
    let is = c.self.inside.items.items in
    let n = c.place_of-place.result in
    add_new s is c.args.self.now c.insert.new.self.items n c.new.result c.self.view_is
    (place_is c.args.key c.as_slice-2.result.now is c.as_slice.result.now n c.as_slice-2.ensures.value c.as_slice.ensures.value c.place_of-place.ensures.value)
    (test_is c.args.key c.as_slice-4.result.now is c.as_slice-3.result.now n c.is_at.result false c.as_slice-4.ensures.value c.as_slice-3.ensures.value c.is_at.ensures.value c.if-is_at.false)
    c.new.ensures c.in_ok-insert.ensures.items
