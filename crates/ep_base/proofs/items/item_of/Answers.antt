use Rattle.std.proofs.Common.{refl, ◌+◌, ◌-◌, length, take, drop, slice_index_or, arith}
use Rattle.std.proofs.lemmas.List.{take_rest}
use Rattle.ep_base.proofs.Saying.{on_none, item_both, item_none, item_seen}
use Rattle.ep_base.proofs.items.item_of.Goals as goal

pub returns-in_err-said-clause-none : goal.returns-in_err-said-clause-none
returns-in_err-said-clause-none c =
    let b = c.args.bytes.now in
    let at = 2 + slice_index_or b 0 0 in
    let two = c.if-bytes-lt2.false in
    let some = c.if-len-eq0.false in
    let low = c.if-flags-eq0.false in
    let high = c.if-flags-gt11.false in
    let there = c.if-bytes-len.false in
    let byte = c.type_inv.bytes 0 in
    on_none c.from_residual.result
    (item_none b (take (length b - at) (drop at b)) two (omega (arith, some)) (omega (arith, byte)) (omega (arith, low)) high there (take_rest b at) c.in_err-said.ensures.none)

pub returns-clause-len : goal.returns-clause-len
returns-clause-len c =
    let b = c.args.bytes.now in
    let at = 2 + slice_index_or b 0 0 in
    let two = c.if-bytes-lt2.false in
    let some = c.if-len-eq0.false in
    let low = c.if-flags-eq0.false in
    let high = c.if-flags-gt11.false in
    let there = c.if-bytes-len.false in
    let byte = c.type_inv.bytes 0 in
    item_both b (take (length b - at) (drop at b)) c.in_ok-said.said.2 two (omega (arith, some)) (omega (arith, byte)) (omega (arith, low)) high there (take_rest b at) c.in_ok-said.ensures.len

pub returns-clause-item : goal.returns-clause-item
returns-clause-item c =
    let b = c.args.bytes.now in
    let at = 2 + slice_index_or b 0 0 in
    item_seen b (take (length b - at) (drop at b)) (take (at - 2) (drop 2 b)) _ _ (take_rest b at) refl c.in_ok-said.ensures.guard c.in_ok-said.ensures.write
