use Rattle.std.proofs.Common.{◌-◌, length, take, drop}
use Rattle.std.proofs.lemmas.List.{take_rest}
use Rattle.ep_base.proofs.Saying.{on_none, no_guard, no_write, both_said}
use Rattle.ep_base.proofs.items.said_of.Goals as goal

pub returns-in_err-guard-clause-none : goal.returns-in_err-guard-clause-none
returns-in_err-guard-clause-none c = on_none c.from_residual.result (no_guard c.args.flags c.args.bytes.now c.in_err-guard.ensures.none)

pub returns-in_err-write-clause-none : goal.returns-in_err-write-clause-none
returns-in_err-write-clause-none c =
    let b = c.args.bytes.now in
    let n = c.in_ok-guard.guard.1 in
    on_none c.from_residual-in_err-write.result (no_write c.args.flags b (take (length b - n) (drop n b)) n c.in_ok-guard.ensures.len (take_rest b n) c.in_err-write.ensures.none)

pub returns-clause-len : goal.returns-clause-len
returns-clause-len c =
    let b = c.args.bytes.now in
    let n = c.in_ok-guard.guard.1 in
    both_said c.args.flags b (take (length b - n) (drop n b)) n c.in_ok-write.write.1 c.in_ok-guard.ensures.len (take_rest b n) c.in_ok-write.ensures.len
