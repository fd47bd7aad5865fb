use Rattle.std.proofs.Common.{◌≡◌, ◌+◌, ◌≤◌, arith}
use Rattle.ep_base.specs.Instances.{highest_number}
use Rattle.ep_ending.proofs.Owing.{owed_from_one, owed_own, owed_all}
use Rattle.ep_ending.proofs.owed.push_all_owed.Goals as goal

pub loop-number-init : goal.loop-number-init
loop-number-init c = λ first h. owed_from_one c.args.journals.now c.args.replica first c.args.text.now.items h

pub loop-number-preserved : goal.loop-number-preserved
loop-number-preserved c = λ first h.
    let least : 1 ≤ c.loop-number.number = omega (arith, c.loop-number.auto.number) in
    let most : c.loop-number.number ≤ highest_number = omega (arith, c.loop-number-test.true, c.highest-number-end.ensures.bounded) in
    owed_own c.args.journals.now c.journal_at-journal.result.now c.args.replica c.me.result c.loop-number.number c.instance_at.result first c.loop-number.text.items c.push_if_owed.new.text.items
    c.requires.low c.requires.there c.journal_at-journal.ensures c.me.ensures least most c.instance_at.ensures (c.loop-number.invariant first h) c.in_ok-push_if_owed.ensures

pub returns : goal.returns
returns c = λ first h.
    let over : c.loop-number.number ≡ c.highest-number-end.result + 1 = omega (arith, c.loop-number-test.false, c.loop-number.auto.number-end) in
    owed_all c.args.journals.now c.journal_at-journal.result.now c.args.replica c.highest-number-end.result c.loop-number.number first c.loop-number.text.items
    c.journal_at-journal.ensures over c.highest-number-end.ensures.bounded c.highest-number-end.ensures.all (c.loop-number.invariant first h)
