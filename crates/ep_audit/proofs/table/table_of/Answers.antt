use Rattle.std.proofs.Common.{◌≡◌, ◌+◌, ℕ, List, Option, IfOk, ap, subst, arith}
use Rattle.ep_base.specs.Instances.{instance_of}
use Rattle.ep_base.specs.Quorums.{size}
use Rattle.ep_base.specs.declared.decree.Decree.{Decree}
use Rattle.ep_journal.specs.Entries.{journals_of}
use Rattle.ep_journal.specs.Openings.{opens}
use Rattle.ep_audit.specs.Tables.{agreed_in, Covers}
use Rattle.ep_audit.proofs.Covering.{covers_none, covers_leader, covers_all, named_below}
use Rattle.ep_audit.proofs.table.table_of.Goals as goal

pub loop-leader-init : goal.loop-leader-init
loop-leader-init c = rw c.new-table.ensures.items (covers_none (agreed_in c.args.journals.now) (λ i x e. (c.commit_in_range.ensures i x e).1))

pub loop-leader-preserved : goal.loop-leader-preserved
loop-leader-preserved c =
    let g : ℕ → Option Decree = agreed_in c.args.journals.now in
    let l : ℕ = c.loop-leader.leader in
    let old : List (ℕ × Decree) = c.loop-leader.table.items in
    let new : List (ℕ × Decree) = c.add_led.new.table.items in
    let at : c.unwrap-leader.result ≡ l = subst (λ r. IfOk r (λ i. i ≡ l)) c.unwrap-leader.ensures c.new.ensures.value in
    let top : ℕ = c.top_of-top.result in
    let led : Covers g (instance_of c.unwrap-leader.result 1) old → Covers g (instance_of c.unwrap-leader.result (top + 1)) new = c.in_ok-add_led.ensures in
    let made : Covers g (instance_of l 1) old → Covers g (instance_of l (top + 1)) new = subst (λ n. Covers g (instance_of n 1) old → Covers g (instance_of n (top + 1)) new) at led in
    covers_leader c.args.journals.now.faults l top g new c.top_of-top.ensures.bounded (named_below c.args.journals.now.faults top g c.commit_in_range.ensures c.top_of-top.ensures.none) (made c.loop-leader.invariant)

pub returns : goal.returns
returns c =
    let f : ℕ = c.args.journals.now.faults in
    let g : ℕ → Option Decree = agreed_in c.args.journals.now in
    let at : c.loop-leader.leader ≡ size f = omega (arith, ap size c.size.ensures, c.loop-leader-test.false, c.loop-leader.auto.leader-end, c.count-leader-end.ensures.value) in
    covers_all (opens c.args.journals.now.opening) f (journals_of c.args.journals.now) c.loop-leader.table.items c.commit_in_range.ensures (subst (λ n. Covers g (instance_of n 1) c.loop-leader.table.items) at c.loop-leader.invariant)
