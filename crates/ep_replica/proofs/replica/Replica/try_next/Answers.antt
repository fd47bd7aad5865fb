use Rattle.std.proofs.Common.{◌≡◌, ◌≤◌, ◌<◌, ◌+◌, ℕ, inl, inr, refl, ap, subst, ◌∙◌, arith}
use Rattle.ep_replica.specs.Kept.{Kept}
use Rattle.ep_replica.specs.Pending.{IsPending, IsWaiting}
use Rattle.ep_base.specs.Instances.{instance_of}
use Rattle.ep_journal.specs.declared.step_fault.StepFault.TheVariants.{Memory, StampFull}
use Rattle.ep_replica.proofs.Trying.{all_wait, executed_next, passed_next, refused_next}
use Rattle.ep_replica.proofs.replica.Replica.try_next.Goals as goal

pub returns-in-Executed : goal.returns-in-Executed
returns-in-Executed c =
    let i : c.instance_at.result ≡ instance_of c.loop-number.self.me c.loop-number.number = c.instance_at.ensures ∙ ap (λ (m : ℕ). instance_of m c.loop-number.number) c.me.ensures in
    executed_next c.args.self.now c.loop-number.self c.try_execute.new.self c.loop-number.number c.instance_at.result c.loop-number.invariant.same i (let low = c.loop-number-test.true in omega arith) c.loop-number.invariant.wait c.in-Executed.ensures

pub returns-in-Refused : goal.returns-in-Refused
returns-in-Refused c =
    let i : c.instance_at.result ≡ instance_of c.loop-number.self.me c.loop-number.number = c.instance_at.ensures ∙ ap (λ (m : ℕ). instance_of m c.loop-number.number) c.me.ensures in
    refused_next c.args.self.now c.loop-number.self c.try_execute.new.self c.loop-number.number c.instance_at.result Memory c.loop-number.invariant.same i (let low = c.loop-number-test.true in omega arith) c.loop-number.invariant.wait (inl refl) c.in-Refused.ensures

pub returns-in-Full : goal.returns-in-Full
returns-in-Full c =
    let i : c.instance_at.result ≡ instance_of c.loop-number.self.me c.loop-number.number = c.instance_at.ensures ∙ ap (λ (m : ℕ). instance_of m c.loop-number.number) c.me.ensures in
    refused_next c.args.self.now c.loop-number.self c.try_execute.new.self c.loop-number.number c.instance_at.result StampFull c.loop-number.invariant.same i (let low = c.loop-number-test.true in omega arith) c.loop-number.invariant.wait (inr refl) c.in-Full.ensures

pub loop-number-preserved : goal.loop-number-preserved
loop-number-preserved c =
    let h = c.loop-number.invariant in
    let s = c.loop-number.self in
    let next = c.next_due-number-in-Passed in
    let n = c.loop-number.number in
    let bounds = next.ensures.range in
    let i : c.instance_at.result ≡ instance_of c.loop-number.self.me c.loop-number.number = c.instance_at.ensures ∙ ap (λ (m : ℕ). instance_of m c.loop-number.number) c.me.ensures in
    record {
      range = (let some = h.range in omega arith, bounds.1);
      same = next.ensures.same ∙ c.in-Passed.ensures.1 ∙ h.same;
      wait = passed_next c.args.self.now s n next.result c.instance_at.result h.same i h.wait c.in-Passed.ensures.0
          (subst (λ (z : Kept). (l : ℕ) → n + 1 ≤ l → l < next.result → IsPending z (instance_of z.me l) → IsWaiting z (instance_of z.me l)) c.in-Passed.ensures.1 next.ensures.wait);
    }

pub returns : goal.returns
returns c = (all_wait c.args.self.now c.loop-number.number (let past = c.loop-number-test.false in omega arith) c.loop-number.invariant.wait, c.loop-number.invariant.same)
