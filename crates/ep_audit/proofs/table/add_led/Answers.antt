use Rattle.std.proofs.Common.{◌≡◌, ◌+◌, ℕ, List, Option, IfOk, sym, ap, subst, ◌∙◌, arith}
use Rattle.ep_base.specs.Instances.{instance_of}
use Rattle.ep_base.specs.declared.decree.Decree.{Decree}
use Rattle.ep_audit.specs.Tables.{agreed_in, and_row, Covers}
use Rattle.ep_audit.proofs.Covering.{covers_next}
use Rattle.ep_audit.proofs.table.add_led.Goals as goal

pub loop-place-preserved : goal.loop-place-preserved
loop-place-preserved c = λ h.
    let g : ℕ → Option Decree = agreed_in c.args.journals.now in
    let b : ℕ = instance_of c.args.leader (c.loop-place.place + 1) in
    let old : List (ℕ × Decree) = c.loop-place.table.items in
    let new : List (ℕ × Decree) = c.add_agreed.new.table.items in
    let at : c.unwrap-instance.result ≡ b = subst (λ r. IfOk r (λ i. i ≡ b)) c.unwrap-instance.ensures c.new.ensures.value in
    let made : new ≡ and_row old b (g b) = c.in_ok-add_agreed.ensures ∙ ap (λ i. and_row old i (g i)) at in
    let next : b + 1 ≡ instance_of c.args.leader (c.loop-place.place + 1 + 1) = omega arith in
    subst (λ n. Covers g n new) next (subst (Covers g (b + 1)) (sym made) (covers_next g b old (c.loop-place.invariant h)))
