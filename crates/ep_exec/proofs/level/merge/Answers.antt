use Rattle.std.proofs.Common.{◌≡◌, ◌∷◌, sym, ap, ◌∙◌}
use Rattle.std.proofs.lemmas.Bool.{false≢true}
use Rattle.ep_base.specs.Places.{Has}
use Rattle.ep_exec.specs.Walk.{Flat, flat, stack, merged}
use Rattle.ep_exec.proofs.Stacks.{stack_push, stack_pop, merged_here, merged_down}
use Rattle.ep_exec.proofs.level.merge.Goals as goal

pub loop-instance-preserved : goal.loop-instance-preserved
loop-instance-preserved c =
    let d = c.args.instance in
    let top = c.loop-instance.top in
    let below = c.in-Some.below in
    let rest = stack c.pop.new.self.items in
    let out : ¬ Has top.members d = (λ h. false≢true (sym c.loop-instance-test.true ∙ c.contains.ensures.1 h)) in
    let opened : stack c.loop-instance.path.items ≡ flat below ∷ rest = stack_pop c.loop-instance.path.items c.pop.new.self.items below c.in-Some.ensures.items in
    ap (λ (f : Flat). merged f rest d) c.in_ok-top-in-Some.ensures ∙ sym (merged_down (flat top) (flat below) rest d out) ∙ ap (λ s. merged (flat top) s d) (sym opened) ∙ c.loop-instance.invariant

pub returns : goal.returns
returns c =
    let here : Has c.loop-instance.top.members c.args.instance = c.contains.ensures.0 c.loop-instance-test.false in
    ap stack c.in_ok-push.ensures.items ∙ stack_push c.loop-instance.path.items c.loop-instance.top ∙ sym (merged_here (flat c.loop-instance.top) (stack c.loop-instance.path.items) c.args.instance here) ∙ c.loop-instance.invariant
