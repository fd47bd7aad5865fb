use Rattle.std.proofs.Common.{◌≡◌, ◌∙◌, ℕ, ◌+◌, List, [], ◌∷◌, ◌++◌, length, take, add-one, refl, ap, sym, subst, arith}
use Rattle.std.proofs.Math.Seq.{take-suc, take-length}
use Rattle.ep_base.specs.Quorums.{size}
use Rattle.ep_script.specs.Fits.{AllFit, FitsSection}
use Rattle.ep_script.specs.Plan.{SectionPlan}
use Rattle.ep_run.specs.Rings.{HasRun}
use Rattle.ep_run.specs.Sections.{AreSections}
use Rattle.ep_run.proofs.Running.{sections_more}
use Rattle.ep_run.proofs.ring_run.RingRun.run_all.Goals as goal

pub loop-section-init : goal.loop-section-init
loop-section-init g c = record { run = λ b h. h; sections = λ b h. (refl, refl) }

pub run-requires-clause-run : goal.run-requires-clause-run
run-requires-clause-run g c = λ lifetimes lives. let r = c.requires.run in (r.0, take c.loop-section.section-index c.sections-section-items.result.now, c.loop-section.invariant.run r.0 r.1)

pub run-requires-clause-fits : goal.run-requires-clause-fits
run-requires-clause-fits g c = λ lifetimes lives.
    let f = c.args.script.now.head.faults in
    let all : List SectionPlan = c.sections-section-items.result.now in
    let s : SectionPlan = c.section-item.result in
    let r = c.requires.run in
    let fit : AllFit (size f) all = subst (λ (ss : List SectionPlan). AllFit (size f) ss) (sym (c.sections-section-items.ensures.value)) c.sections-section-items.ensures.fit in
    let fits : FitsSection (size f) s = subst (FitsSection (size f)) (sym c.section-item.is) (fit c.loop-section.section-index s c.loop-section-test.true) in
    let long : length c.loop-section.self.nodes.items ≡ size f = (c.loop-section.invariant.run r.0 r.1).host.count ∙ sym r.1.host.count ∙ c.requires.size in
    subst (λ (n : ℕ). FitsSection n s) (sym long) fits

pub loop-section-preserved : goal.loop-section-preserved
loop-section-preserved g c =
    let all : List SectionPlan = c.sections-section-items.result.now in
    let i : ℕ = c.loop-section.section-index in
    let s : SectionPlan = c.section-item.result in
    let old = c.args.self.now in
    let mid = c.loop-section.self in
    let new = c.run.new.self in
    let more : take (i + 1) all ≡ take i all ++ s ∷ [] = rw (add-one, take-suc all i s c.loop-section-test.true, ← c.section-item.is) refl in record {
      run = λ b h. rw more (c.in_ok-run.ensures.run b (take i all) (c.loop-section.invariant.run b h));
      sections = λ b h. rw more (sections_more c.args.turns (take i all) s [] old.receipts.items mid.receipts.items new.receipts.items old.nodes.items mid.nodes.items new.nodes.items (c.loop-section.invariant.sections b h) (c.in_ok-run.ensures.section b (take i all) (c.loop-section.invariant.run b h)));
    }

pub returns-clause-sections : goal.returns-clause-sections
returns-clause-sections g c = λ b h.
    let old = c.args.self.now in
    let new = c.loop-section.self in
    let all : List SectionPlan = c.sections-section-items.result.now in
    let at : c.loop-section.section-index ≡ length all = omega arith in
    let same : take c.loop-section.section-index all ≡ c.args.script.now.sections = ap (λ (n : ℕ). take n all) at ∙ take-length all ∙ c.sections-section-items.ensures.value in
    subst (λ (ss : List SectionPlan). AreSections c.args.turns ss [] old.receipts.items new.receipts.items old.nodes.items new.nodes.items) same (c.loop-section.invariant.sections b h)

pub returns-clause-run : goal.returns-clause-run
returns-clause-run g c = λ b h.
    let all : List SectionPlan = c.sections-section-items.result.now in
    let at : c.loop-section.section-index ≡ length all = omega arith in
    let same : take c.loop-section.section-index all ≡ c.args.script.now.sections = ap (λ (n : ℕ). take n all) at ∙ take-length all ∙ c.sections-section-items.ensures.value in
    subst (λ (ss : List SectionPlan). HasRun b c.args.turns ss c.loop-section.self) same (c.loop-section.invariant.run b h)
