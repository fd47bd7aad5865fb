use Rattle.std.proofs.Common.{◌≡◌, ◌≢◌, ◌≤◌, ◌+◌, ◌++◌, ◌∙◌, ℕ, List, Option, Some, None, refl, subst, arith}
use Rattle.ep_ending.specs.Endings.{IsOpenIn}
use Rattle.ep_ending.specs.Lines.{open_line, open_lines}
use Rattle.ep_ending.proofs.Cutting.{Counted, cut, whole}
use Rattle.ep_ending.proofs.Listing.{starts, starts_empty, goes_on, longer}
use Rattle.ep_ending.proofs.opened.push_all_open.Goals as goal

pub loop-next-init : goal.loop-next-init
loop-next-init c =
    let j = c.args.journals.now in (
      starts (IsOpenIn j) (open_line j.faults) (open_lines j.faults) (refl, λ i is. refl) c.next_open-next.result c.args.text.now.items c.next_open-next.ensures,
      starts_empty (IsOpenIn j) (open_line j.faults) (open_lines j.faults) (refl, λ i is. refl) c.next_open-next.result c.args.text.now.items c.next_open-next.ensures,
      omega arith,
    )

pub returns-then-reported-eq-MOST_LINES : goal.returns-then-reported-eq-MOST_LINES
returns-then-reported-eq-MOST_LINES c =
    cut c.push_more.result c.args.journals.now c.in-Some.instance c.args.text.now.items c.loop-next.text.items c.push_more.new.text.items
    (subst (λ (n : ℕ). Counted c.args.journals.now (Some c.in-Some.instance) n c.args.text.now.items c.loop-next.text.items) c.if-reported-eq-MOST_LINES.true
    (subst (λ (o : Option ℕ). Counted c.args.journals.now o c.loop-next.reported c.args.text.now.items c.loop-next.text.items) c.in-Some.is c.loop-next.invariant))
    c.push_more.ensures

pub loop-next-preserved : goal.loop-next-preserved
loop-next-preserved c =
    let j = c.args.journals.now in
    let was : Counted j (Some c.in-Some.instance) c.loop-next.reported c.args.text.now.items c.loop-next.text.items =
    subst (λ (o : Option ℕ). Counted j o c.loop-next.reported c.args.text.now.items c.loop-next.text.items) c.in-Some.is c.loop-next.invariant in
    let these = was.0 in
    let many = was.1 in
    let few : c.loop-next.reported ≤ 20 = was.2 in
    let less : c.loop-next.reported ≢ 20 = c.if-reported-eq-MOST_LINES.false in
    let reported = c.in_ok-push_open.ensures ∙ (λ i. c.loop-next.text.items ++ open_line (c.size.ensures i) c.in-Some.instance) in (
      goes_on (IsOpenIn j) (open_line j.faults) (open_lines j.faults) (refl, λ i is. refl) c.in-Some.instance c.next_open-next-in-Some.result c.args.text.now.items c.loop-next.text.items c.push_open.new.text.items
          these c.next_open-next-in-Some.ensures reported,
      longer (IsOpenIn j) (open_line j.faults) (open_lines j.faults) (refl, λ i is. refl) c.in-Some.instance c.next_open-next-in-Some.result c.args.text.now.items c.loop-next.text.items c.push_open.new.text.items
          these c.next_open-next-in-Some.ensures reported ∙ (λ i. many i + 1),
      omega arith,
    )

pub returns : goal.returns
returns c =
    whole c.args.journals.now c.loop-next.reported c.args.text.now.items c.loop-next.text.items
    (subst (λ (o : Option ℕ). Counted c.args.journals.now o c.loop-next.reported c.args.text.now.items c.loop-next.text.items) c.in_default.is c.loop-next.invariant)
