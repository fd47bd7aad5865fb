use Rattle.ep_replica.proofs.Noted.{own_place, reports_more, still_reports, others_report}
use Rattle.std.proofs.Common.{◌∙◌, sym, subst, List, Option, arith}
use Rattle.std.proofs.lemmas.Bool.{eqb-true, eqb-false}
use Rattle.ep_base.specs.Instances.{instance_of}
use Rattle.ep_replica.specs.Slots.{HasPlace, HoldsProposals}
use Rattle.ep_replica.specs.declared.proposal.Proposal.{Proposal}
use Rattle.ep_replica.proofs.slots.Slots.note.Goals as goal

pub index_mut-requires : goal.index_mut-requires
index_mut-requires c =
    let low = own_place c.args.me c.args.entry.now c.self.inside.items.items _ c.number.result _ (subst (λ (xs : List (Option Proposal)). HasPlace c.args.me c.args.entry.now xs) (sym c.self.view_is) c.requires.room)
    (sym c.replica.ensures ∙ eqb-true c.replica.result c.args.me (sym c.eq.ensures ∙ c.if-eq.true)) c.number.ensures.value c.number.ensures.in_range.2 c.in-Some.ensures in
    let long = c.self.inside.items.ok.0 in
    omega (arith, low, long)

pub returns-then-eq-clause-reported : goal.returns-then-eq-clause-reported
returns-then-eq-clause-reported c = λ es reports.
    reports_more c.args.me es c.args.entry.now c.self.inside.items.items _ c.number.result _ (own_place c.args.me c.args.entry.now c.self.inside.items.items _ c.number.result _ (subst (λ (xs : List (Option Proposal)). HasPlace c.args.me c.args.entry.now xs) (sym c.self.view_is) c.requires.room) (sym c.replica.ensures ∙ eqb-true c.replica.result c.args.me (sym c.eq.ensures ∙ c.if-eq.true)) c.number.ensures.value c.number.ensures.in_range.2 c.in-Some.ensures)
    (sym c.replica.ensures ∙ eqb-true c.replica.result c.args.me (sym c.eq.ensures ∙ c.if-eq.true)) c.number.ensures.value c.number.ensures.in_range.2 c.in-Some.ensures (subst (λ (xs : List (Option Proposal)). HoldsProposals c.args.me es xs) (sym c.self.view_is) reports)

pub returns-in_default-clause-reported : goal.returns-in_default-clause-reported
returns-in_default-clause-reported c = λ es reports. still_reports c.args.me es c.args.entry.now c.args.self.now (λ number limit. c.in_default.ensures (instance_of c.args.me number)) reports

pub returns-else-eq-clause-reported : goal.returns-else-eq-clause-reported
returns-else-eq-clause-reported c = λ es reports.
    others_report c.args.me es c.args.entry.now c.args.self.now _ _ (λ same. eqb-false c.replica.result c.args.me (sym c.eq.ensures ∙ c.if-eq.false) (c.replica.ensures ∙ same)) c.in-Some.ensures reports
