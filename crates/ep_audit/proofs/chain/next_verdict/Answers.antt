use Rattle.std.proofs.Common.{◌≡◌, ◌<◌, ◌-◌, ℕ, List, Some, length, slice_get, suc, arith}
use Rattle.ep_audit.specs.declared.chain_link.ChainLink.{ChainLink}
use Rattle.ep_audit.specs.declared.verdict.Verdict.{Verdict}
use Rattle.ep_audit.proofs.Differing.{at_place}
use Rattle.ep_audit.proofs.Linking.{first_judged, first_unjudged, next_judged, next_unfollowed}
use Rattle.ep_audit.proofs.chain.next_verdict.Goals as goal

pub returns-then-place-eq0-clause-ok : goal.returns-then-place-eq0-clause-ok
returns-then-place-eq0-clause-ok c =
    let there : slice_get c.args.links.now c.args.place ≡ Some c.index-links-place.result = at_place c.args.links.now c.args.place c.index-links-place.result c.requires.there c.index-links-place.is in
    first_judged c.args.links.now c.args.verdicts.now c.index-links-place.result c.args.place c.requires.linked c.requires.count there c.if-place-eq0.true c.judge.result c.judge.ensures.ok

pub returns-then-place-eq0-clause-refused : goal.returns-then-place-eq0-clause-refused
returns-then-place-eq0-clause-refused c =
    let there : slice_get c.args.links.now c.args.place ≡ Some c.index-links-place.result = at_place c.args.links.now c.args.place c.index-links-place.result c.requires.there c.index-links-place.is in
    first_unjudged c.args.links.now c.args.verdicts.now c.index-links-place.result c.args.place c.requires.linked c.requires.count there c.if-place-eq0.true c.judge.result c.judge.ensures.refused

pub returns-clause-ok : goal.returns-clause-ok
returns-clause-ok c =
    let links : List ChainLink = c.args.links.now in
    let vs : List Verdict = c.args.verdicts.now in
    let p : ℕ = c.args.place in
    let lt : p < length links = c.requires.there in
    let count : length vs ≡ p = c.requires.count in
    let ne = c.if-place-eq0.false in
    let before : p ≡ suc (p - 1) = omega arith in
    next_judged links vs c.index-links-place.result p c.requires.linked count (at_place links p c.index-links-place.result lt c.index-links-place.is) c.index-links-place-2.result c.index-verdicts-place.result (p - 1) before
    (at_place links (p - 1) c.index-links-place-2.result (omega arith) c.index-links-place-2.is) (at_place vs (p - 1) c.index-verdicts-place.result (omega arith) c.index-verdicts-place.is) c.follow.result c.follow.ensures.ok

pub returns-clause-refused : goal.returns-clause-refused
returns-clause-refused c =
    let links : List ChainLink = c.args.links.now in
    let vs : List Verdict = c.args.verdicts.now in
    let p : ℕ = c.args.place in
    let lt : p < length links = c.requires.there in
    let count : length vs ≡ p = c.requires.count in
    let ne = c.if-place-eq0.false in
    let before : p ≡ suc (p - 1) = omega arith in
    next_unfollowed links vs c.index-links-place.result p c.requires.linked count (at_place links p c.index-links-place.result lt c.index-links-place.is) c.index-links-place-2.result c.index-verdicts-place.result (p - 1) before
    (at_place links (p - 1) c.index-links-place-2.result (omega arith) c.index-links-place-2.is) (at_place vs (p - 1) c.index-verdicts-place.result (omega arith) c.index-verdicts-place.is) lt c.follow.result c.follow.ensures.refused
