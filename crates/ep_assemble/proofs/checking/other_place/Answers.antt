use Rattle.std.proofs.Common.{rules, ◌≡◌, ◌<◌, ◌≤◌, true, false, length, sym, subst}
use Rattle.std.proofs.lemmas.List.Elements.{All-more, All-same}
use Rattle.std.proofs.lemmas.List.{take_all}
use Rattle.ep_assemble.specs.Clusters.{IsMember}
use Rattle.ep_assemble.proofs.Checked.{other}
use Rattle.ep_assemble.proofs.checking.other_place.Goals as goal

pub loop-place-preserved : goal.loop-place-preserved
loop-place-preserved c =
    let less : c.loop-place.place < length c.args.journals.now = search rules in
    let member : IsMember c.args.version c.args.opening.now c.args.cluster c.index-journals-place.result = search rules in
    All-more (IsMember c.args.version c.args.opening.now c.args.cluster) c.args.journals.now c.loop-place.place c.index-journals-place.result less c.loop-place.invariant
    (subst (IsMember c.args.version c.args.opening.now c.args.cluster) c.index-journals-place.is member)

pub returns : goal.returns
returns c =
    let all : length c.args.journals.now ≤ c.loop-place.place = search rules in
    All-same (IsMember c.args.version c.args.opening.now c.args.cluster) _ _ (sym (take_all _ c.args.journals.now all)) c.loop-place.invariant

pub returns-then-not-is_member : goal.returns-then-not-is_member
returns-then-not-is_member c =
    let less : c.loop-place.place < length c.args.journals.now = search rules in
    other c.args.version c.args.opening.now c.args.cluster c.loop-place.place c.args.journals.now c.index-journals-place.result _ less c.index-journals-place.is
    (λ m. let yes : c.is_member.result ≡ true = c.is_member.ensures.1 m in let no : c.is_member.result ≡ false = c.if-not-is_member.true in absurd (cc)) c.loop-place.invariant
