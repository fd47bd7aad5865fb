use Rattle.std.proofs.Common.{rules, ◌≡◌, ◌<◌, ◌≤◌, length, sym, subst}
use Rattle.std.proofs.lemmas.List.Elements.{All-more, All-same}
use Rattle.std.proofs.lemmas.List.{take_all}
use Rattle.ep_assemble.specs.Generations.{IsLike}
use Rattle.ep_assemble.proofs.Opened.{first_other}
use Rattle.ep_assemble.proofs.openings.first_other.Goals as goal

pub loop-place-preserved : goal.loop-place-preserved
loop-place-preserved c =
    let less : c.loop-place.place < length c.args.files.now = search rules in
    let like : IsLike c.args.generation c.args.first.now c.index-files-place.result = search rules in
    All-more (IsLike c.args.generation c.args.first.now) c.args.files.now c.loop-place.place c.index-files-place.result less c.loop-place.invariant (subst (IsLike c.args.generation c.args.first.now) c.index-files-place.is like)

pub returns : goal.returns
returns c =
    let all : length c.args.files.now ≤ c.loop-place.place = search rules in
    All-same (IsLike c.args.generation c.args.first.now) _ _ (sym (take_all _ c.args.files.now all)) c.loop-place.invariant

pub returns-in-Some : goal.returns-in-Some
returns-in-Some c =
    let less : c.loop-place.place < length c.args.files.now = search rules in
    first_other c.args.generation c.args.first.now c.loop-place.place c.in-Some.how c.args.files.now c.index-files-place.result _ less c.index-files-place.is c.loop-place.invariant c.in-Some.ensures
