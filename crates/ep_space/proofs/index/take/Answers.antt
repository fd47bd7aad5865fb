use Rattle.std.proofs.Common.{◌≡◌, ◌<◌, ◌∙◌, ap, sym, subst, length, remove}
use Rattle.ep_space.specs.Index.{count_below}
use Rattle.ep_space.proofs.Rising.{count_member, remove-at_count}
use Rattle.ep_space.proofs.index.take.Goals as goal

pub remove-requires : goal.remove-requires
remove-requires c =
    let is = c.args.run.now.items in
    let at : c.position-at.result ≡ count_below c.args.id is = c.position-at.ensures.value ∙ ap (count_below c.args.id) c.as_slice.ensures.value in
    subst (λ n. c.position-at.result < n) (sym c.args.run.now.ok.0) (subst (λ n. n < length is) (sym at) (count_member c.args.id is c.requires.rising c.requires.there))

pub returns : goal.returns
returns c =
    let is = c.args.run.now.items in
    let at : c.position-at.result ≡ count_below c.args.id is = c.position-at.ensures.value ∙ ap (count_below c.args.id) c.as_slice.ensures.value in
    c.remove.ensures.items ∙ ap (remove is) at ∙ remove-at_count c.args.id is c.requires.rising c.requires.there
