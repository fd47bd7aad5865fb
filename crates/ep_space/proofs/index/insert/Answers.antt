use Rattle.std.proofs.Common.{◌≡◌, ◌∙◌, ap, insert}
use Rattle.ep_space.specs.Index.{count_below}
use Rattle.ep_space.proofs.Rising.{insert-at_count}
use Rattle.ep_space.proofs.Room.{when_ok}
use Rattle.ep_space.proofs.index.insert.Goals as goal

pub returns : goal.returns
returns c =
    let is = c.args.run.now.items in
    let at : c.position-at.result ≡ count_below c.args.id is = c.position-at.ensures.value ∙ ap (count_below c.args.id) c.as_slice.ensures.value in
    when_ok c.insert.result (insert is c.position-at.result c.args.id) is c.insert.new.self.items (c.insert.ensures.succeeds c.requires.room) c.insert.ensures.items
    ∙ ap (λ n. insert is n c.args.id) at ∙ insert-at_count c.args.id is
