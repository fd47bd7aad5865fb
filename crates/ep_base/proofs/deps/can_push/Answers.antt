use Rattle.std.proofs.Common.{◌≡◌, length, ◌-◌, ltb, rules, Some}
use Rattle.std.specs.Prelude.{slice_get}
use Rattle.std.proofs.lemmas.Bool.Decides.{Decides-at}
use Rattle.ep_base.proofs.Rising.{Decides-rising_push}
use Rattle.ep_base.proofs.deps.can_push.Goals as goal

pub returns-in-Some : goal.returns-in-Some
returns-in-Some c =
    let items = c.args.items.now in
    let i = c.args.instance in
    let last = c.in-Some.last.now in
    let at : slice_get items (length items - 1) ≡ Some last = search rules in
    Decides-at c.lt.result (ltb last i) (search rules) (Decides-rising_push items i last c.requires at)
