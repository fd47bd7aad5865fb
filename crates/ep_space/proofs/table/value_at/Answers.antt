use Rattle.std.proofs.Common.{◌<◌, ◌-◌, ◌∙◌, Some, sym, ap, arith, length}
use Rattle.ep_space.specs.Entries.{flat}
use Rattle.ep_space.proofs.Spots.{value-here, value-or}
use Rattle.ep_space.proofs.table.value_at.Goals as goal

pub returns : goal.returns
returns g c =
    let es = c.args.entries.now.items in
    let n = c.args.at - 1 in
    let r = c.index.result.now in
    let some = c.if-at-eq0.false in
    let most = c.requires in
    let inside : n < length es = omega (arith, some, most) in
    c.as_ref.ensures.value ∙ sym (ap flat (value-here es c.args.at r.1 some (value-or es n r inside ∙ ap (λ e. Some e.1) (sym c.index.ensures))))
