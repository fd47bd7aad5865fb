use Rattle.std.proofs.Common.{◌∙◌, sym, ap, subst, T}
use Rattle.std.specs.FinMap.{find, get-from_sorted}
use Rattle.ep_rules.specs.OneMap.{value_at}
use Rattle.ep_exec.specs.Shared.{items_of}
use Rattle.ep_exec.specs.Table.{key_cmp}
use Rattle.ep_exec.proofs.listing.Listing.get.Goals as goal

pub returns : goal.returns
returns c =
    let k = c.args.key.now in
    c.found.ensures
    ∙ ap (find key_cmp k) c.listed.ensures
    ∙ sym (get-from_sorted key_cmp (items_of c.self.inside.shared) k (subst T (sym c.self.invariant) tt))
    ∙ ap (λ m. value_at m k) c.self.view_is
