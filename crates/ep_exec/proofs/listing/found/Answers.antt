use Rattle.std.proofs.Common.{Ok, Err, sym, subst, rules, List, ℕ, T}
use Rattle.std.proofs.lemmas.Fn.{always_returns_same}
use Rattle.ep_exec.specs.Table.{key_cmp}
use Rattle.ep_exec.proofs.Placed.{searched}
use Rattle.ep_exec.proofs.Sorting.{Pair}
use Rattle.ep_exec.proofs.listing.found.Goals as goal

pub returns-in-Ok : goal.returns-in-Ok
returns-in-Ok c =
    let k : List ℕ = c.args.key.now in
    let by_key = c.in-Ok.ensures.position (λ (e : Pair). key_cmp e.0 k) (always_returns_same _ _ _ (λ a r g called. search rules)) in
    sym ((searched k c.args.items.now (Ok c.in-Ok.index) (subst T (sym c.requires) tt) c.in-Ok.ensures.bound by_key).found c.index-items-index.result)

pub returns-in-Err : goal.returns-in-Err
returns-in-Err c =
    let k : List ℕ = c.args.key.now in
    let by_key = c.in-Err.ensures.position (λ (e : Pair). key_cmp e.0 k) (always_returns_same _ _ _ (λ a r g called. search rules)) in
    sym ((searched k c.args.items.now (Err c.in-Err.field-0) (subst T (sym c.requires) tt) c.in-Err.ensures.bound by_key).none)
