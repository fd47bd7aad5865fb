use Rattle.std.proofs.Common.{◌≡◌, ◌∙◌, ◌++◌, List, ℕ, ap, sym, append-nil}
use Rattle.ep_base.specs.Deps.{union}
use Rattle.ep_space.specs.Keys.{met_key, holders_of}
use Rattle.ep_space.proofs.Bringing.{on_value}
use Rattle.ep_space.proofs.Holders.{holders-joined}
use Rattle.ep_space.proofs.gathered.met_by_two.Goals as goal

pub returns : goal.returns
returns c =
    let m = c.args.records.now.held in
    let p = met_key c.args.reads c.args.first.now in
    let q = met_key c.args.reads c.args.second.now in
    let a : c.deref.result.now ≡ holders_of p m = c.deref.ensures.value ∙ c.in_ok-of_first.ensures in
    let b : c.deref-2.result.now ≡ holders_of q m = c.deref-2.ensures.value ∙ c.in_ok-of_second.ensures in
    on_value c.merged.result (λ v e. e ∙ (λ d. union (a d) (b d)) ∙ holders-joined p q m ∙ ap (λ (ks : List (List ℕ)). holders_of (p ++ ks) m) (sym (append-nil q))) c.merged.ensures
