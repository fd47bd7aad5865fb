use Rattle.std.proofs.Common.{◌≡◌, ◌∙◌, ◌∷◌, ap, sym}
use Rattle.ep_base.specs.Deps.{union}
use Rattle.ep_space.specs.Keys.{met_key, holders, holders_of}
use Rattle.ep_space.proofs.Bringing.{on_value}
use Rattle.ep_space.proofs.Holders.{holders-two}
use Rattle.ep_space.proofs.gathered.met_by.Goals as goal

pub returns : goal.returns
returns c =
    let m = c.args.records.now.held in
    let k = c.args.key.now in
    let a : c.run-writes.result.now ≡ holders (0 ∷ k) m = c.run-writes.ensures in
    let b : c.run.result.now ≡ holders (1 ∷ k) m = c.run.ensures in
    on_value c.merged.result (λ v e. e ∙ (λ d. union (a d) (b d)) ∙ holders-two (0 ∷ k) (1 ∷ k) m ∙ ap (λ r. holders_of (met_key r k) m) (sym c.if-reads.false)) c.merged.ensures
