use Rattle.std.proofs.Common.{◌≡◌, ◌↔◌, ◌⊎◌, ℕ, List, subst}
use Rattle.ep_base.specs.Places.{Has}
use Rattle.ep_audit.proofs.Lining.{seen_more}
use Rattle.ep_audit.proofs.history.see.Goals as goal

pub returns : goal.returns
returns c =
    subst (λ (ys : List ℕ). (i : ℕ) → Has c.add.new.self.list i ↔ (Has ys i ⊎ (i ≡ c.args.instance))) c.reserve_one.ensures.list
    (seen_more c.reserve_one.new.self.list c.add.new.self.list c.args.instance c.add.ensures.new c.add.ensures.old)
