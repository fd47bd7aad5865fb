-- What was voted for is the decree that comes.
use Rattle.std.proofs.Common.{◌≡◌, ◌∙◌, ℕ, Bool, Option, Some, sym, ap}
use Rattle.std.specs.Prelude.{IsTrue}
use Rattle.ep_base.specs.Sameness.{same_decree}
use Rattle.ep_base.specs.declared.decree.Decree.{Decree}
use Rattle.ep_base.specs.declared.vote.Vote.{Vote}
use Rattle.ep_base.proofs.Same.{Decides-same_decree}
use Rattle.ep_rules.specs.Phases.{with_commit}
use Rattle.ep_rules.specs.declared.record.Record.{Record}
use Rattle.ep_space.specs.Settled.{settled}

pub same_settled : (i : ℕ) (r : Record) (o : Option Vote) (v : Vote) (x : Decree) (b : Bool) → Some v ≡ o → b ≡ same_decree x v.decree → IsTrue b → settled i r o ≡ Some (with_commit i r x)
same_settled i r o v x b there is holds = ap (settled i r) (sym there) ∙ ap (λ d. Some (with_commit i r d)) (sym ((Decides-same_decree x v.decree).0 (sym is ∙ holds)))
