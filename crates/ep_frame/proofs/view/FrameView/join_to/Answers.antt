use Rattle.std.proofs.Common.{◌≡◌, List, ℕ, sym, subst, ◌∙◌}
use Rattle.ep_base.specs.Attributes.{join}
use Rattle.ep_frame.specs.Meaning.{attrs_at}
use Rattle.ep_frame.proofs.Joining.{joined_same}
use Rattle.ep_frame.proofs.view.FrameView.join_to.Goals as goal

pub returns-then-has_attrs_in-clause-ok : goal.returns-then-has_attrs_in-clause-ok
returns-then-has_attrs_in-clause-ok c =
    let a = c.args.attrs.now in
    subst (λ (b : List ℕ). a ≡ join (attrs_at b) a) (c.as_slice-2.ensures ∙ c.self.view_is) (joined_same (attrs_at c.as_slice-2.result.now) a (sym c.has_attrs_in.ensures ∙ c.if-has_attrs_in.true))
