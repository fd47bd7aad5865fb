use Rattle.std.proofs.Common.{◌≡◌, List, ℕ, ◌≤◌, length, sym, ap, subst, ◌∙◌}
use Rattle.ep_base.specs.declared.version_kind.VersionKind.TheVariants.{V1, V2}
use Rattle.ep_frame.specs.Meaning.{version_at, sender_at, origin_at, message_at}
use Rattle.ep_frame.proofs.Upgrading.{in_version_2, upgraded, long}
use Rattle.ep_frame.proofs.frame.Frame.upgraded.Goals as goal

pub in_version_2-requires : goal.in_version_2-requires
in_version_2-requires c = subst (λ (b : List ℕ). 3 ≤ length b) (sym c.as_slice.ensures) (long c.args.self.now c.view-view.ensures.spelled)

pub written-requires : goal.written-requires
written-requires c =
    let b = c.args.self.now in
    let is : version_at b ≡ V1 = sym (c.in-V1.ensures.value ∙ c.version.ensures ∙ ap version_at c.view-view.ensures.value) in
    (V2, sender_at b, origin_at b, message_at b, upgraded b c.in_ok-bytes-in-V1.bytes c.view-view.ensures.spelled is (c.in_ok-bytes-in-V1.ensures ∙ ap in_version_2 c.as_slice.ensures))

pub returns-in_ok-bytes-in-V1-clause-upgraded : goal.returns-in_ok-bytes-in-V1-clause-upgraded
returns-in_ok-bytes-in-V1-clause-upgraded c =
    let b = c.args.self.now in
    let is : version_at b ≡ V1 = sym (c.in-V1.ensures.value ∙ c.version.ensures ∙ ap version_at c.view-view.ensures.value) in
    upgraded b c.written.result c.view-view.ensures.spelled is (c.written.ensures ∙ c.in_ok-bytes-in-V1.ensures ∙ ap in_version_2 c.as_slice.ensures)
