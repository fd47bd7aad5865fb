use Rattle.std.proofs.Common.{sym, ◌∙◌, subst, is_ok}
use Rattle.ep_base.specs.Quorums.{size as size_with}
use Rattle.ep_script.specs.Fits.{FitsSection}
use Rattle.ep_script.proofs.LinesFit.{all_more, none_fits}
use Rattle.ep_script.proofs.open_run.OpenRun.end_section.Goals as goal

pub invariant_of-self : goal.invariant_of-self
invariant_of-self c =
    let n = size_with c.self.inside.head.faults in (
      all_more n c.self.inside.ended.items c.push.new.self.items c.replace-current.result (is_ok c.push.result) c.push.ensures.items (subst (FitsSection n) (sym c.replace-current.ensures.value) c.self.invariant.1) c.self.invariant.0,
      subst (FitsSection n) (sym (c.replace-current.ensures.after ∙ c.new.ensures)) (none_fits n),
    )

pub invariant_of-self-2 : goal.invariant_of-self-2
invariant_of-self-2 c =
    let n = size_with c.self.inside.head.faults in (
      all_more n c.self.inside.ended.items c.push.new.self.items c.replace-current.result (is_ok c.push.result) c.push.ensures.items (subst (FitsSection n) (sym c.replace-current.ensures.value) c.self.invariant.1) c.self.invariant.0,
      subst (FitsSection n) (sym (c.replace-current.ensures.after ∙ c.new.ensures)) (none_fits n),
    )
