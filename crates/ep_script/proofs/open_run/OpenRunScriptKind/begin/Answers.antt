use Rattle.std.proofs.Common.{sym, subst}
use Rattle.std.proofs.lemmas.List.Elements.{All-nil}
use Rattle.ep_base.specs.Quorums.{size as size_with}
use Rattle.ep_script.specs.Fits.{FitsSection, AllFit}
use Rattle.ep_script.proofs.LinesFit.{none_fits}
use Rattle.ep_script.proofs.open_run.OpenRunScriptKind.begin.Goals as goal

pub invariant_of-result : goal.invariant_of-result
invariant_of-result c =
    let n = size_with c.args.head.faults in
    (subst (AllFit n) (sym c.new.ensures.items) (All-nil (FitsSection n)), subst (FitsSection n) (sym c.new-2.ensures) (none_fits n))
