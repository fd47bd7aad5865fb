use Rattle.std.proofs.Common.{sym, ◌∙◌, subst, Option, IfSome}
use Rattle.ep_base.specs.Quorums.{size as size_with}
use Rattle.ep_script.specs.Fits.{FitsRun}
use Rattle.ep_script.specs.Parts.{words_of}
use Rattle.ep_script.specs.Plan.{OpenPlan}
use Rattle.ep_script.specs.declared.run_line.RunLine.{RunLine}
use Rattle.ep_script.proofs.LinesFit.{run_fits}
use Rattle.ep_script.proofs.open_run.OpenRunScriptKind.take.Goals as goal

pub take_line-requires : goal.take_line-requires
take_line-requires c =
    let read : FitsRun (size_with c.size.result) c.in-Some.line =
    subst (λ (o : Option RunLine). IfSome o (FitsRun (size_with c.size.result))) (sym c.in_ok-read_run_line.ensures ∙ c.in-Some.is) (run_fits (size_with c.size.result) c.version.result (words_of c.args.words.now)) in
    let fits : FitsRun (size_with c.self.inside.head.faults) c.in-Some.line = subst (λ f. FitsRun (size_with f) c.in-Some.line) c.size.ensures read in
    subst (λ (p : OpenPlan). FitsRun (size_with p.head.faults) c.in-Some.line) c.self.view_is fits
