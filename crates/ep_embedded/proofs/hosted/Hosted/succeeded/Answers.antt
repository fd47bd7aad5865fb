use Rattle.std.proofs.Common.{Result, subst, sym}
use Rattle.std.specs.Prelude.{IfOk}
use Rattle.std.specs.Option.{option_map}
use Rattle.ep_node.specs.Nodes.{IsQuiet}
use Rattle.ep_node.specs.declared.close_fault.CloseFault.{CloseFault}
use Rattle.ep_opening.specs.Closing.{IsClosing}
use Rattle.ep_opening.specs.Files.{File}
use Rattle.ep_embedded.proofs.Heirs.{closed_so, lost_so}
use Rattle.ep_embedded.specs.Hosting.{Hosting}
use Rattle.ep_embedded.specs.Succeeding.{HasSucceeded}
use Rattle.ep_embedded.proofs.hosted.Hosted.succeeded.Goals as goal

pub returns-in-Ok-begun-clause-ok : goal.returns-in-Ok-begun-clause-ok
returns-in-Ok-begun-clause-ok c =
    let n = c.into_node.result in
    let heir = c.args.heir.now in
    let log = option_map (λ v. v.items) c.args.log in
    let closed = subst (λ (r : Result File CloseFault). IfOk r (λ (f : File). IsQuiet n × IsClosing n.replica c.args.heir.now.cluster f)) c.in-Ok.is c.into_closing-file.ensures.ok in
    let begun : HasSucceeded c.args.self heir log c.in-Ok.file c.in-Ok-begun.next = record {
      on_disk = c.requires.on_disk;
      closing = closed_so c.args.self c.args.heir.now n c.in-Ok.file c.into_node.ensures closed;
      begun = c.in-Ok-begun.ensures.ok;
    } in
    let carried : HasSucceeded c.args.self heir log c.in-Ok.file c.carry_on.new.self = subst (λ (h : Hosting). HasSucceeded c.args.self heir log c.in-Ok.file h) (sym c.carry_on.ensures.same) begun in
    subst (λ (f : File). HasSucceeded c.args.self heir log f c.carry_on.new.self) (sym c.carry_on.ensures.file) carried

pub returns-in-Err-clause-err : goal.returns-in-Err-clause-err
returns-in-Err-clause-err c =
    let n = c.into_node.result in
    let closed = subst (λ (r : Result File CloseFault). IfOk r (λ (f : File). IsQuiet n × IsClosing n.replica c.args.heir.now.cluster f)) c.in-Ok.is c.into_closing-file.ensures.ok in
    lost_so c.args.self c.args.heir.now _ n c.in-Ok.file c.in-Err.fault c.into_node.ensures closed c.in-Err.ensures.err
