use Rattle.std.proofs.Common.{◌∙◌, refl, ap}
use Rattle.ep_base.specs.Quorums.{size}
use Rattle.ep_opening.specs.Files.{File}
use Rattle.ep_embedded.proofs.bound.file_in.Goals as goal

pub returns-clause-err : goal.returns-clause-err
returns-clause-err c =
    let found = c.size-found.ensures ∙ ap (λ (f : File). f.faults) c.into_file-file.ensures in
    (c.args.bytes.items, c.in_ok-read.field-0, refl, c.in_ok-read.ensures.ok, λ e. c.is_same_size.ensures.no c.if-is_same_size.false (found ∙ e), c.count.ensures.value ∙ ap size found)
