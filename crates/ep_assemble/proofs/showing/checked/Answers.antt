use Rattle.std.proofs.Common.{◌≡◌, true, false}
use Rattle.ep_assemble.proofs.showing.checked.Goals as goal

pub returns-else-is_of-clause-err : goal.returns-else-is_of-clause-err
returns-else-is_of-clause-err c =
    record {
      file = c.args.file;
      is = c.requires;
      holds = λ m. let yes : c.is_of.result ≡ true = c.is_of.ensures.1 m in let no : c.is_of.result ≡ false = c.if-is_of.false in absurd (cc);
    }
