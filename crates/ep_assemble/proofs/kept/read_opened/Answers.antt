use Rattle.std.proofs.Common.{◌≡◌, true, false, refl}
use Rattle.ep_assemble.proofs.Beside.{other_beside, read_beside}
use Rattle.ep_assemble.proofs.kept.read_opened.Goals as goal

pub returns-then-not-is_of_size-clause-err : goal.returns-then-not-is_of_size-clause-err
returns-then-not-is_of_size-clause-err c = (
  refl,
  other_beside c.args.cluster.now c.args.one.now _ _ _ _ _ _ c.deref.ensures.value c.in_ok-origin.ensures c.in_ok-log.ensures.ok
      (λ m. let yes : c.is_of_size.result ≡ true = c.is_of_size.ensures.1 m in let no : c.is_of_size.result ≡ false = c.if-not-is_of_size.true in absurd (cc)),
)

pub returns-clause-ok : goal.returns-clause-ok
returns-clause-ok c = read_beside c.args.cluster.now c.args.one.now _ _ _ _ _ _ c.deref.ensures.value c.in_ok-origin.ensures c.in_ok-log.ensures.ok
