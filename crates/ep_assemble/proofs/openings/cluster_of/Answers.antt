use Rattle.std.proofs.Common.{refl, sym}
use Rattle.ep_assemble.proofs.openings.cluster_of.Goals as goal

pub returns-in-Some-first_other-clause-err : goal.returns-in-Some-first_other-clause-err
returns-in-Some-first_other-clause-err c = (c.in-Some.first.now, sym c.in-Some.ensures.value, c.in-Some-first_other.ensures)

pub returns-clause-ok : goal.returns-clause-ok
returns-clause-ok c =
    record {
      first = c.in-Some.first.now;
      stands = sym c.in-Some.ensures.value;
      alike = c.in_default-first_other.ensures;
      generation = refl;
      size = c.size.ensures;
      opening = c.in_ok-opening.ensures;
    }
