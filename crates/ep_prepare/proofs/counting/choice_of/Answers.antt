use Rattle.ep_prepare.proofs.counting.choice_of.Goals as goal

pub returns : goal.returns
returns c = simp (c.as_slice.ensures, c.id.ensures, c.replica.ensures, c.size.ensures) at c.choose.ensures
