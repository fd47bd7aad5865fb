use Rattle.std.proofs.Common.{inr}
use Rattle.ep_library.proofs.patience.begin_new.Goals as goal

pub returns-in-Some : goal.returns-in-Some
returns-in-Some c = inr (c.in-Some.begun, c.in-Some.ensures.some, c.put_begun.ensures)
