use Rattle.ep_replica.proofs.Noted.{place_for, place_for_none}
use Rattle.ep_replica.proofs.slots.proposed_in.Goals as goal

pub returns-in-Some : goal.returns-in-Some
returns-in-Some c = λ me slots room. place_for me c.args.entry.now slots _ _ _ c.number.ensures.value room c.in-Some.ensures

pub returns-in-None : goal.returns-in-None
returns-in-None c = λ me slots room. place_for_none me c.args.entry.now slots c.in-None.ensures
