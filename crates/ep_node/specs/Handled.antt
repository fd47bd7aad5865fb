-- What a replica has handled of the others.
use Rattle.std.specs.Prelude.{ℕ, max, eqb, cond, List, [], ◌∷◌}
use Rattle.ep_frame.specs.Meaning.{sender_at, origin_at}
use Rattle.ep_journal.specs.declared.entry.Entry.{Entry}
use Rattle.ep_journal.specs.declared.event.Event.{Event as Happening}
use Rattle.ep_journal.specs.declared.event.Event.TheVariants.{Propose, Handle, GiveUp, Recover, Execute}

-- the number of the sender's entry that the event's frame came of, where replica r sent it; else 0
abbrev pub number_from : ℕ → Happening → ℕ
number_from r (Propose client request command seen named) = 0
number_from r (Handle b) = cond (eqb (sender_at b) r) (origin_at b).entry 0
number_from r (GiveUp i) = 0
number_from r (Recover i) = 0
number_from r (Execute i) = 0

-- the greatest entry number in the frames from replica r that these entries handle; 0 where they handle none
abbrev pub handled_from : ℕ → List Entry → ℕ
handled_from r [] = 0
handled_from r (e ∷ es) = max (number_from r e.event) (handled_from r es)
