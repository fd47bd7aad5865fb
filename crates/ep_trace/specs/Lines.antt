-- What the events of a replay are reported as, a line each.
use Rattle.std.specs.Prelude.{ℕ, ◌+◌, List, [], ◌∷◌, ◌++◌, Option, Some, None, codes, decimal}
use Rattle.ep_base.specs.Commands.{Command}
use Rattle.ep_frame.specs.Meaning.{sender_at, origin_at}
use Rattle.ep_journal.specs.declared.entry.Entry.{Entry}
use Rattle.ep_journal.specs.declared.event.Event.{Event as Happening}
use Rattle.ep_journal.specs.declared.event.Event.TheVariants as taken
use Rattle.ep_report.specs.Parts.{instance_text, command_text}
use Rattle.ep_journal.specs.Refusals.{refusal_text}
use Rattle.ep_journal.specs.declared.refusal.Refusal.{Refusal}
use Rattle.ep_trace.specs.declared.numbers.Numbers.{Numbers}
use Rattle.ep_view.specs.Lines.{words_at, between, done_text, taken_text}
use Rattle.ep_world.specs.declared.world_event.WorldEvent.{WorldEvent}
use Rattle.ep_world.specs.declared.world_event.WorldEvent.TheVariants.{Propose, GiveUp, Recover, Execute, Deliver}

-- Events that happen.

-- the message of this number
abbrev pub number_text : Option ℕ → List ℕ
number_text None = []
number_text (Some n) = codes "#" ++ decimal n ++ codes " "

-- the message of this number that is handled, and its sender
abbrev pub handled_text : Option ℕ → List ℕ → List ℕ
handled_text n b = codes "handle " ++ number_text n ++ codes "from " ++ decimal (sender_at b) ++ codes ": " ++ words_at b

-- an event that sends these frames; the frame that it handles, if it handles one, is the message of this number
abbrev pub happening_text : Option ℕ → Happening → List (List ℕ) → List ℕ
happening_text n (taken.Propose client request command seen spared) frames = taken_text (taken.Propose client request command seen spared) frames
happening_text n (taken.Handle b) frames = handled_text n b
happening_text n (taken.GiveUp i) frames = taken_text (taken.GiveUp i) frames
happening_text n (taken.Recover i) frames = taken_text (taken.Recover i) frames
happening_text n (taken.Execute i) frames = taken_text (taken.Execute i) frames

-- the message of this number, to its receiver
abbrev pub receiver_text : ℕ → List ℕ → List ℕ
receiver_text n b = codes "#" ++ decimal n ++ codes " to " ++ decimal (origin_at b).to

-- the rest of what is sent, from this number on, after a frame of these words: frames of the same words, one after another, are reported together
abbrev pub more_sent : ℕ → List ℕ → List (List ℕ) → List ℕ
more_sent n words [] = codes ": " ++ words
more_sent n words (b ∷ bs) = between words (words_at b) ++ receiver_text n b ++ more_sent (n + 1) (words_at b) bs

-- what is sent, from this number on, if anything is
abbrev pub sent_text : ℕ → List (List ℕ) → List ℕ
sent_text n [] = []
sent_text n (b ∷ bs) = codes "; sends " ++ receiver_text n b ++ more_sent (n + 1) (words_at b) bs

-- the script's line, and the entry at replica r
abbrev pub place_text : ℕ → ℕ → Entry → List ℕ
place_text line r e = codes "line " ++ decimal line ++ codes "  stamp " ++ decimal e.stamp ++ codes "  replica " ++ decimal r ++ codes " entry " ++ decimal e.number ++ codes "  "

-- what happened in it: the event, what it sends, and what it executes
abbrev pub happened_text : Numbers → Entry → List ℕ
happened_text n e = happening_text n.given e.event e.frames ++ sent_text n.first e.frames ++ done_text e.done

-- the entry that an event made at replica r
abbrev pub made_line : Numbers → ℕ → Entry → List ℕ
made_line n r e = place_text n.line r e ++ happened_text n e ++ codes "\n"

-- Events that are refused.

-- the replica that is to be spared, if one is named
abbrev pub spared_text : Option ℕ → List ℕ
spared_text None = []
spared_text (Some s) = codes "sparing " ++ decimal s ++ codes " "

abbrev pub proposal_text : ℕ → ℕ → Command → List ℕ
proposal_text replica client command = codes "propose " ++ decimal replica ++ codes " " ++ decimal client ++ codes " " ++ command_text command

-- the event as a script has it
abbrev pub asked_text : WorldEvent → List ℕ
asked_text (Propose replica client request command seen spared) = spared_text spared ++ proposal_text replica client command
asked_text (GiveUp replica i) = codes "giveup " ++ decimal replica ++ codes " " ++ instance_text i
asked_text (Recover replica i) = codes "recover " ++ decimal replica ++ codes " " ++ instance_text i
asked_text (Execute replica i) = codes "execute " ++ decimal replica ++ codes " " ++ instance_text i
asked_text (Deliver message) = codes "deliver " ++ decimal message

-- the event, and why it is refused
abbrev pub refused_line : ℕ → WorldEvent → Refusal → List ℕ
refused_line line event cause = codes "line " ++ decimal line ++ codes "  refused " ++ refusal_text cause ++ codes ": " ++ asked_text event ++ codes "\n"
