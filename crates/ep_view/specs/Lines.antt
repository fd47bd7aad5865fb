-- What entries are reported as, where `handled` is the test for frames that some entry handles.
use Rattle.std.specs.Prelude.{ℕ, Bool, cond, List, [], ◌∷◌, ◌++◌, codes, decimal}
use Rattle.ep_base.specs.Attributes.{same_list}
use Rattle.ep_base.specs.declared.reply.Answer.{Answer}
use Rattle.ep_frame.specs.Meaning.{instance_at, message_at, origin_at}
use Rattle.ep_journal.specs.declared.entry.Entry.{Entry}
use Rattle.ep_journal.specs.declared.event.Event.{Event}
use Rattle.ep_journal.specs.declared.event.Event.TheVariants.{Propose, Handle, GiveUp, Recover, Execute}
use Rattle.ep_report.specs.Parts.{instance_text, answer_text}
use Rattle.ep_view.specs.Words.{event_text, message_text}

-- the words of a frame's message
abbrev pub words_at : List ℕ → List ℕ
words_at b = message_text (message_at b)

-- an instance that was executed, with its answer
abbrev pub answered_text : ℕ × Answer → List ℕ
answered_text d = instance_text d.0 ++ codes " -> " ++ answer_text d.1

abbrev pub more_done : List (ℕ × Answer) → List ℕ
more_done [] = []
more_done (d ∷ ds) = codes ", " ++ answered_text d ++ more_done ds

-- what was executed, if anything was
abbrev pub done_text : List (ℕ × Answer) → List ℕ
done_text [] = []
done_text (d ∷ ds) = codes "; executed " ++ answered_text d ++ more_done ds

-- the instance that a proposal takes: the one that what it sends is about
abbrev pub took_text : List (List ℕ) → List ℕ
took_text [] = []
took_text (b ∷ bs) = codes "; took " ++ instance_text (instance_at b)

-- an event, and for a proposal the instance that it takes
abbrev pub taken_text : Event → List (List ℕ) → List ℕ
taken_text (Propose client request command seen spared) frames = event_text (Propose client request command seen spared) ++ took_text frames
taken_text (Handle b) frames = event_text (Handle b)
taken_text (GiveUp i) frames = event_text (GiveUp i)
taken_text (Recover i) frames = event_text (Recover i)
taken_text (Execute i) frames = event_text (Execute i)

-- between the receivers of two frames: a comma where their words are the same, and else the words of the first one
abbrev pub between : List ℕ → List ℕ → List ℕ
between words next = cond (same_list words next) (codes ", ") (codes ": " ++ words ++ codes "; sends ")

-- the receiver of a frame, with the words NEVER HANDLED where it isn't one of those that are handled
abbrev pub receiver_text : (List ℕ → Bool) → List ℕ → List ℕ
receiver_text handled b = codes "to " ++ decimal (origin_at b).to ++ cond (handled b) [] (codes " NEVER HANDLED")

module _ (handled : List ℕ → Bool) where
  -- the rest of what is sent, after a frame of these words: frames of the same words, one after another, are reported with it, by their receivers
  abbrev pub more_sent : List ℕ → List (List ℕ) → List ℕ
  more_sent words [] = codes ": " ++ words
  more_sent words (b ∷ bs) = between words (words_at b) ++ receiver_text handled b ++ more_sent (words_at b) bs

  -- what is sent, if anything is
  abbrev pub sent_text : List (List ℕ) → List ℕ
  sent_text [] = []
  sent_text (b ∷ bs) = codes "; sends " ++ receiver_text handled b ++ more_sent (words_at b) bs

  -- what happened in an entry: its event, what it sends, and what it executes
  abbrev pub happened_text : Entry → List ℕ
  happened_text e = taken_text e.event e.frames ++ sent_text e.frames ++ done_text e.done

  -- an entry of replica r
  abbrev pub entry_text : ℕ → Entry → List ℕ
  entry_text r e = codes "stamp " ++ decimal e.stamp ++ codes "  replica " ++ decimal r ++ codes " entry " ++ decimal e.number ++ codes "  " ++ happened_text e
