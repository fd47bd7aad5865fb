-- A run as a sequence diagram for Mermaid, where `handled` is the test for frames that some entry handles.
use Rattle.std.specs.Prelude.{◌≡◌, ℕ, zero, suc, Bool, cond, List, [], ◌∷◌, ◌++◌, codes, decimal}
use Rattle.ep_base.specs.Quorums.{size}
use Rattle.ep_base.specs.declared.message.Message.{Message}
use Rattle.ep_base.specs.declared.message.Message.TheVariants.{PreAccept, PreAcceptOk, Accept, AcceptOk, Commit, Prepare, PrepareOk, Nack}
use Rattle.ep_base.specs.declared.reply.Answer.{Answer}
use Rattle.ep_base.specs.declared.version.Version.{Version}
use Rattle.ep_base.specs.declared.version_kind.VersionKind.TheVariants.{V1, V2, V3}
use Rattle.ep_frame.specs.Meaning.{instance_at, message_at, origin_at, sender_at}
use Rattle.ep_journal.specs.Entries.{Collected}
use Rattle.ep_journal.specs.Openings.{Opening}
use Rattle.ep_journal.specs.declared.entry.Entry.{Entry}
use Rattle.ep_journal.specs.declared.event.Event.{Event}
use Rattle.ep_journal.specs.declared.event.Event.TheVariants.{Propose, Handle, GiveUp, Recover, Execute}
use Rattle.ep_report.specs.Parts.{instance_text, command_text, answer_text}
use Rattle.ep_view.specs.Editions.{edition_text}
use Rattle.ep_view.specs.Handled.{is_handled}
use Rattle.ep_view.specs.Labels.{mermaid_words}
use Rattle.ep_view.specs.Shown.{IsInOrder}
use Rattle.ep_view.specs.Walks.{reported_at}
use Rattle.ep_view.specs.Words.{event_text, sparing_text}
use Rattle.ep_view.specs.declared.selection.Selection.{Selection}

unfoldable pub pre_accept_ok_text : ℕ → List ℕ
pre_accept_ok_text i = codes "PreAcceptOK " ++ instance_text i

-- the kind of a message, and its instance
abbrev pub brief_text : Message → List ℕ
brief_text (PreAccept i b x) = codes "PreAccept " ++ instance_text i
brief_text (PreAcceptOk i b a) = pre_accept_ok_text i
brief_text (Accept i b x) = codes "Accept " ++ instance_text i
brief_text (AcceptOk i b) = codes "AcceptOK " ++ instance_text i
brief_text (Commit i x) = codes "Commit " ++ instance_text i
brief_text (Prepare i b) = codes "Prepare " ++ instance_text i
brief_text (PrepareOk i b v) = codes "PrepareOK " ++ instance_text i
brief_text (Nack i b p) = codes "Nack " ++ instance_text i

-- the beginning of a note at a replica's line
unfoldable pub note_start : ℕ → List ℕ
note_start r = codes "  Note over r" ++ decimal r ++ codes ": "

-- the beginning of an arrow of this form from a replica's line to another one's
unfoldable pub arrow_start : ℕ → List ℕ → ℕ → List ℕ
arrow_start from arrow to = codes "  r" ++ decimal from ++ arrow ++ codes "r" ++ decimal to ++ codes ": "

-- the instance that a proposal takes
abbrev pub as_text : List (List ℕ) → List ℕ
as_text [] = []
as_text (b ∷ bs) = codes " as " ++ instance_text (instance_at b)

-- an event of replica r: a frame that is handled is an arrow from its sender, and all else a note
abbrev pub happened : ℕ → Event → List (List ℕ) → List ℕ
happened r (Propose client request command seen spared) frames = note_start r ++ codes "propose " ++ mermaid_words (command_text command) ++ sparing_text spared ++ as_text frames
happened r (Handle b) frames = arrow_start (sender_at b) (codes "->>") r ++ brief_text (message_at b)
happened r (GiveUp i) frames = note_start r ++ event_text (GiveUp i)
happened r (Recover i) frames = note_start r ++ event_text (Recover i)
happened r (Execute i) frames = note_start r ++ event_text (Execute i)

-- an instance that was executed, with its answer, on a line of its own
abbrev pub answered : ℕ × Answer → List ℕ
answered d = codes "<br/>" ++ instance_text d.0 ++ codes " answers " ++ mermaid_words (answer_text d.1)

abbrev pub all_answered : List (ℕ × Answer) → List ℕ
all_answered [] = []
all_answered (d ∷ ds) = answered d ++ all_answered ds

-- an arrow with a cross for a frame that no entry handles
abbrev pub lost_line : ℕ → List ℕ → List ℕ
lost_line r b = arrow_start r (codes "--x") (origin_at b).to ++ brief_text (message_at b) ++ codes "\n"

module _ (handled : List ℕ → Bool) where
  abbrev pub lost_lines : ℕ → List (List ℕ) → List ℕ
  lost_lines r [] = []
  lost_lines r (b ∷ bs) = cond (handled b) [] (lost_line r b) ++ lost_lines r bs

  -- the lines of an entry of replica r: what happened, with the answers of what was executed, and the frames that it sends to nobody
  abbrev pub entry_lines : ℕ → Entry → List ℕ
  entry_lines r e = happened r e.event e.frames ++ all_answered e.done ++ codes "\n" ++ lost_lines r e.frames

unfoldable pub participant_text : ℕ → List ℕ
participant_text r = codes "  participant r" ++ decimal r ++ codes " as replica " ++ decimal r ++ codes "\n"

-- the lines of the replicas below n
abbrev pub participants : ℕ → List ℕ
participants zero = []
participants (suc n) = participants n ++ participant_text n

-- in version 3 a note of the generation and of what it begins with
abbrev pub edition_note : Version → Opening → List ℕ
edition_note V1 o = []
edition_note V2 o = []
edition_note (V3 g) o = note_start 0 ++ mermaid_words (edition_text g o) ++ codes "\n"

unfoldable pub sequence_start : ℕ → List ℕ
sequence_start n = codes "sequenceDiagram\n" ++ participants n

abbrev pub sequence_text : ℕ → List ℕ → List ℕ → List ℕ
sequence_text n edition lines = sequence_start n ++ edition ++ lines

-- the diagram has the replicas, the journals' edition, and the lines of each entry that is asked for, in the order of the journals' schedule
pub record IsSequence (c : Collected) (part : Selection) (text : List ℕ) : Type 0 where
  pub all : List (ℕ × ℕ)
  pub ordered : IsInOrder c all
  pub is : text ≡ sequence_text (size c.faults) (edition_note c.version c.opening) (reported_at (entry_lines (is_handled c)) part c all)
