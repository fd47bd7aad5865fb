-- The trace events of an entry, where `handled` is the test for frames that some entry handles. Each event begins by a comma, as one stands before
-- all of them.
use Rattle.std.specs.Prelude.{ℕ, Bool, cond, List, [], ◌∷◌, ◌++◌, take, codes, decimal}
use Rattle.std.specs.Str.{bytes_eq}
use Rattle.ep_base.specs.declared.version.Version.{Version}
use Rattle.ep_base.specs.declared.version_kind.VersionKind.TheVariants.{V1, V2, V3}
use Rattle.ep_frame.specs.Meaning.{instance_at, origin_at, sender_at}
use Rattle.ep_journal.specs.declared.entry.Entry.{Entry}
use Rattle.ep_journal.specs.declared.event.Event.{Event}
use Rattle.ep_journal.specs.declared.event.Event.TheVariants.{Propose, Handle, GiveUp, Recover, Execute}
use Rattle.ep_journal.specs.Openings.{Opening}
use Rattle.ep_report.specs.Parts.{instance_text}
use Rattle.ep_view.specs.Lines.{words_at, taken_text, done_text}
use Rattle.ep_view.specs.Editions.{edition_text}
use Rattle.ep_view.specs.Words.{event_text, origin_text}
use Rattle.ep_json.specs.Strings.{string_text}

-- an event that begins so, of this replica's process and its one thread, at this time
unfoldable pub begun : List ℕ → ℕ → ℕ → List ℕ
begun start r time = codes ",\n{" ++ start ++ codes ",\"tid\":0,\"pid\":" ++ decimal r ++ codes ",\"ts\":" ++ decimal time

-- its name
unfoldable pub named : List ℕ → List ℕ
named words = codes ",\"name\":" ++ string_text words

-- Slices.

unfoldable pub slice_head : ℕ → Entry → List ℕ
slice_head r e = begun (codes "\"ph\":\"X\",\"cat\":\"entry\",\"dur\":1") r e.stamp ++ named (event_text e.event)

-- what happened in an entry: its event, the instance that a proposal takes, and what is executed
abbrev pub happened_text : Entry → List ℕ
happened_text e = taken_text e.event e.frames ++ done_text e.done

unfoldable pub slice_words : Entry → List ℕ
slice_words e = codes ",\"args\":{\"entry\":" ++ decimal e.number ++ codes ",\"words\":" ++ string_text (happened_text e) ++ codes "}}"

-- an entry of replica r: its event, and in words what happened in it
abbrev pub slice_text : ℕ → Entry → List ℕ
slice_text r e = slice_head r e ++ slice_words e

-- Arrows.

-- by which entry of which replica which frame is handled
unfoldable pub arrow_id : ℕ → Entry → List ℕ → List ℕ
arrow_id r e b = codes ",\"id\":\"" ++ origin_text b ++ codes " by " ++ decimal r ++ codes ":" ++ decimal e.number ++ codes "\"}"

-- where the frame was sent
unfoldable pub leaves_text : ℕ → Entry → List ℕ → List ℕ
leaves_text r e b = begun (codes "\"ph\":\"s\",\"cat\":\"frame\"") (sender_at b) (origin_at b).stamp ++ named (words_at b) ++ arrow_id r e b

-- where it is handled
unfoldable pub enters_text : ℕ → Entry → List ℕ → List ℕ
enters_text r e b = begun (codes "\"ph\":\"f\",\"bp\":\"e\",\"cat\":\"frame\"") r e.stamp ++ named (words_at b) ++ arrow_id r e b

-- the arrow of the frame that an entry handles
abbrev pub arrow_of : ℕ → Entry → Event → List ℕ
arrow_of r e (Propose client request command seen spared) = []
arrow_of r e (Handle b) = leaves_text r e b ++ enters_text r e b
arrow_of r e (GiveUp i) = []
arrow_of r e (Recover i) = []
arrow_of r e (Execute i) = []

-- Instants.

unfoldable pub instant_text : ℕ → Entry → List ℕ → List ℕ
instant_text r e words = begun (codes "\"ph\":\"i\",\"s\":\"t\",\"cat\":\"instant\"") r e.stamp ++ named words ++ codes "}"

-- the frame's message is a Commit
abbrev pub is_commit : List ℕ → Bool
is_commit b = bytes_eq (take 7 (words_at b)) (codes "Commit ")

-- the frame's instance is committed
abbrev pub commit_of : ℕ → Entry → List ℕ → List ℕ
commit_of r e b = cond (is_commit b) (instant_text r e (codes "committed " ++ instance_text (instance_at b))) []

-- where a Commit is handled
abbrev pub commit_handled : ℕ → Entry → Event → List ℕ
commit_handled r e (Propose client request command seen spared) = []
commit_handled r e (Handle b) = commit_of r e b
commit_handled r e (GiveUp i) = []
commit_handled r e (Recover i) = []
commit_handled r e (Execute i) = []

-- where Commits are sent: the first frame is one, as all frames of an entry are about one instance
abbrev pub commit_sent : ℕ → Entry → List (List ℕ) → List ℕ
commit_sent r e [] = []
commit_sent r e (b ∷ bs) = commit_of r e b

-- the words of a frame that no entry handles
unfoldable pub lost_words : List ℕ → List ℕ
lost_words b = codes "never handled: to " ++ decimal (origin_at b).to ++ codes ": " ++ words_at b

-- the frames that are sent and that no entry handles
abbrev pub lost_text : (List ℕ → Bool) → ℕ → Entry → List (List ℕ) → List ℕ
lost_text handled r e [] = []
lost_text handled r e (b ∷ bs) = cond (handled b) [] (instant_text r e (lost_words b)) ++ lost_text handled r e bs

abbrev pub instants_text : (List ℕ → Bool) → ℕ → Entry → List ℕ
instants_text handled r e = commit_handled r e e.event ++ commit_sent r e e.frames ++ lost_text handled r e e.frames

-- all events of an entry of replica r
abbrev pub entry_events : (List ℕ → Bool) → ℕ → Entry → List ℕ
entry_events handled r e = slice_text r e ++ arrow_of r e e.event ++ instants_text handled r e

-- Processes.

-- the process of a replica
unfoldable pub process_text : ℕ → List ℕ
process_text r = codes ",\n{\"ph\":\"M\",\"name\":\"process_name\",\"pid\":" ++ decimal r ++ codes ",\"tid\":0,\"args\":{\"name\":\"replica " ++ decimal r ++ codes "\"}}"

-- the first event, which says that the process of replica 0 stands first
unfoldable pub first_event : List ℕ
first_event = codes "{\"traceEvents\":[\n{\"ph\":\"M\",\"name\":\"process_sort_index\",\"pid\":0,\"tid\":0,\"args\":{\"sort_index\":0}}"

-- Editions.

-- in version 3, at the process of replica 0, which generation it is and what it begins with
unfoldable pub generation_event : ℕ → Opening → List ℕ
generation_event g o = codes ",\n{\"ph\":\"M\",\"name\":\"process_labels\",\"pid\":0,\"tid\":0,\"args\":{\"labels\":" ++ string_text (edition_text g o) ++ codes "}}"

abbrev pub edition_event : Version → Opening → List ℕ
edition_event V1 o = []
edition_event V2 o = []
edition_event (V3 g) o = generation_event g o
