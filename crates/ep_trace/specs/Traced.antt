-- Which events a trace reports, and in which order.
use Rattle.std.specs.Prelude.{◌≡◌, ℕ, List, [], ◌∷◌, ◌++◌, Option, Some, None}
use Rattle.ep_ending.specs.Endings.{AddsEndings}
use Rattle.ep_journal.specs.declared.entry.Entry.{Entry}
use Rattle.ep_replay.specs.Heads.{opening_of}
use Rattle.ep_replay.specs.Outcome.{EndsAt}
use Rattle.ep_replay.specs.Replays.{Replay}
use Rattle.ep_replay.specs.declared.ended.Ended.{Ended}
use Rattle.ep_replay.specs.declared.outcome.Outcome.{Outcome}
use Rattle.ep_replay.specs.declared.outcome.Outcome.TheVariants.{Took, Refused}
use Rattle.ep_replay.specs.declared.tried.Tried.{Tried}
use Rattle.ep_script.specs.Plan.{Plan}
use Rattle.ep_trace.specs.Left.{AddsLeft, IsLeft}
use Rattle.ep_trace.specs.Lines.{made_line, refused_line}
use Rattle.ep_trace.specs.declared.numbers.Numbers.{Numbers}
use Rattle.ep_view.specs.Editions.{edition_line}
use Rattle.ep_world.specs.Played.{Played, collected, entries_in, numbered}
use Rattle.ep_world.specs.declared.world_event.WorldEvent.{WorldEvent}
use Rattle.ep_world.specs.declared.world_event.WorldEvent.TheVariants as event

-- One event.

-- the message that the event gives
abbrev pub given_by : WorldEvent → Option ℕ
given_by (event.Propose replica client request command seen spared) = None
given_by (event.GiveUp replica i) = None
given_by (event.Recover replica i) = None
given_by (event.Execute replica i) = None
given_by (event.Deliver message) = Some message

-- the event that made this entry of the replica
abbrev pub entry_line : Numbers → ℕ → Option Entry → List ℕ
entry_line n r None = []
entry_line n r (Some e) = made_line n r e

-- the event of this line that was tried: its entry in the world, or why it was refused
abbrev pub outcome_line : Played → ℕ → WorldEvent → Outcome → List ℕ
outcome_line w line event (Took r n first) = entry_line (record { line = line; given = given_by event; first = first }) r (numbered (entries_in w r) n)
outcome_line w line event (Refused cause) = refused_line line event cause

abbrev pub tried_line : Played → Tried → List ℕ
tried_line w t = outcome_line w t.line t.event t.outcome

-- each of them, in order
abbrev pub tried_lines : Played → List Tried → List ℕ
tried_lines w [] = []
tried_lines w (t ∷ ts) = tried_line w t ++ tried_lines w ts

-- The whole.

-- of where a script's lines have led: the line of the edition, each event that was tried, what is left, and what would end what is open
pub record IsReported (d : Ended) (text : List ℕ) : Type 0 where
  pub before : List ℕ
  pub left : AddsLeft d.world d.ungiven.items (edition_line d.world.version d.world.opening ++ tried_lines d.world d.tried.items) before
  pub next : AddsEndings (collected d.world) before text

-- the text reports each event that a replay of the script tries, once and in order, then what is left, and then what would end what is open; of version 3 a line of its edition comes first
pub record IsTraced (script : Plan) (text : List ℕ) : Type 0 where
  pub last : Replay
  pub at_end : EndsAt script last
  pub rest : List ℕ
  pub left : IsLeft last rest
  pub before : List ℕ
  pub is : before ≡ edition_line script.head.version (opening_of script.head.opening) ++ tried_lines last.world last.tried ++ rest
  pub next : AddsEndings (collected last.world) before text
