-- What is left at a replay's end: the messages that were never given, and the instances that are known and not committed.
use Rattle.std.specs.Prelude.{◌≡◌, ◌↔◌, ℕ, zero, suc, List, [], ◌∷◌, ◌++◌, length, Option, Some, None, codes, decimal}
use Rattle.ep_base.specs.Deps.{IsRising}
use Rattle.ep_base.specs.Quorums.{size}
use Rattle.ep_frame.specs.Meaning.{sender_at, origin_at}
use Rattle.ep_phase.specs.Progress.{progress_in}
use Rattle.ep_phase.specs.declared.progress.LeadPhase.{LeadPhase}
use Rattle.ep_phase.specs.declared.progress.LeadPhase.TheVariants.{Proposing, Accepting, Preparing}
use Rattle.ep_replay.specs.Replays.{Replay, AreUngiven}
use Rattle.ep_replica.specs.Kept.{Kept}
use Rattle.ep_replica.specs.Pending.{state_of}
use Rattle.ep_report.specs.Parts.{instance_text}
use Rattle.ep_rules.specs.Maps.{get}
use Rattle.ep_rules.specs.Worlds.{In}
use Rattle.ep_space.specs.Open.{IsOpen}
use Rattle.ep_view.specs.Lines.{words_at}
use Rattle.ep_world.specs.Played.{Played, message_in, replica_in}

-- Messages.

-- from whom to whom, and its words
abbrev pub frame_text : List ℕ → List ℕ
frame_text b = codes " from " ++ decimal (sender_at b) ++ codes " to " ++ decimal (origin_at b).to ++ codes ": " ++ words_at b

abbrev pub ungiven_line : ℕ → Option (List ℕ) → List ℕ
ungiven_line m None = []
ungiven_line m (Some b) = codes "never given  #" ++ decimal m ++ frame_text b ++ codes "\n"

-- the messages of these numbers
abbrev pub ungiven_lines : Played → List ℕ → List ℕ
ungiven_lines w [] = []
ungiven_lines w (m ∷ ms) = ungiven_line m (message_in w m) ++ ungiven_lines w ms

-- Instances.

-- that it leads the instance in this phase
abbrev pub phase_text : LeadPhase → List ℕ
phase_text Proposing = codes ", which leads it: PreAccepts are out"
phase_text Accepting = codes ", which leads it: Accepts are out"
phase_text Preparing = codes ", which leads it: Prepares are out"

-- how far it is with that
abbrev pub leading_text : LeadPhase → ℕ → List ℕ
leading_text phase answers = phase_text phase ++ codes ", answers of others so far: " ++ decimal answers

-- what the replica waits for
abbrev pub waiting_text : Option (LeadPhase × ℕ) → List ℕ
waiting_text None = codes ", which waits for a Commit, or has to recover it"
waiting_text (Some p) = leading_text p.0 p.1

-- where an instance isn't committed
abbrev pub spot_text : ℕ → ℕ → List ℕ
spot_text r i = instance_text i ++ codes " at replica " ++ decimal r

abbrev pub open_line : ℕ → ℕ → Option (LeadPhase × ℕ) → List ℕ
open_line r i progress = codes "not committed  " ++ spot_text r i ++ waiting_text progress ++ codes "\n"

-- these instances at the replica
abbrev pub open_lines : Kept → List ℕ → List ℕ
open_lines k [] = []
open_lines k (i ∷ is) = open_line k.me i (progress_in k.faults k.me (get (state_of k).leads i)) ++ open_lines k is

-- the instances that the replica knows of and hasn't committed, in rising order
pub record AreOpen (k : Kept) (is : List ℕ) : Type 0 where
  pub rising : IsRising is
  pub these : (i : ℕ) → In i is ↔ IsOpen (state_of k).records i

-- the text has the lines of these more
abbrev pub AddsOpen : Kept → List ℕ → List ℕ → Type 0
AddsOpen k old new = (is : List ℕ) × AreOpen k is × (new ≡ old ++ open_lines k is)

-- the lines of each replica below n, one after the other
abbrev pub OpenBelow : Played → ℕ → List ℕ → Type 0
OpenBelow w zero text = text ≡ []
OpenBelow w (suc n) text = (before : List ℕ) × OpenBelow w n before × AddsOpen (replica_in w n) before text

-- the text has more: the messages of these numbers, and what each replica knows of and hasn't committed
abbrev pub AddsLeft : Played → List ℕ → List ℕ → List ℕ → Type 0
AddsLeft w messages old new = (rest : List ℕ) × OpenBelow w (size w.faults) rest × (new ≡ old ++ (ungiven_lines w messages ++ rest))

-- each message that was never given, in rising number; then each instance that a replica knows of and hasn't committed, by replica
pub record IsLeft (p : Replay) (text : List ℕ) : Type 0 where
  pub ungiven : List ℕ
  pub rest : List ℕ
  pub these : AreUngiven p.given (length p.world.messages) ungiven
  pub waiting : OpenBelow p.world (size p.world.faults) rest
  pub is : text ≡ ungiven_lines p.world ungiven ++ rest
