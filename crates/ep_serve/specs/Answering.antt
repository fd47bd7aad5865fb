-- What an answer reports, of a replica k whose entries are all on the disk.
use Rattle.std.specs.Prelude.{◌≡◌, ℕ, zero, suc, ◌+◌, max, is_some, List, [], ◌∷◌, ◌++◌, Bool, length, take, drop, Option, Some, None}
use Rattle.std.specs.List.{flat_map}
use Rattle.std.specs.Option.{option_map}
use Rattle.std.specs.Io.KnownBytes.{Appends}
use Rattle.ep_base.specs.Commands.{Get}
use Rattle.ep_base.specs.Instances.{instance_of, number_of}
use Rattle.ep_base.specs.Versions.{generation_of}
use Rattle.ep_base.specs.declared.decree.Decree.{Decree}
use Rattle.ep_base.specs.declared.version.Version.{Version}
use Rattle.ep_frame.specs.Fields.{number_bytes}
use Rattle.ep_journal.specs.Entries.{entry_of, entries_of, frames_of}
use Rattle.ep_journal.specs.declared.entry.Entry.{Entry}
use Rattle.ep_phase.specs.Progress.{progress_in}
use Rattle.ep_phase.specs.declared.progress.LeadPhase.{LeadPhase}
use Rattle.ep_phase.specs.declared.progress.LeadPhase.TheVariants as phase
use Rattle.ep_replica.specs.Kept.{Kept}
use Rattle.ep_laws.specs.Reads.{found}
use Rattle.ep_replica.specs.Pending.{state_of}
use Rattle.ep_replica.specs.Reading.{IsReading}
use Rattle.ep_replica.specs.declared.reading.Reading.{Reading}
use Rattle.ep_replica.specs.declared.reading.Reading.TheVariants.{Replied, Waits}
use Rattle.ep_node.specs.Handled.{handled_from}
use Rattle.ep_node.specs.Reporting.{commits_by, executed_by, AreOpen}
use Rattle.ep_node.specs.declared.open_instance.OpenInstance.{OpenInstance}
use Rattle.ep_replica.specs.Receipts.{receipts_after, receipts_of}
use Rattle.ep_rules.specs.Journals.{stamp_after}
use Rattle.ep_rules.specs.Maps.{Map, get}
use Rattle.ep_rules.specs.OneMap.{value_at}
use Rattle.ep_rules.specs.States.{committed_in}
use Rattle.ep_rules.specs.declared.receipt.Receipt.{Receipt}
use Rattle.ep_rules.specs.declared.record.Record.{Record}
use Rattle.ep_space.specs.Open.{IsNextOpen}
use Rattle.ep_serve.specs.declared.pending_answer.PendingAnswer.{PendingAnswer}
use Rattle.ep_serve.specs.declared.pending_answer.PendingAnswer.TheVariants.{Taken, Refused, Value, Open, Leads, Synced, State, Ready, Handled, Interfering, Read, Malformed}
use Rattle.ep_wire.specs.Answers.{entry_bytes, handled_bytes, instance_bytes, instances_bytes, interfering_bytes, leading_bytes, malformed_bytes, open_bytes, ready_bytes, refused_bytes, reply_bytes, sealed_code, sent_bytes, state_bytes, synced_bytes, taken_as, taken_bytes, reported_receipts_bytes, value_bytes, waits_bytes}
use Rattle.ep_wire.specs.declared.lead_progress.LeadProgress.{LeadProgress}
use Rattle.ep_wire.specs.declared.lead_progress.LeadProgress.TheVariants.{Proposing, Accepting, Preparing}
use Rattle.ep_wire.specs.declared.node_state.NodeState.{NodeState}

-- an entry, with the receipts of what it executed
abbrev pub reported_entry : Kept → Entry → List ℕ
reported_entry k e = entry_bytes k.version e (receipts_of k.me (entries_of k.entries) (entry_of e))

-- so many entries from a place on
abbrev pub reported_from : Kept → ℕ → ℕ → List ℕ
reported_from k from count = flat_map (reported_entry k) (take count (drop from k.entries))

abbrev pub leading_of : LeadPhase × ℕ → LeadProgress
leading_of (phase.Proposing, n) = Proposing n
leading_of (phase.Accepting, n) = Accepting n
leading_of (phase.Preparing, n) = Preparing n

-- What a node says of itself.

-- the number of the instance that a proposal took, or this one
abbrev pub number_or : ℕ → Option ℕ → ℕ
number_or n None = n
number_or n (Some i) = number_of i

-- the number of the instance that the last proposal among the entries took, or this one where there is none: each takes a greater one than those before
abbrev pub last_number : ℕ → List Entry → ℕ
last_number n [] = n
last_number n (e ∷ es) = last_number (number_or n (taken_as e.event e.frames)) es

-- how many dependencies it has, where it is committed
abbrev pub deps_count : Option Decree → ℕ
deps_count None = 0
deps_count (Some x) = length x.attrs.deps

-- the most that one of replica r's instances of the numbers 1 to n has
abbrev pub most_own_deps : Map Record → ℕ → ℕ → ℕ
most_own_deps m r zero = 0
most_own_deps m r (suc n) = max (deps_count (committed_in m (instance_of r (n + 1)))) (most_own_deps m r n)

abbrev pub reported_state : Kept → NodeState
reported_state k = record {
  generation = generation_of k.version;
  entries = length k.entries;
  used = last_number 0 k.entries;
  deps = most_own_deps (state_of k).records k.me (last_number 0 k.entries);
  is_sealed = is_some (state_of k).store.seal;
  stamp = stamp_after k.opening.base_stamp (entries_of k.entries);
}

-- What there is to report.

-- how many entries there are, and whether a seal was executed
abbrev pub summary_bytes : ℕ → Bool → List ℕ
summary_bytes entries is_sealed = number_bytes 4 entries ++ number_bytes 1 (sealed_code is_sealed)

-- frames, counted, each with its receiver before it
abbrev pub sent_frames_bytes : List (List ℕ) → List ℕ
sent_frames_bytes bs = number_bytes 4 (length bs) ++ flat_map sent_bytes bs

-- what goes out: to other replicas, and to clients
abbrev pub outgoing_bytes : Version → List (List ℕ) → List Receipt → List ℕ
outgoing_bytes v bs rs = sent_frames_bytes bs ++ reported_receipts_bytes v rs

-- what happened: the commits and the executions
abbrev pub happened_bytes : List ℕ → List ℕ → List ℕ
happened_bytes committed executed = instances_bytes committed ++ instances_bytes executed

abbrev pub open_instance_bytes : OpenInstance → List ℕ
open_instance_bytes x = open_bytes x.instance x.since (option_map leading_of x.leads)

-- open instances, counted
abbrev pub open_instances_bytes : List OpenInstance → List ℕ
open_instances_bytes xs = number_bytes 1 (length xs) ++ flat_map open_instance_bytes xs

-- what there is to report of the entries after the first ones, so many, and of these open instances
abbrev pub reported_ready : Kept → ℕ → List OpenInstance → List ℕ
reported_ready k after xs =
    (summary_bytes (length k.entries) (is_some (state_of k).store.seal) ++ outgoing_bytes k.version (frames_of (drop after k.entries)) (receipts_after k.me after (entries_of k.entries)))
    ++ (happened_bytes (commits_by k.entries (drop after k.entries)) (executed_by (drop after k.entries)) ++ open_instances_bytes xs)

-- what a read is answered
abbrev pub reading_bytes : Reading → List ℕ
reading_bytes (Replied r) = reply_bytes r
reading_bytes (Waits i) = waits_bytes i

-- the answer's bytes
abbrev pub IsAnswerTo : Kept → PendingAnswer → List ℕ → Type 0
IsAnswerTo k (Taken from count) bytes = bytes ≡ taken_bytes (number_bytes 4 count ++ reported_from k from count)
IsAnswerTo k (Refused refusal) bytes = bytes ≡ refused_bytes refusal
IsAnswerTo k (Value key) bytes = bytes ≡ value_bytes (value_at (state_of k).store.contents key)
IsAnswerTo k (Open after) bytes = (found : Option ℕ) × IsNextOpen (state_of k).records after found × (bytes ≡ instance_bytes found)
IsAnswerTo k (Leads i) bytes = bytes ≡ leading_bytes (option_map leading_of (progress_in k.faults k.me (get (state_of k).leads i)))
IsAnswerTo k Synced bytes = bytes ≡ synced_bytes (length k.entries)
IsAnswerTo k State bytes = bytes ≡ state_bytes (reported_state k)
IsAnswerTo k (Ready after most) bytes = (xs : List OpenInstance) × AreOpen k most None xs × (bytes ≡ ready_bytes (reported_ready k after xs))
IsAnswerTo k (Handled r) bytes = bytes ≡ handled_bytes (handled_from r k.entries)
IsAnswerTo k (Interfering key) bytes = bytes ≡ interfering_bytes (found (state_of k) (Get key))
IsAnswerTo k (Read key met) bytes = (r : Reading) × IsReading (state_of k) (Get key) met r × (bytes ≡ reading_bytes r)
IsAnswerTo k (Malformed m) bytes = bytes ≡ malformed_bytes m

-- each of the answers, one after the other
abbrev pub AreAnswersTo : Kept → List PendingAnswer → List ℕ → Type 0
AreAnswersTo k [] bytes = bytes ≡ []
AreAnswersTo k (d ∷ ds) bytes = (first rest : List ℕ) × IsAnswerTo k d first × AreAnswersTo k ds rest × (bytes ≡ first ++ rest)

-- the answers that waited, and behind them all that there is to report of the entries after the first ones, so many, and of so many open instances
pub record AllAnswered (k : Kept) (ds : List PendingAnswer) (after most : ℕ) (bytes : List ℕ) : Type 0 where
  pub waited : List ℕ
  pub ready : List ℕ
  pub all : AreAnswersTo k ds waited
  pub last : IsAnswerTo k (Ready after most) ready
  pub is : bytes ≡ waited ++ ready

-- the answer was appended to the bytes that a sink holds, where they are known
pub record AnswersOne (k : Kept) (d : PendingAnswer) (old new : Option (List ℕ)) : Type 0 where
  pub bytes : List ℕ
  pub reported : IsAnswerTo k d bytes
  pub appended : Appends old new bytes

pub record AnswersEach (k : Kept) (ds : List PendingAnswer) (old new : Option (List ℕ)) : Type 0 where
  pub bytes : List ℕ
  pub reported : AreAnswersTo k ds bytes
  pub appended : Appends old new bytes
