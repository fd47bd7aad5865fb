-- What entries proposed and executed, for whoever follows them: behind the answers that wait, one more of kind 13.
use Rattle.std.specs.Prelude.{◌≡◌, ℕ, ◌+◌, List, [], ◌++◌, length, drop, Option, Some, None}
use Rattle.std.specs.List.{flat_map}
use Rattle.ep_base.specs.declared.version.Version.{Version}
use Rattle.ep_bundle.specs.Bytes.{answer_bytes, command_bytes}
use Rattle.ep_frame.specs.Fields.{dep_bytes, number_bytes}
use Rattle.ep_embedded.specs.Hosting.{Buffer, Hosting, IsOnDisk}
use Rattle.ep_journal.specs.declared.entry.Entry.{Entry}
use Rattle.ep_journal.specs.declared.event.Event.{Event}
use Rattle.ep_journal.specs.declared.event.Event.TheVariants.{Propose, Handle, GiveUp, Recover, Execute}
use Rattle.ep_node.specs.Nodes.{IsQuiet}
use Rattle.ep_replica.specs.Kept.{Kept}
use Rattle.ep_replica.specs.Pending.{state_of}
use Rattle.ep_rules.specs.States.{committed_in}
use Rattle.ep_base.specs.declared.reply.Answer.{Answer}
use Rattle.ep_base.specs.declared.decree.Decree.{Decree}
use Rattle.ep_serve.specs.Answering.{AllAnswered}
use Rattle.ep_serve.specs.declared.pending_answer.PendingAnswer.{PendingAnswer}
use Rattle.ep_wire.specs.Answers.{taken_as}

-- a proposal, and the instance that it took
abbrev pub proposal_bytes : Event → Option ℕ → List ℕ
proposal_bytes (Propose client request command seen spared) (Some i) =
    number_bytes 1 1 ++ number_bytes 4 client ++ number_bytes 4 request ++ dep_bytes i
proposal_bytes (Propose client request command seen spared) None = []
proposal_bytes (Handle frame) took = []
proposal_bytes (GiveUp i) took = []
proposal_bytes (Recover i) took = []
proposal_bytes (Execute i) took = []

-- the command that is committed, as a proposal has it
abbrev pub committed_bytes : Version → Option Decree → List ℕ
committed_bytes v None = []
committed_bytes v (Some x) = command_bytes v x.command

abbrev pub command_at : Kept → ℕ → List ℕ
command_at k i = committed_bytes k.version (committed_in (state_of k).records i)

-- an instance that was executed, its command, and its answer as a receipt has it
abbrev pub done_bytes : Kept → ℕ × Answer → List ℕ
done_bytes k d =
    number_bytes 1 2 ++ dep_bytes d.0 ++ command_at k d.0 ++ answer_bytes k.version d.1

-- what an entry proposed, and what it executed, in order
abbrev pub follow_bytes : Kept → Entry → List ℕ
follow_bytes k e = proposal_bytes e.event (taken_as e.event e.frames) ++ flat_map (done_bytes k) e.done

abbrev pub follow_all : Kept → List Entry → List ℕ
follow_all k es = flat_map (follow_bytes k) es

-- the same of all entries after the first ones, so many
abbrev pub followed : Kept → ℕ → List ℕ
followed k after = follow_all k (drop after k.entries)

-- as an answer: its length, its kind, and these
abbrev pub framed : List ℕ → List ℕ
framed body = number_bytes 4 (length body + 1) ++ number_bytes 1 13 ++ body

abbrev pub followed_bytes : Kept → ℕ → List ℕ
followed_bytes k after = framed (followed k after)

-- the answers that wait, and behind them that one
pub record AllFollowed (k : Kept) (ds : List PendingAnswer) (after most : ℕ) (bytes : List ℕ) : Type 0 where
  pub answered : List ℕ
  pub all : AllAnswered k ds after most answered
  pub is : bytes ≡ answered ++ followed_bytes k after

-- all was on the disk, and what waited was reported, what there is to report, and what the entries did
pub record HasFollowed (h : Hosting) (after most : ℕ) (h' : Hosting) : Type 0 where
  pub on_disk : IsOnDisk h
  pub reported : AllFollowed h.node.replica h.dues after most h'.answers.items
  pub is : h' ≡ record h { dues = []; answers = h'.answers }

-- all that the node took is lent, or on the disk, and the same are answers that are held
pub record HasPreparedAll (h : Hosting) (after most : ℕ) (h' : Hosting) : Type 0 where
  pub lent : IsQuiet h.node
  pub none : h.held ≡ None
  pub bytes : Buffer
  pub reports : AllFollowed h.node.replica h.dues after most bytes.items
  pub is : h' ≡ record h { dues = []; held = Some bytes; until = length h.node.replica.entries }
