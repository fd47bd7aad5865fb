-- The message that the parts of a message's frame stand for is that message, so no bytes spell two.
use Rattle.std.proofs.Common.{◌≡◌, ℕ, List, Bool, true, false, cond, eqb, refl, sym, ap, ◌∙◌}
use Rattle.std.specs.Prelude.{Some, None, Option}
use Rattle.ep_base.specs.Ballots.{counter_of, owner_of, ballot_of}
use Rattle.ep_base.specs.Messages.{instance_of_message}
use Rattle.ep_base.specs.Versions.{version_number, generation_of, version_of}
use Rattle.ep_base.proofs.Versions.{version_again}
use Rattle.ep_base.specs.declared.decree.Decree.{Decree}
use Rattle.ep_base.specs.Commands.{Command}
use Rattle.ep_base.specs.declared.version.Version.{Version}
use Rattle.ep_base.specs.declared.vote.Vote.{Vote}
use Rattle.ep_base.specs.declared.vote.VoteStatus.{VoteStatus}
use Rattle.ep_base.specs.declared.vote.VoteStatus.TheVariants.{PreAccepted, Accepted, Committed}
use Rattle.ep_base.specs.declared.message.Message.{Message}
use Rattle.ep_base.specs.declared.message.Message.TheVariants.{PreAccept, PreAcceptOk, Accept, AcceptOk, Commit, Prepare, PrepareOk, Nack}
use Rattle.ep_frame.specs.declared.origin.Origin.{Origin}
use Rattle.ep_frame.specs.Meaning.{origin_in, instance_in, instance_at, status_of, message_of, version_at, sender_at, origin_at, message_at}
use Rattle.ep_frame.specs.Spelling.{FrameParts, parts_at, parts_of, Spells, IsCommand, IsDecree, IsMessage, status_code}
use Rattle.ep_base.specs.Ops.{op_number}
use Rattle.ep_base.specs.CommandParts.{parts_of as command_parts, command_with, command_in, are_parts}
use Rattle.ep_base.specs.declared.op.Op.{Op}
use Rattle.ep_base.proofs.Partitions.{parts_law_lem}
use Rattle.ep_frame.specs.Faults.{op_of}
use Rattle.ep_frame.proofs.Saying.{op_again}
use Rattle.ep_frame.proofs.Packing.{instance_again, ballot_again}
use Rattle.ep_frame.proofs.Again.{parts_again}
use Rattle.ep_frame.proofs.Sound.{sound, has_status}
use Rattle.ep_frame.proofs.Runs.{some_if}

-- the command that the parts of a command in range, with the op's number, make
abbrev numbered : Command → Command
numbered c = command_with (op_of (op_number (command_parts c).op)) (command_parts c).first (command_parts c).second (command_parts c).body

command_again : (c : Command) → IsCommand c → numbered c ≡ c
command_again c h =
    let p = command_parts c in
    ap (λ (o : Op). command_with o p.first p.second p.body) (op_again p.op) ∙ some_if (are_parts p) (command_in p) c (parts_law_lem.forth c h.in_range)

status_again : (s : VoteStatus) → status_of (status_code s) ≡ s
status_again PreAccepted = refl
status_again Accepted = refl
status_again Committed = refl

decree_again : (x : Decree) → IsDecree x → record { command = numbered x.command; attrs = x.attrs } ≡ x
decree_again x h = λ t. record { command = command_again x.command h.command t; attrs = x.attrs }

abbrev vote_made : VoteStatus → ℕ → Decree → Option Vote
vote_made s b x = Some (record { status = s; ballot = b; decree = x })

vote_again : (v : Vote) → IsDecree v.decree → cond (eqb (status_code v.status) 0) None
    (vote_made (status_of (status_code v.status)) (ballot_of (counter_of v.ballot) (owner_of v.ballot)) (record { command = numbered v.decree.command; attrs = v.decree.attrs }))
    ≡ Some v
vote_again v h =
    (λ t. cond (has_status v.status t) None (vote_made (status_again v.status t) (ballot_again v.ballot t) (decree_again v.decree h t)))

pub message_again : (v : Version) (from : ℕ) (o : Origin) (m : Message) → IsMessage m → message_of (parts_of v from o m) ≡ m
message_again v from o (PreAccept i b x) h = λ t. PreAccept (instance_again i t) (ballot_again b t) (decree_again x h.2 t)
message_again v from o (PreAcceptOk i b a) h = λ t. PreAcceptOk (instance_again i t) (ballot_again b t) a
message_again v from o (Accept i b x) h = λ t. Accept (instance_again i t) (ballot_again b t) (decree_again x h.2 t)
message_again v from o (AcceptOk i b) h = λ t. AcceptOk (instance_again i t) (ballot_again b t)
message_again v from o (Commit i x) h = λ t. Commit (instance_again i t) (decree_again x h.1 t)
message_again v from o (Prepare i b) h = λ t. Prepare (instance_again i t) (ballot_again b t)
message_again v from o (PrepareOk i b None) h = λ t. PrepareOk (instance_again i t) (ballot_again b t) None
message_again v from o (PrepareOk i b (Some x)) h = λ t. PrepareOk (instance_again i t) (ballot_again b t) (vote_again x h.2.1 t)
message_again v from o (Nack i p q) h = λ t. Nack (instance_again i t) (ballot_again p t) (ballot_again q t)

origin_again : (v : Version) (from : ℕ) (o : Origin) (m : Message) → origin_in (parts_of v from o m).header ≡ o
origin_again v from o (PreAccept i b x) = refl
origin_again v from o (PreAcceptOk i b a) = refl
origin_again v from o (Accept i b x) = refl
origin_again v from o (AcceptOk i b) = refl
origin_again v from o (Commit i x) = refl
origin_again v from o (Prepare i b) = refl
origin_again v from o (PrepareOk i b None) = refl
origin_again v from o (PrepareOk i b (Some x)) = refl
origin_again v from o (Nack i p q) = refl

sender_again : (v : Version) (from : ℕ) (o : Origin) (m : Message) → (parts_of v from o m).header.from ≡ from
sender_again v from o (PreAccept i b x) = refl
sender_again v from o (PreAcceptOk i b a) = refl
sender_again v from o (Accept i b x) = refl
sender_again v from o (AcceptOk i b) = refl
sender_again v from o (Commit i x) = refl
sender_again v from o (Prepare i b) = refl
sender_again v from o (PrepareOk i b None) = refl
sender_again v from o (PrepareOk i b (Some x)) = refl
sender_again v from o (Nack i p q) = refl

version_kept : (v : Version) (from : ℕ) (o : Origin) (m : Message) → (parts_of v from o m).header.version ≡ version_number v
version_kept v from o (PreAccept i b x) = refl
version_kept v from o (PreAcceptOk i b a) = refl
version_kept v from o (Accept i b x) = refl
version_kept v from o (AcceptOk i b) = refl
version_kept v from o (Commit i x) = refl
version_kept v from o (Prepare i b) = refl
version_kept v from o (PrepareOk i b None) = refl
version_kept v from o (PrepareOk i b (Some x)) = refl
version_kept v from o (Nack i p q) = refl

generation_kept : (v : Version) (from : ℕ) (o : Origin) (m : Message) → (parts_of v from o m).header.generation ≡ generation_of v
generation_kept v from o (PreAccept i b x) = refl
generation_kept v from o (PreAcceptOk i b a) = refl
generation_kept v from o (Accept i b x) = refl
generation_kept v from o (AcceptOk i b) = refl
generation_kept v from o (Commit i x) = refl
generation_kept v from o (Prepare i b) = refl
generation_kept v from o (PrepareOk i b None) = refl
generation_kept v from o (PrepareOk i b (Some x)) = refl
generation_kept v from o (Nack i p q) = refl

parts_spelled : (v : Version) (b : List ℕ) (from : ℕ) (o : Origin) (m : Message) → Spells v b from o m → parts_at b ≡ parts_of v from o m
parts_spelled v b from o m s = ap parts_at s.is ∙ parts_again (parts_of v from o m) (sound v from o m s.version s.origin s.message s.sayable).fits

-- the bytes that spell a message stand for it
pub version_spelled : (v : Version) (b : List ℕ) (from : ℕ) (o : Origin) (m : Message) → Spells v b from o m → version_at b ≡ v
version_spelled v b from o m s =
    ap (λ (p : FrameParts). version_of p.header.version p.header.generation) (parts_spelled v b from o m s) ∙ (λ t. version_of (version_kept v from o m t) (generation_kept v from o m t)) ∙ version_again v

pub sender_spelled : (v : Version) (b : List ℕ) (from : ℕ) (o : Origin) (m : Message) → Spells v b from o m → sender_at b ≡ from
sender_spelled v b from o m s = ap (λ (p : FrameParts). p.header.from) (parts_spelled v b from o m s) ∙ sender_again v from o m

pub origin_spelled : (v : Version) (b : List ℕ) (from : ℕ) (o : Origin) (m : Message) → Spells v b from o m → origin_at b ≡ o
origin_spelled v b from o m s = ap (λ (p : FrameParts). origin_in p.header) (parts_spelled v b from o m s) ∙ origin_again v from o m

pub message_spelled : (v : Version) (b : List ℕ) (from : ℕ) (o : Origin) (m : Message) → Spells v b from o m → message_at b ≡ m
message_spelled v b from o m s = ap message_of (parts_spelled v b from o m s) ∙ message_again v from o m s.message

by_test : (i : ℕ) (b : Bool) (m n : Message) → instance_of_message m ≡ i → instance_of_message n ≡ i → instance_of_message (cond b m n) ≡ i
by_test i true m n d e = d
by_test i false m n d e = e

-- the message is about the instance that the fields name
pub instance_is : (p : FrameParts) → instance_of_message (message_of p) ≡ instance_in p.header
instance_is p =
    let i = instance_in p.header in
    by_test i (eqb p.header.kind 1) _ _ refl
    (by_test i (eqb p.header.kind 2) _ _ refl
    (by_test i (eqb p.header.kind 3) _ _ refl
    (by_test i (eqb p.header.kind 4) _ _ refl
    (by_test i (eqb p.header.kind 5) _ _ refl
    (by_test i (eqb p.header.kind 6) _ _ refl
    (by_test i (eqb p.header.kind 7) _ _ refl refl))))))

pub instance_named : (b : List ℕ) → instance_at b ≡ instance_of_message (message_at b)
instance_named b = sym (instance_is (parts_at b))
