-- What an event asks is what the rule book does with it.
use Rattle.std.proofs.Common.{◌≡◌, ℕ, ◌+◌, ◌<◌, ◌≤◌, Bool, true, false, ◌&&◌, cond, List, Option, Some, None, Ok, Err, refl, sym, ap, subst, ◌∙◌, arith}
use Rattle.ep_base.specs.Instances.{instance_of}
use Rattle.std.proofs.lemmas.Bool.{and_from}
use Rattle.ep_base.specs.Quorums.{spared, may_spare}
use Rattle.ep_base.specs.Versions.{highest_in, highest_for}
use Rattle.ep_base.specs.declared.version.Version.{Version}
use Rattle.ep_journal.proofs.Holding.{below}
use Rattle.ep_base.specs.Messages.{instance_of_message}
use Rattle.ep_base.specs.Commands.{Command}
use Rattle.ep_base.specs.declared.message.Message.{Message}
use Rattle.ep_base.specs.declared.message.Message.TheVariants.{PreAccept, PreAcceptOk, Accept, AcceptOk, Commit, Prepare, PrepareOk, Nack}
use Rattle.ep_frame.specs.Meaning.{sender_at, message_at}
use Rattle.ep_frame.specs.Spelling.{IsFrame}
use Rattle.ep_phase.specs.InstanceViews.{InstanceView, view_of}
use Rattle.ep_phase.specs.Leads.{Lead}
use Rattle.ep_rules.specs.Cells.{OutOfRange, NotMine, SpaceFull}
use Rattle.ep_rules.specs.InterferenceSet.{interference}
use Rattle.ep_rules.specs.OneMap.{Store}
use Rattle.ep_rules.specs.Phases.{propose}
use Rattle.ep_rules.specs.States.{free_number}
use Rattle.ep_rules.specs.Steps.{at, handled, proposed, may_ask, screened, Propose as Proposes, Handle as Handles}
use Rattle.ep_space.specs.Records.{Records}
use Rattle.ep_journal.specs.Events.{frame_at, lacking}
use Rattle.ep_journal.specs.Inputs.{outcome_at, handled_at, settling}
use Rattle.ep_journal.specs.ReplicaStates.{state_of}
use Rattle.ep_journal.specs.Stepping.{standing_of, heard_of, settling_at, IsLet, IsAsked}
use Rattle.ep_journal.specs.declared.event.Event.TheVariants.{Propose, Handle, GiveUp, Recover}
use Rattle.ep_journal.specs.declared.input.Input.TheVariants as input
use Rattle.ep_journal.specs.declared.replica_state.ReplicaState.{ReplicaState}

handled_same : (me : ℕ) (s : Records) (l : Lead) (done : List ℕ) (store : Store) (from : ℕ) (m : Message) →
    at (instance_of_message m) (handled s.faults me from (state_of s l done store) m) ≡ at (instance_of_message m) (handled_at (view_of me s l (instance_of_message m)) from m)
handled_same me s l done store from (PreAccept i b x) = refl
handled_same me s l done store from (PreAcceptOk i b a) = refl
handled_same me s l done store from (Accept i b x) = refl
handled_same me s l done store from (AcceptOk i b) = refl
handled_same me s l done store from (Commit i x) = refl
handled_same me s l done store from (Prepare i b) = refl
handled_same me s l done store from (PrepareOk i b v) = refl
handled_same me s l done store from (Nack i b p) = refl

-- a frame's message is handled at its instance
frame_asked : (p : ReplicaState) (b : List ℕ) (i : ℕ) → IsLet (standing_of p) (Handle b) → i ≡ instance_of_message (message_at b) →
    IsAsked (standing_of p) (Handle b) (at i (handled_at (view_of p.me p.space p.lead i) (sender_at b) (message_at b)))
frame_asked p b i h instance = record {
  through = h;
  room = tt;
  asked = handled_same p.me p.space p.lead p.executed.list p.store (sender_at b) (message_at b) ∙ ap (λ j. at j (handled_at (view_of p.me p.space p.lead j) (sender_at b) (message_at b))) (sym instance);
  executes = refl;
}

pub viewed_asked : (p : ReplicaState) (b v : List ℕ) (f i : ℕ) → v ≡ b → f ≡ p.space.faults → IsFrame b → lacking p.space.version (Handle b) ≡ None → screened f p.me (Handles (frame_at v)) ≡ None → i ≡ instance_of_message (message_at v) →
    IsAsked (standing_of p) (Handle b) (at i (handled_at (view_of p.me p.space p.lead i) (sender_at v) (message_at v)))
viewed_asked p b v f i same count readable versioned unscreened instance =
    subst (λ x. IsAsked (standing_of p) (Handle b) (at i (handled_at (view_of p.me p.space p.lead i) (sender_at x) (message_at x)))) (sym same)
    (frame_asked p b i
    (record { readable = readable; versioned = versioned; unscreened = subst (λ n. screened n p.me (Handles (frame_at b)) ≡ None) count (subst (λ x. screened f p.me (Handles (frame_at x)) ≡ None) same unscreened) })
    (subst (λ x. i ≡ instance_of_message (message_at x)) same instance))

-- a Commit of what was voted for
pub settles_at : (p : ReplicaState) (i : ℕ) (b : List ℕ) (k : InstanceView) → k ≡ view_of p.me p.space p.lead i → handled_at k (sender_at b) (message_at b) ≡ Ok (settling k) → heard_of p i b ≡ Ok (i, settling_at p i)
settles_at p i b k is h = ap (at i) (subst (λ x. handled_at x (sender_at b) (message_at b) ≡ Ok (settling x)) is h)

pub given_up_asked : (p : ReplicaState) (i : ℕ) → IsLet (standing_of p) (GiveUp i) → IsAsked (standing_of p) (GiveUp i) (at i (outcome_at (view_of p.me p.space p.lead i) input.GiveUp))
given_up_asked p i h = record { through = h; room = tt; asked = refl; executes = refl }

pub recovery_asked : (p : ReplicaState) (i : ℕ) → IsLet (standing_of p) (Recover i) → IsAsked (standing_of p) (Recover i) (at i (outcome_at (view_of p.me p.space p.lead i) input.Recover))
recovery_asked p i h = record { through = h; room = tt; asked = refl; executes = refl }

-- a request, where a number of the version is free
pub request_asked : (p : ReplicaState) (client request seen : ℕ) (c : Command) (named : Option ℕ) (f s i n : ℕ) → f ≡ p.space.faults → s ≡ spared f p.me named → IsLet (standing_of p) (Propose client request c seen named) → free_number p.space.records p.me ≡ Some n → n < highest_for p.space.version c → i ≡ instance_of p.me (n + 1) →
    IsAsked (standing_of p) (Propose client request c seen named) (at i (propose p.space.faults i s c (interference p.space.records i c)))
request_asked p client request seen c named f s i n count own h free low next = record {
  through = h;
  room = λ k e. (let both : Some n ≡ Some k = sym free ∙ e in let same : n ≡ k = cc in omega arith);
  asked = ap (proposed p.space.faults p.me (spared p.space.faults p.me named) (standing_of p).state c) free ∙ ap (λ j. at j (propose p.space.faults j (spared p.space.faults p.me named) c (interference p.space.records j c))) (sym next)
      ∙ ap (λ q. at i (propose p.space.faults i q c (interference p.space.records i c))) (ap (λ m. spared m p.me named) (sym count) ∙ sym own);
  executes = refl;
}

-- where no number of the version is free, none is for the command
pub none_for : (v : Version) (c : Command) (free : Option ℕ) → ((n : ℕ) → free ≡ Some n → highest_in v ≤ n) → (n : ℕ) → free ≡ Some n → highest_for v c ≤ n
none_for v c free full n e = let most = full n e in let low = below v c in omega arith

-- where none is free at all
pub request_full : (p : ReplicaState) (client request seen : ℕ) (c : Command) (named : Option ℕ) → IsLet (standing_of p) (Propose client request c seen named) → free_number p.space.records p.me ≡ None → IsAsked (standing_of p) (Propose client request c seen named) (Err SpaceFull)
request_full p client request seen c named h free = record {
  through = h;
  room = λ k e. absurd (let both : None ≡ Some k = sym free ∙ e in cc);
  asked = ap (proposed p.space.faults p.me (spared p.space.faults p.me named) (standing_of p).state c) free;
  executes = refl;
}

-- Requests that no state takes.

not_spared : (b : Bool) → (b && false) ≡ false
not_spared true = refl
not_spared false = refl

-- a spared replica that no proposal of me's may name
pub unspared : (f me : ℕ) (named : Option ℕ) → may_spare f me named ≡ false → (client request : ℕ) (c : Command) (seen : ℕ) → screened f me (Proposes client request c seen named) ≡ Some OutOfRange
unspared f me named bad client request c seen =
    ap (λ b. cond (may_ask client request c && b) (cond true None (Some NotMine)) (Some OutOfRange)) bad
    ∙ ap (λ b. cond b (cond true None (Some NotMine)) (Some OutOfRange)) (not_spared (may_ask client request c))

-- and what passes both tests
pub let_ask : (f me client request seen : ℕ) (c : Command) (named : Option ℕ) → may_ask client request c ≡ true → may_spare f me named ≡ true → screened f me (Proposes client request c seen named) ≡ None
let_ask f me client request seen c named asks spares = ap (λ b. cond b (cond true None (Some NotMine)) (Some OutOfRange)) (and_from _ _ asks spares)
