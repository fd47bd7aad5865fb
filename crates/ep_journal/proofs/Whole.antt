-- From what a step does to the parts of a state to the rule book's step of the whole.
use Rattle.std.proofs.Common.{◌≡◌, inl, inr, ℕ, suc, ◌≤◌, Bool, ◌&&◌, true, false, cond, leb, arith, List, [], ◌∷◌, Option, Some, None, Result, Ok, Err, IfOk, IfErr, OnErr, refl, sym, ap, subst, ◌∙◌, append-nil, T, eqb, eqb→eq}
use Rattle.std.proofs.lemmas.Bool.{leb-true}
use Rattle.std.specs.Prelude.{IsErrAnd}
use Rattle.std.specs.List.{AllByRecursion}
use Rattle.ep_base.specs.Instances.{number_of}
use Rattle.ep_base.specs.Versions.{highest_in, knows, names, CanSay, highest_for}
use Rattle.ep_base.specs.declared.version.Version.{Version}
use Rattle.ep_base.specs.declared.version_kind.VersionKind.TheVariants.{V1, V2, V3}
use Rattle.ep_base.specs.Commands.{Command}
use Rattle.ep_base.specs.declared.message.Message.{Message}
use Rattle.ep_base.specs.declared.message.Message.TheVariants.{PreAccept, PreAcceptOk, Accept, AcceptOk, Commit, Prepare, PrepareOk, Nack}
use Rattle.ep_frame.specs.declared.origin.Origin.{Origin}
use Rattle.ep_frame.specs.Meaning.{version_at}
use Rattle.ep_frame.specs.Spelling.{Spells}
use Rattle.ep_frame.proofs.Meanings.{version_spelled, sender_spelled, origin_spelled, message_spelled}
use Rattle.ep_phase.specs.Leads.{Lead}
use Rattle.ep_rules.specs.Cells.{Change, Refusal}
use Rattle.ep_rules.specs.Journals as rules
use Rattle.ep_rules.specs.Journals.{messages_of, AreMarked}
use Rattle.ep_rules.specs.OneMap.{Store, answers_of}
use Rattle.ep_rules.specs.Order.{IsPlan}
use Rattle.ep_rules.specs.States.{State, command_in, free_number, graph_in}
use Rattle.ep_rules.specs.Steps.{Sent, Frame, order_of, answers_in, screened, sent_by, IsTaken, IsStep, changed_by}
use Rattle.ep_space.specs.Records.{Records}
use Rattle.ep_base.specs.Fitting.{BallotsFit, VoteFits}
use Rattle.ep_base.specs.declared.reply.Answer.{Answer}
use Rattle.ep_base.specs.declared.vote.Vote.{Vote}
use Rattle.ep_frame.specs.Spelling.{IsMessage, IsVote}
use Rattle.ep_rules.specs.Fitting.{EventFits}
use Rattle.ep_rules.proofs.Closed.{leaves_closed}
use Rattle.ep_rules.proofs.Fitting.{leaves_fit}
use Rattle.ep_journal.specs.Holding.{Holds, HasEvent}
use Rattle.ep_journal.specs.Entries.{entry_of, frames_at, AreFrames, AreFramesIn, AreNumbersIn, IsAnswerIn, AreAnswersIn}
use Rattle.ep_journal.specs.Events.{frame_at, event_of, IsReadable, AreSpelled, lacking, numbered_in, spelled_in}
use Rattle.ep_journal.specs.Executing.{IsExecuted, IsUnexecuted}
use Rattle.ep_journal.specs.Inputs.{IsWritable}
use Rattle.ep_journal.specs.ReplicaStates.{state_of, known}
use Rattle.ep_journal.specs.Refused as parts
use Rattle.ep_journal.specs.Refused.{named}
use Rattle.ep_journal.specs.Standing.{Standing, Advances, IsRefused, IsSound}
use Rattle.ep_journal.specs.Stepping.{standing_of, entry_by, heard_of, settling_at, Acted, Moves, MarkedBy, Steps, IsScreened, IsLet, IsAsked}
use Rattle.ep_journal.specs.declared.entry.Entry.{Entry}
use Rattle.ep_journal.specs.declared.taken.Taken.{Taken}
use Rattle.ep_journal.specs.declared.event.Event.{Event as Happening}
use Rattle.ep_journal.specs.declared.event.Event.TheVariants.{Propose, Handle, GiveUp, Recover, Execute}
use Rattle.ep_journal.specs.declared.mark.Mark.{Mark}
use Rattle.ep_journal.specs.declared.replica_state.ReplicaState.{ReplicaState}
use Rattle.ep_journal.specs.declared.step_fault.StepFault.{StepFault}
use Rattle.ep_journal.specs.declared.step_fault.StepFault.TheVariants.{Memory, OutOfRange, OtherGeneration, StampFull, SpaceFull, SeqExhausted, NotLeading, TooFewAnswers, AlreadyCommitted, BallotsExhausted, NotCommitted}
use Rattle.ep_journal.proofs.Asked.{request_full}
use Rattle.ep_journal.proofs.Answering.{answers_given}
use Rattle.ep_journal.proofs.Holding.{acts_in, command_known, leaves_held}
use Rattle.ep_journal.proofs.Planned.{planned_in}
use Rattle.ep_journal.proofs.Writable.{step_writable}

-- Frames.

frame_spelled : (v : Version) (b : List ℕ) (n stamp k : ℕ) (m : Sent) → Spells v b m.from (record { to = m.to; out = k; entry = n; stamp = stamp }) m.message →
    frame_at b ≡ record { sent = m; entry = n; place = k; stamp = stamp }
frame_spelled v b n stamp k m s =
    let from = sender_spelled v b _ _ _ s in
    let origin = origin_spelled v b _ _ _ s in
    let message = message_spelled v b _ _ _ s in
    λ t. record { sent = record { from = from t; to = (origin t).to; message = message t }; entry = (origin t).entry; place = (origin t).out; stamp = (origin t).stamp }

messages_spelled : (v : Version) (n stamp k : ℕ) (bs : List (List ℕ)) (ms : List Sent) → AreSpelled v n stamp k bs ms → messages_of (frames_at bs) ≡ ms
messages_spelled v n stamp k [] [] h = refl
messages_spelled v n stamp k [] (m ∷ ms) h = absurd h
messages_spelled v n stamp k (b ∷ bs) [] h = absurd h
messages_spelled v n stamp k (b ∷ bs) (m ∷ ms) h =
    let first = frame_spelled v b n stamp k m h.0 in
    let rest = messages_spelled v n stamp (suc k) bs ms h.1 in
    λ t. (first t).sent ∷ rest t

marked_spelled : (v : Version) (e : rules.Entry) (k : ℕ) (bs : List (List ℕ)) (ms : List Sent) → AreSpelled v e.number e.stamp k bs ms → AreMarked e k (frames_at bs)
marked_spelled v e k [] [] h = tt
marked_spelled v e k [] (m ∷ ms) h = absurd h
marked_spelled v e k (b ∷ bs) [] h = absurd h
marked_spelled v e k (b ∷ bs) (m ∷ ms) h =
    let first = frame_spelled v b e.number e.stamp k m h.0 in
    (ap (λ (x : Frame). x.entry) first, ap (λ (x : Frame). x.place) first, ap (λ (x : Frame). x.stamp) first, marked_spelled v e (suc k) bs ms h.1)

frames_spelled : (v : Version) (n stamp k : ℕ) (bs : List (List ℕ)) (ms : List Sent) → AreSpelled v n stamp k bs ms → AreFrames bs
frames_spelled v n stamp k [] [] h = tt
frames_spelled v n stamp k [] (m ∷ ms) h = absurd h
frames_spelled v n stamp k (b ∷ bs) [] h = absurd h
frames_spelled v n stamp k (b ∷ bs) (m ∷ ms) h = ((v, m.from, _, m.message, h.0), frames_spelled v n stamp (suc k) bs ms h.1)

versions_spelled : (v : Version) (n stamp k : ℕ) (bs : List (List ℕ)) (ms : List Sent) → AreSpelled v n stamp k bs ms → AreFramesIn v bs
versions_spelled v n stamp k [] [] h = tt
versions_spelled v n stamp k [] (m ∷ ms) h = absurd h
versions_spelled v n stamp k (b ∷ bs) [] h = absurd h
versions_spelled v n stamp k (b ∷ bs) (m ∷ ms) h = (version_spelled v b _ _ _ h.0, versions_spelled v n stamp (suc k) bs ms h.1)

-- A step of the protocol, of the whole state.

pub record Moved (v : Version) (me : ℕ) (s s' : State) (mark : Mark) (out : List (List ℕ)) (r : Result (ℕ × Change) Refusal) : Type 0 where
  pub taken : IsTaken r
  pub sent : AreSpelled v mark.number mark.stamp 0 out (sent_by me r)
  pub changed : changed_by s r ≡ s'

moved : (v : Version) (me : ℕ) (s s' : Records) (l l' : Lead) (done : List ℕ) (store : Store) (mark : Mark) (out : List (List ℕ)) (r : Result (ℕ × Change) Refusal) →
    Acted r v me mark (known s l) (known s' l') out → Moved v me (state_of s l done store) (state_of s' l' done store) mark out r
moved v me s s' l l' done store mark out (Err e) h = absurd h
moved v me s s' l l' done store mark out (Ok p) h =
    let is = sym h.0 in
    record { taken = tt; sent = h.1; changed = λ t. record { records = (is t).records; leads = (is t).leads; reported = (is t).reported; executed = done; store = store } }

-- what a step that executes nothing gives
abbrev sent : List (List ℕ) → Taken
sent out = record { frames = out; done = [] }

none_numbered : (v : Version) → AreNumbersIn v []
none_numbered v = tt

-- what is asked by an event and done is the event's step
advanced : (p p' : ReplicaState) (event : Happening) (mark : Mark) (out : List (List ℕ)) (r : Result (ℕ × Change) Refusal) → IsAsked (standing_of p) event r → Moves r mark p (sent out) p' →
    Advances (standing_of p) mark event (entry_by mark event (sent out)) (standing_of p')
advanced p p' event mark out r a moves =
    let s : Standing = standing_of p in
    let m = subst (λ x. Moved s.version p.me s.state (state_of p'.space p'.lead p.executed.list p.store) mark out x) (sym a.asked) (moved s.version p.me p.space p'.space p.lead p'.lead p.executed.list p.store mark out r moves.acted) in
    let is = sym m.changed in
    record {
      number = refl;
      stamp = refl;
      event = refl;
      entry = record { step = record { unscreened = a.through.unscreened; taken = m.taken; executes = a.executes }; sent = messages_spelled s.version mark.number mark.stamp 0 out _ m.sent };
      marked = marked_spelled s.version (entry_of (entry_by mark event (sent out))) 0 out _ m.sent;
      readable = a.through.readable;
      frames = frames_spelled s.version mark.number mark.stamp 0 out _ m.sent;
      versioned = record { event = a.through.versioned; frames = versions_spelled s.version mark.number mark.stamp 0 out _ m.sent; done = none_numbered s.version; answers = tt };
      room = a.room;
      leaves = λ t. record {
        version = moves.version t;
        faults = moves.faults t;
        me = moves.me t;
        state = record { records = (is t).records; leads = (is t).leads; reported = (is t).reported; executed = (moves.executed ∙ sym (append-nil p.executed.list)) t; store = moves.store t };
      };
    }

advanced_by : (p p' : ReplicaState) (event : Happening) (mark : Mark) (t : Taken) (r : Result (ℕ × Change) Refusal) → IsAsked (standing_of p) event r → Moves r mark p t p' → Advances (standing_of p) mark event (entry_by mark event t) (standing_of p')
advanced_by p p' event mark t r a moves =
    let is : sent t.frames ≡ t = λ i. record { frames = t.frames; done = sym moves.none i } in
    subst (λ (x : Taken). Advances (standing_of p) mark event (entry_by mark event x) (standing_of p')) is
    (advanced p p' event mark t.frames r a (subst (λ (x : Taken). Moves r mark p x p') (sym is) moves))

-- Why there is no step.

pub refused_screen : (s : Standing) (event : Happening) (mark : Option Mark) (fault : StepFault) → IsReadable event → lacking s.version event ≡ None → IsScreened (screened s.faults s.me (event_of event)) fault → IsRefused s event mark fault
refused_screen s event mark fault readable has h = inr (inr (inr (inr (
  h.0,
  record {
    readable = readable;
    versioned = has;
    room = λ none. absurd (let both : None ≡ Some h.0 = sym none ∙ h.1 in cc);
    named = h.2;
    refuses = inl h.1;
    marked = λ _. h.1;
  },
))))

-- where there is no mark
pub refused_unmarked : (s : Standing) (event : Happening) (mark : Option Mark) → mark ≡ None → IsLet s event → IsRefused s event mark StampFull
refused_unmarked s event mark none h = inr (inr (inl (refl, h.readable, h.versioned, h.unscreened, none)))

ruled : (s : Standing) (event : Happening) (mark : Option Mark) (m : Mark) (fault : StepFault) (why : Refusal) → mark ≡ Some m → named fault ≡ Some why → IsAsked s event (Err why) → IsRefused s event mark fault
ruled s event mark m fault why given name a = inr (inr (inr (inr (
  why,
  record {
    readable = a.through.readable;
    versioned = a.through.versioned;
    room = λ _. a.room;
    named = name;
    refuses = inr (a.through.unscreened, inl a.asked);
    marked = λ none. absurd (cc);
  },
))))

-- what is asked by an event and refused refuses the event
refused_rule : (s : Standing) (event : Happening) (mark : Option Mark) (m : Mark) (fault : StepFault) (r : Result (ℕ × Change) Refusal) → mark ≡ Some m → IsAsked s event r → parts.IsRefused r fault → IsRefused s event mark fault
refused_rule s event mark m Memory r given a why = inl refl
refused_rule s event mark m SpaceFull r given a why = ruled s event mark m SpaceFull _ given refl (subst (IsAsked s event) why a)
refused_rule s event mark m SeqExhausted r given a why = ruled s event mark m SeqExhausted _ given refl (subst (IsAsked s event) why a)
refused_rule s event mark m NotLeading r given a why = ruled s event mark m NotLeading _ given refl (subst (IsAsked s event) why a)
refused_rule s event mark m TooFewAnswers r given a why = ruled s event mark m TooFewAnswers _ given refl (subst (IsAsked s event) why a)
refused_rule s event mark m AlreadyCommitted r given a why = ruled s event mark m AlreadyCommitted _ given refl (subst (IsAsked s event) why a)
refused_rule s event mark m BallotsExhausted r given a why = ruled s event mark m BallotsExhausted _ given refl (subst (IsAsked s event) why a)
refused_rule s event mark m _ r given a why = absurd why

-- a request that finds no number of the version refuses the event
full_by : (p : ReplicaState) (client request seen : ℕ) (c : Command) (named : Option ℕ) (mark : Option Mark) (m : Mark) (o : Option ℕ) → mark ≡ Some m → IsLet (standing_of p) (Propose client request c seen named) → free_number p.space.records p.me ≡ o →
    ((n : ℕ) → free_number p.space.records p.me ≡ Some n → highest_for p.space.version c ≤ n) → IsRefused (standing_of p) (Propose client request c seen named) mark SpaceFull
full_by p client request seen c named mark m None given h free full = refused_rule (standing_of p) (Propose client request c seen named) mark m SpaceFull _ given (request_full p client request seen c named h free) refl
full_by p client request seen c named mark m (Some n) given h free full = inr (inr (inr (inl (
  refl,
  record {
    readable = h.readable;
    versioned = h.versioned;
    unscreened = h.unscreened;
    marked = λ none. absurd (cc);
    none = λ room. (let less = room n free in let most = full n free in omega arith);
  },
))))

pub refused_full : (p : ReplicaState) (client request seen : ℕ) (c : Command) (named : Option ℕ) (mark : Option Mark) (m : Mark) → mark ≡ Some m → IsLet (standing_of p) (Propose client request c seen named) →
    ((n : ℕ) → free_number p.space.records p.me ≡ Some n → highest_for p.space.version c ≤ n) → IsRefused (standing_of p) (Propose client request c seen named) mark SpaceFull
refused_full p client request seen c named mark m given h full = full_by p client request seen c named mark m (free_number p.space.records p.me) given h refl full

-- What is asked, done or refused.

-- where there is a mark
pub changed_steps : (p p' : ReplicaState) (event : Happening) (mark : Option Mark) (m : Mark) (r : Result (ℕ × Change) Refusal) (reported : Result Taken StepFault) → mark ≡ Some m → IsAsked (standing_of p) event r →
    IfOk reported (λ t. Moves r m p t p') → IfErr reported (λ e. parts.IsRefused r e) → OnErr reported (standing_of p' ≡ standing_of p) → Steps (standing_of p) event mark reported (standing_of p')
changed_steps p p' event mark m r (Ok t) given a ok refused err = subst (MarkedBy (λ x. Advances (standing_of p) x event (entry_by x event t) (standing_of p'))) (sym given) (advanced_by p p' event m t r a ok)
changed_steps p p' event mark m r (Err fault) given a ok refused err = (refused_rule (standing_of p) event mark m fault r given a refused, err)

-- the same of a Commit of what was voted for
pub settled_steps : (p p' : ReplicaState) (event : Happening) (mark : Option Mark) (m : Mark) (i : ℕ) (b : List ℕ) (reported : Result Taken StepFault) → mark ≡ Some m → IsAsked (standing_of p) event (heard_of p i b) → heard_of p i b ≡ Ok (i, settling_at p i) →
    IfOk reported (λ t. (x : Mark) → Moves (Ok (i, settling_at p i)) x p t p') → IfErr reported (λ e. e ≡ Memory) → OnErr reported (standing_of p' ≡ standing_of p) → Steps (standing_of p) event mark reported (standing_of p')
settled_steps p p' event mark m i b (Ok t) given a is ok refused err = changed_steps p p' event mark m (Ok (i, settling_at p i)) (Ok t) given (subst (IsAsked (standing_of p) event) is a) (ok m) tt tt
settled_steps p p' event mark m i b (Err fault) given a is ok refused err = changed_steps p p' event mark m (heard_of p i b) (Err fault) given a tt (subst (parts.IsRefused (heard_of p i b)) (sym refused) tt) err

-- a refusal that is passed on, and nothing has changed
pub refused_on : (s s' : Standing) (event : Happening) (mark : Option Mark) (fault : StepFault) (reported : Result Taken StepFault) → IsErrAnd reported (λ e. e ≡ fault) → IsRefused s event mark fault → s' ≡ s → Steps s event mark reported s'
refused_on s s' event mark fault (Ok t) h why same = absurd h
refused_on s s' event mark fault (Err e) h why same = (subst (IsRefused s event mark) (sym h) why, same)

-- The event, taken apart.

pub let_as : (p : ReplicaState) (event e : Happening) (v : Version) (f : ℕ) → event ≡ e → v ≡ p.space.version → IsReadable event → lacking v event ≡ None → f ≡ p.space.faults → screened f p.me (event_of e) ≡ None → IsLet (standing_of p) e
let_as p event e v f is version readable has count through = record {
  readable = subst IsReadable is readable;
  versioned = subst (λ x. lacking p.space.version x ≡ None) is (subst (λ w. lacking w event ≡ None) version has);
  unscreened = subst (λ n. screened n p.me (event_of e) ≡ None) count through;
}

pub screened_as : (p : ReplicaState) (event e : Happening) (v : Version) (f : ℕ) (mark : Option Mark) (fault : StepFault) (reported : Result Taken StepFault) → event ≡ e → v ≡ p.space.version → IsReadable event → lacking v event ≡ None → f ≡ p.space.faults →
    IsScreened (screened f p.me (event_of e)) fault → IsErrAnd reported (λ x. x ≡ fault) → Steps (standing_of p) event mark reported (standing_of p)
screened_as p event e v f mark fault reported is version readable has count out passed =
    refused_on (standing_of p) (standing_of p) event mark fault reported passed
    (refused_screen (standing_of p) event mark fault readable (subst (λ w. lacking w event ≡ None) version has)
    (subst (λ x. IsScreened (screened p.space.faults p.me (event_of x)) fault) (sym is) (subst (λ n. IsScreened (screened n p.me (event_of e)) fault) count out)))
    refl

pub steps_as : (s s' : Standing) (event e : Happening) (mark : Option Mark) (reported : Result Taken StepFault) → event ≡ e → Steps s e mark reported s' → Steps s event mark reported s'
steps_as s s' event e mark reported is h = subst (λ x. Steps s x mark reported s') (sym is) h

-- An execution.

-- what is planned has numbers of the version
numbers_planned : (v : Version) (s : State) (executed : List ℕ) (root : ℕ) (done : List (ℕ × Answer)) → Holds v s → IsPlan (graph_in s.records) executed root (order_of done) → AreNumbersIn v done
numbers_planned v s executed root done held plan = planned_in v s executed root (order_of done) held plan

-- and the version has its answers
answers_planned : (v : Version) (s : State) (done : List (ℕ × Answer)) → Holds v s → answers_in done ≡ answers_of (command_in s.records) s.store (order_of done) → AreAnswersIn v done
answers_planned v s done held is = subst (λ (xs : List Answer). AllByRecursion (IsAnswerIn v) xs) (sym is) (answers_given v (command_in s.records) (command_known v s held) s.store (order_of done) held.store)

executed_here : (p p' : ReplicaState) (m : Mark) (root : ℕ) (done : List (ℕ × Answer)) → Holds p.space.version (standing_of p).state → IsLet (standing_of p) (Execute root) →
    p'.me ≡ p.me → p'.space ≡ p.space → p'.lead ≡ p.lead → IsExecuted p.space root done p.executed.list p.store p'.executed.list p'.store →
    Advances (standing_of p) m (Execute root) (entry_by m (Execute root) (record { frames = []; done = done })) (standing_of p')
executed_here p p' m root done held through me space lead h = record {
  number = refl;
  stamp = refl;
  event = refl;
  entry = record { step = record { unscreened = through.unscreened; taken = tt; executes = (h.plan, h.answers) }; sent = refl };
  marked = tt;
  readable = tt;
  frames = tt;
  versioned = record { event = through.versioned; frames = tt; done = numbers_planned p.space.version (standing_of p).state p.executed.list root done held h.plan; answers = answers_planned p.space.version (standing_of p).state done held h.answers };
  room = tt;
  leaves = λ t. record {
    version = (space t).version;
    faults = (space t).faults;
    me = me t;
    state = record { records = (space t).records; leads = (lead t).leads; reported = (lead t).reported; executed = h.order t; store = h.map t };
  };
}

pub executed_steps : (p p' : ReplicaState) (root : ℕ) (mark : Option Mark) (m : Mark) (out : List (List ℕ)) (done : List (ℕ × Answer)) → mark ≡ Some m → out ≡ [] → IsSound (standing_of p) → IsLet (standing_of p) (Execute root) →
    p'.me ≡ p.me → p'.space ≡ p.space → p'.lead ≡ p.lead → IsExecuted p.space root done p.executed.list p.store p'.executed.list p'.store →
    Steps (standing_of p) (Execute root) mark (Ok (record { frames = out; done = done })) (standing_of p')
executed_steps p p' root mark m out done given none sound h me space lead x =
    subst (MarkedBy (λ y. Advances (standing_of p) y (Execute root) (entry_by y (Execute root) (record { frames = out; done = done })) (standing_of p'))) (sym given)
    (subst (λ (o : List (List ℕ)). Advances (standing_of p) m (Execute root) (entry_by m (Execute root) (record { frames = o; done = done })) (standing_of p')) (sym none)
    (executed_here p p' m root done sound.held h me space lead x))

-- why the root isn't executed
pub refused_root : (p : ReplicaState) (root : ℕ) (mark : Option Mark) (m : Mark) (fault : StepFault) → mark ≡ Some m → IsLet (standing_of p) (Execute root) → IsUnexecuted p.space root p.executed.list fault → IsRefused (standing_of p) (Execute root) mark fault
refused_root p root mark m Memory given h why = inl refl
refused_root p root mark m (NotCommitted i) given h why =
    inr (inr (inr (inr (_, record { readable = tt; versioned = h.versioned; room = λ _. tt; named = refl; refuses = inr (h.unscreened, inr (i, refl, why)); marked = λ none. absurd (cc) }))))
refused_root p root mark m _ given h why = absurd why

-- What is handled fits.

pub vote_fits : (i : ℕ) (v : Option Vote) → IsVote i v → VoteFits i v
vote_fits i None h = tt
vote_fits i (Some v) h = h.0.first

pub message_fits : (m : Message) → IsMessage m → BallotsFit m
message_fits (PreAccept i b x) h = h.1.first
message_fits (PreAcceptOk i b a) h = h.1.first
message_fits (Accept i b x) h = h.1.first
message_fits (AcceptOk i b) h = h.1.first
message_fits (Commit i x) h = tt
message_fits (Prepare i b) h = h.1.low
message_fits (PrepareOk i b v) h = (h.1.low, vote_fits i v h.2)
message_fits (Nack i p q) h = (h.1.first, h.2)

event_fits : (e : Happening) → IsReadable e → EventFits (event_of e)
event_fits (Propose client request c seen named) h = tt
event_fits (Handle b) h =
    let s = h.4 in (
      subst BallotsFit (sym (message_spelled h.0 b _ _ _ s)) (message_fits h.3 s.message),
      λ is. s.origin.apart (sym (ap (λ (o : Origin). o.to) (origin_spelled h.0 b _ _ _ s)) ∙ (sym is ∙ sender_spelled h.0 b _ _ _ s)),
    )
event_fits (GiveUp i) h = tt
event_fits (Recover i) h = tt
event_fits (Execute i) h = tt

-- What the version has.

pub said : (b : Bool) (fault : StepFault) → cond {A = Option StepFault} b None (Some fault) ≡ None → b ≡ true
said true fault e = refl
said false fault e = absurd (cc)

pub numbered : (v : Version) (i : ℕ) → numbered_in v i ≡ None → number_of i ≤ highest_in v
numbered v i e = leb-true (number_of i) (highest_in v) (said (leb (number_of i) (highest_in v)) OutOfRange e)

pub same_version : (v w : Version) → spelled_in v w ≡ None → v ≡ w
same_version V1 V1 e = refl
same_version V1 V2 e = absurd (cc)
same_version V1 (V3 h) e = absurd (cc)
same_version V2 V1 e = absurd (cc)
same_version V2 V2 e = refl
same_version V2 (V3 h) e = absurd (cc)
same_version (V3 g) V1 e = absurd (cc)
same_version (V3 g) V2 e = absurd (cc)
same_version (V3 g) (V3 h) e = ap V3 (eqb→eq g h (subst T (sym (said (eqb g h) OtherGeneration e)) tt))

pub event_had : (v : Version) (e : Happening) → IsReadable e → lacking v e ≡ None → HasEvent v (event_of e)
event_had v (Propose client request c seen named) h e = said (knows v c && names v named) OutOfRange e
event_had v (Handle b) h e =
    let s = h.4 in
    let is : h.0 ≡ v = sym (version_spelled h.0 b _ _ _ s) ∙ same_version (version_at b) v e in
    subst (λ m. CanSay v m) (sym (message_spelled h.0 b _ _ _ s)) (subst (λ w. CanSay w h.3) is s.sayable)
event_had v (GiveUp i) h e = numbered v i e
event_had v (Recover i) h e = numbered v i e
event_had v (Execute i) h e = numbered v i e

-- the state that a step leaves is sound
pub stays_sound : (s s' : Standing) (mark : Mark) (event : Happening) (e : Entry) → IsSound s → Advances s mark event e s' → IsSound s'
stays_sound s s' mark event e h a =
    let readable : IsReadable event = subst IsReadable a.event a.readable in
    let has : lacking s.version event ≡ None = subst (λ x. lacking s.version x ≡ None) a.event a.versioned.event in
    let unscreened : screened s.faults s.me (event_of event) ≡ None = subst (λ x. screened s.faults s.me (event_of x) ≡ None) a.event a.entry.step.unscreened in
    let step : IsStep s.faults s.me s.state (event_of event) e.done = subst (λ x. IsStep s.faults s.me s.state (event_of x) e.done) a.event a.entry.step in
    subst IsSound (sym a.leaves) (record {
      fits = leaves_fit s.faults s.me s.state (event_of event) e.done h.few h.here h.fits (event_fits event readable) unscreened;
      held = leaves_held s.version s.faults s.me s.state (event_of event) e.done h.held (event_had s.version event readable has) a.room;
      closed = leaves_closed s.faults s.me s.state (event_of event) e.done h.closed step;
      here = h.here;
      few = h.few;
    })

pub stays : (s s' : Standing) (event : Happening) (mark : Option Mark) (r : Result Taken StepFault) → IsSound s → Steps s event mark r s' → IsSound s'
stays s s' event (Some m) (Ok t) h steps = stays_sound s s' m event (entry_by m event t) h steps
stays s s' event None (Ok t) h steps = absurd steps
stays s s' event mark (Err fault) h steps = subst IsSound (sym steps.1) h

-- what is asked by an event that is let through has a spelling
pub asked_writable : (s : Standing) (event : Happening) (r : Result (ℕ × Change) Refusal) → IsSound s → IsAsked s event r → IsWritable s.version s.me r
asked_writable s event r sound a =
    let held = acts_in s.version s.state sound.held s.faults s.me (event_of event) (event_had s.version event a.through.readable a.through.versioned) a.room in
    subst (λ x. IsWritable s.version s.me x) a.asked (step_writable s.version s.faults s.me s.state (event_of event) sound.few sound.here sound.fits (event_fits event a.through.readable) a.through.unscreened held)
