-- What a replica has committed is what some entry of its journal learnt to be committed.
use Rattle.std.proofs.Common.{◌≡◌, ℕ, ◌+◌, ◌<◌, Bool, true, false, ◌||◌, eqb, cond, List, [], ◌∷◌, Option, Some, None, is_some, Ok, Err, inl, inr, refl, sym, ap, subst, ◌∙◌, if◌then◌else◌, ◌==◌}
use Rattle.std.proofs.lemmas.Bool.{cases_eq, eq-eqb, ne_eqb}
use Rattle.ep_base.specs.Quorums.{spared}
use Rattle.ep_base.specs.Commands.{Command}
use Rattle.ep_base.specs.Instances.{instance_of}
use Rattle.ep_base.specs.Messages.{instance_of_message}
use Rattle.ep_base.specs.declared.message.Message.{Message}
use Rattle.ep_base.specs.declared.message.Message.TheVariants.{PreAccept, PreAcceptOk, Accept, AcceptOk, Commit, Prepare, PrepareOk, Nack}
use Rattle.ep_base.specs.declared.vote.VoteStatus.{VoteStatus}
use Rattle.ep_base.specs.declared.vote.VoteStatus.TheVariants.{PreAccepted, Accepted, Committed}
use Rattle.ep_base.specs.declared.vote.Vote.{Vote}
use Rattle.ep_base.proofs.Tests.{or_false}
use Rattle.ep_frame.specs.Meaning.{instance_in, kind_of, message_at, message_of, ballot_in, other_in, attrs_of, decree_of, vote_of}
use Rattle.ep_frame.specs.Spelling.{FrameParts, parts_at}
use Rattle.ep_frame.specs.declared.kind.Kind.{Kind}
use Rattle.ep_frame.specs.declared.kind.Kind.TheVariants as kind
use Rattle.ep_journal.specs.Entries.{entries_of, frames_at}
use Rattle.ep_journal.specs.Events.{event_of}
use Rattle.ep_journal.specs.declared.entry.Entry.{Entry}
use Rattle.ep_journal.specs.declared.event.Event.{Event as Happening}
use Rattle.ep_journal.specs.declared.event.Event.TheVariants.{Propose, Handle, GiveUp, Recover, Execute}
use Rattle.ep_journal.specs.Openings.{opens}
use Rattle.ep_rules.specs.Cells.{Change, committed_at, committed_decree, is_commit, is_committed, nothing, record_or_fresh}
use Rattle.ep_rules.specs.InterferenceSet.{interference}
use Rattle.ep_rules.specs.Journals.{AreSteps, left, messages_of}
use Rattle.ep_rules.specs.Maps.{get}
use Rattle.ep_rules.specs.Phases.{Outcome, give_up, propose}
use Rattle.ep_rules.specs.Recovery.{recover}
use Rattle.ep_rules.specs.States.{State, cell_in, committed_in, free_number, fresh_state, record_in, with_entry}
use Rattle.ep_rules.specs.Steps.{acts, at, changed_by, leaves, proposed, sends, sent_by, sent_from, IsTaken, Sent}
use Rattle.ep_rules.specs.declared.record.Record.{Record}
use Rattle.ep_rules.proofs.Keeping.{AllSent}
use Rattle.ep_rules.proofs.Local.{free_found, local_acts, LocalAct}
use Rattle.ep_rules.proofs.Lookups.{insert_other, insert_same, none_there}
use Rattle.ep_node.specs.Reporting.{committed_as, first_number, first_said, learnt_by, learnt_in, number_for, or_other, said_by, CommitsAreReported}
use Rattle.ep_node.proofs.Decided.{after_entry, handled_reported, is_commit_message, of_reported, says_commit, reported_give_up, reported_propose, reported_recover, CommitOk}

-- What a frame says.

said_parts : (p : FrameParts) → committed_as (kind_of p.header.kind) (instance_in p.header) ≡ cond (is_commit_message (message_of p)) (Some (instance_of_message (message_of p))) None
said_parts p = go (p.header.kind == 1) (p.header.kind == 2) (p.header.kind == 3) (p.header.kind == 4) (p.header.kind == 5) (p.header.kind == 6) (p.header.kind == 7)
  where
    i : ℕ
    i = instance_in p.header

    kind_by : Bool → Bool → Bool → Bool → Bool → Bool → Bool → Kind
    kind_by a b c d e f g =
        if a then kind.PreAccept else if b then kind.PreAcceptOk else if c then kind.Accept else if d then kind.AcceptOk else if e then kind.Commit else if f then kind.Prepare else if g then kind.PrepareOk else kind.Nack

    message_by : Bool → Bool → Bool → Bool → Bool → Bool → Bool → Message
    message_by a b c d e f g =
        if a then PreAccept i (ballot_in p.header) (decree_of p)
        else if b then PreAcceptOk i (ballot_in p.header) (attrs_of p)
        else if c then Accept i (ballot_in p.header) (decree_of p)
        else if d then AcceptOk i (ballot_in p.header)
        else if e then Commit i (decree_of p)
        else if f then Prepare i (ballot_in p.header)
        else if g then PrepareOk i (ballot_in p.header) (vote_of p)
        else Nack i (ballot_in p.header) (other_in p.header)

    go : (a b c d e f g : Bool) → committed_as (kind_by a b c d e f g) i ≡ cond (is_commit_message (message_by a b c d e f g)) (Some (instance_of_message (message_by a b c d e f g))) None
    go true b c d e f g = refl
    go false true c d e f g = refl
    go false false true d e f g = refl
    go false false false true e f g = refl
    go false false false false true f g = refl
    go false false false false false true g = refl
    go false false false false false false true = refl
    go false false false false false false false = refl

said_is : (b : List ℕ) → said_by b ≡ cond (is_commit_message (message_at b)) (Some (instance_of_message (message_at b))) None
said_is b = said_parts (parts_at b)

-- what the first of the frames says, which are those of these messages about i
first_is : (me i : ℕ) (bs : List (List ℕ)) (out : List (ℕ × Message)) → messages_of (frames_at bs) ≡ sent_from me out → AllSent (λ to m. instance_of_message m ≡ i) out → first_said bs ≡ cond (says_commit out) (Some i) None
first_is me i [] [] same about = refl
first_is me i [] (m ∷ ms) same about = absurd (cc)
first_is me i (b ∷ bs) [] same about = absurd (cc)
first_is me i (b ∷ bs) (m ∷ ms) same about =
    let one : message_at b ≡ m.1 = heads (messages_of (frames_at bs)) (sent_from me ms) same in
    said_is b ∙ ap (λ (x : Message). cond (is_commit_message x) (Some (instance_of_message x)) None) one ∙ ap (λ (j : ℕ). cond (is_commit_message m.1) (Some j) None) about.0
  where
    first_message : List Sent → Message → Message
    first_message [] other = other
    first_message (x ∷ xs) other = x.message

    heads : (xs ys : List Sent) → messages_of (frames_at (b ∷ bs)) ≡ sent_from me (m ∷ ms) → message_at b ≡ m.1
    heads xs ys e = ap (λ (l : List Sent). first_message l m.1) e

-- What is committed after a change.

some_committed : (v : Option Vote) → is_some (committed_decree v) ≡ is_committed v
some_committed None = refl
some_committed (Some v) = go v.status
  where
    go : (s : VoteStatus) → is_some (committed_at s v.decree) ≡ is_commit s
    go PreAccepted = refl
    go Accepted = refl
    go Committed = refl

here_after : (s : State) (i : ℕ) (o : Option Record) → is_some (committed_in (with_entry s.records i o) i) ≡ after_entry (record_in s i) o
here_after s i None = some_committed (record_in s i).vote
here_after s i (Some y) = ap (λ o. is_some (committed_decree (record_or_fresh i o).vote)) (insert_same s.records i y) ∙ some_committed y.vote

other_after : (s : State) (i j : ℕ) (o : Option Record) → (j ≡ i → ⊥) → committed_in (with_entry s.records i o) j ≡ committed_in s.records j
other_after s i j None ne = refl
other_after s i j (Some y) ne = ap (λ o. committed_decree (record_or_fresh j o).vote) (insert_other s.records i y j ne)

or_same : (i : ℕ) (a b : Bool) → or_other (cond a (Some i) None) (cond b (Some i) None) ≡ cond (a || b) (Some i) None
or_same i true b = refl
or_same i false b = refl

numbered : (i number j : ℕ) (t : Bool) → eqb i j ≡ true → is_some (number_for (cond t (Some i) None) number j) ≡ t
numbered i number j true same = ap (λ b. is_some (cond b (Some number) None)) same
numbered i number j false same = refl

unnumbered : (i number j : ℕ) (t : Bool) → eqb i j ≡ false → is_some (number_for (cond t (Some i) None) number j) ≡ false
unnumbered i number j true other = ap (λ b. is_some (cond b (Some number) None)) other
unnumbered i number j false other = refl

one_step : (me i : ℕ) (s : State) (ch : Change) (bs : List (List ℕ)) (commit : Bool) (heard : Option ℕ) (number j : ℕ) → CommitOk (record_in s i) commit (Ok ch) → AllSent (λ to m. instance_of_message m ≡ i) ch.out
    → messages_of (frames_at bs) ≡ sent_from me ch.out → heard ≡ cond commit (Some i) None
    → is_some (committed_in (with_entry s.records i ch.entry) j) ≡ (is_some (committed_in s.records j) || is_some (number_for (or_other heard (first_said bs)) number j))
one_step me i s ch bs commit heard number j reported about sent is =
    let t : Bool = commit || says_commit ch.out in
    let learnt : or_other heard (first_said bs) ≡ cond t (Some i) None =
    ap (λ (o : Option ℕ). or_other o (first_said bs)) is ∙ ap (λ (o : Option ℕ). or_other (cond commit (Some i) None) o) (first_is me i bs ch.out sent about) ∙ or_same i commit (says_commit ch.out) in
    elim (cases_eq j i) [
      | inl same ↦ subst (λ (k : ℕ). is_some (committed_in (with_entry s.records i ch.entry) k) ≡ (is_some (committed_in s.records k) || is_some (number_for (or_other heard (first_said bs)) number k))) (sym same)
          (here_after s i ch.entry ∙ reported ∙ ap (λ b. b || t) (sym (some_committed (record_in s i).vote))
          ∙ ap (λ b. is_some (committed_in s.records i) || b) (sym (ap (λ (o : Option ℕ). is_some (number_for o number i)) learnt ∙ numbered i number i t (eq-eqb i i refl))))
      | inr ne ↦ ap (λ o. is_some o) (other_after s i j ch.entry ne) ∙ sym (or_false (is_some (committed_in s.records j)))
          ∙ ap (λ b. is_some (committed_in s.records j) || b) (sym (ap (λ (o : Option ℕ). is_some (number_for o number j)) learnt ∙ unnumbered i number j t (ne_eqb i j (λ e. ne (sym e)))))
    ]

at_step : (me i : ℕ) (s : State) (o : Outcome) (bs : List (List ℕ)) (commit : Bool) (heard : Option ℕ) (number j : ℕ) → CommitOk (record_in s i) commit o → LocalAct s (at i o) → IsTaken (at i o) → messages_of (frames_at bs) ≡ sent_by me (at i o)
    → heard ≡ cond commit (Some i) None → is_some (committed_in (changed_by s (at i o)).records j) ≡ (is_some (committed_in s.records j) || is_some (number_for (or_other heard (first_said bs)) number j))
at_step me i s (Ok ch) bs commit heard number j reported local taken sent is = one_step me i s ch bs commit heard number j reported local.about sent is
at_step me i s (Err e) bs commit heard number j reported local taken sent is = absurd taken

-- An entry.

propose_step : (f me spare : ℕ) (s : State) (c : Command) (o : Option ℕ) (bs : List (List ℕ)) (number j : ℕ) → 0 < f → free_number s.records me ≡ o → LocalAct s (proposed f me spare s c o) → IsTaken (proposed f me spare s c o)
    → messages_of (frames_at bs) ≡ sent_by me (proposed f me spare s c o) → is_some (committed_in (changed_by s (proposed f me spare s c o)).records j) ≡ (is_some (committed_in s.records j) || is_some (number_for (first_said bs) number j))
propose_step f me spare s c None bs number j more is local taken sent = absurd taken
propose_step f me spare s c (Some n) bs number j more is local taken sent =
    let i = instance_of me (n + 1) in
    let own = interference s.records i c in
    let live : is_committed (record_in s i).vote ≡ false = ap (λ o. is_committed (record_or_fresh i o).vote) (free_found s.records me n is).1 in
    at_step me i s (propose f i spare c own) bs false None number j (of_reported (record_in s i) (propose f i spare c own) (reported_propose f i me (record_in s i) more live spare c own)) local taken sent refl

entry_step : (f me : ℕ) (s : State) (event : Happening) (bs : List (List ℕ)) (number j : ℕ) → 0 < f → IsTaken (acts f me s (event_of event)) → messages_of (frames_at bs) ≡ sends f me s (event_of event)
    → is_some (committed_in (changed_by s (acts f me s (event_of event))).records j) ≡ (is_some (committed_in s.records j) || is_some (number_for (learnt_in event bs) number j))
entry_step f me s (Propose client request c seen named) bs number j more taken sent =
    propose_step f me (spared f me named) s c (free_number s.records me) bs number j more refl (local_acts f me s (event_of (Propose client request c seen named))) taken sent
entry_step f me s (Handle b) bs number j more taken sent =
    at_step me (instance_of_message (message_at b)) s _ bs (is_commit_message (message_at b)) (said_by b) number j (handled_reported f me _ s (message_at b) more) (local_acts f me s (event_of (Handle b))) taken sent (said_is b)
entry_step f me s (GiveUp i) bs number j more taken sent =
    at_step me i s _ bs false None number j (of_reported (record_in s i) (give_up f i me (record_in s i) (get s.leads i)) (reported_give_up f i me (record_in s i) more (get s.leads i))) (local_acts f me s (event_of (GiveUp i))) taken sent refl
entry_step f me s (Recover i) bs number j more taken sent =
    at_step me i s _ bs false None number j (of_reported (record_in s i) (recover f i me (record_in s i) (cell_in s i).reported) (reported_recover f i me (record_in s i) more (cell_in s i).reported)) (local_acts f me s (event_of (Recover i))) taken sent refl
entry_step f me s (Execute i) bs number j more taken sent =
    at_step me i s (Ok nothing) bs false None number j (sym (or_false (is_committed (record_in s i).vote))) (local_acts f me s (event_of (Execute i))) taken sent refl

-- All of them.

some_or : (a b : Option ℕ) → is_some (or_other a b) ≡ (is_some a || is_some b)
some_or None b = refl
some_or (Some n) b = refl

or_more : (a b c : Bool) → ((a || b) || c) ≡ (a || (b || c))
or_more true b c = refl
or_more false b c = refl

all_steps : (f me : ℕ) (s : State) (es : List Entry) (j : ℕ) → 0 < f → AreSteps f me s (entries_of es) → is_some (committed_in (left f me s (entries_of es)).records j) ≡ (is_some (committed_in s.records j) || is_some (first_number learnt_by es j))
all_steps f me s [] j more steps = sym (or_false (is_some (committed_in s.records j)))
all_steps f me s (e ∷ es) j more steps =
    let s' : State = leaves f me s (event_of e.event) e.done in
    let was = is_some (committed_in s.records j) in
    let one = is_some (number_for (learnt_by e) e.number j) in
    let rest = is_some (first_number learnt_by es j) in
    all_steps f me s' es j more steps.1
    ∙ ap (λ b. b || rest) (entry_step f me s e.event e.frames e.number j more steps.0.step.taken steps.0.sent)
    ∙ or_more was one rest
    ∙ ap (λ b. was || b) (sym (some_or (number_for (learnt_by e) e.number j) (first_number learnt_by es j)))

pub commits_are_reported_lem : CommitsAreReported
commits_are_reported_lem v o f me es more journal i =
    all_steps f me (fresh_state (opens o)) es i more journal.run.1
    ∙ ap (λ b. b || is_some (first_number learnt_by es i)) (ap (λ o. is_some (committed_decree (record_or_fresh i o).vote)) (none_there i))
