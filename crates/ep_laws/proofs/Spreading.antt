-- What live replicas know of while one of them ends an instance: no more instances than before, that one among them, and sequence numbers that are one above what they were, at most.
use Rattle.std.proofs.Common.{◌≡◌, ◌≢◌, ℕ, ◌+◌, ◌<◌, ◌≤◌, Bool, true, false, cond, eqb, Option, Some, None, Result, Ok, Err, List, [], ◌∷◌, refl, sym, subst, ◌∙◌, inl, inr, arith}
use Rattle.std.proofs.lemmas.Bool.{eqb-true}
use Rattle.ep_base.specs.Attributes.{join}
use Rattle.ep_base.specs.Commands.{Command}
use Rattle.ep_base.specs.Messages.{instance_of_message}
use Rattle.ep_base.specs.Places.{Has}
use Rattle.ep_base.specs.Quorums.{size}
use Rattle.ep_base.specs.declared.attrs.Attrs.{Attrs}
use Rattle.ep_base.specs.declared.message.Message.{Message}
use Rattle.ep_base.specs.declared.message.Message.TheVariants.{PreAccept, PreAcceptOk, Accept, AcceptOk, Commit, Prepare, PrepareOk, Nack}
use Rattle.ep_base.specs.declared.reply.Answer.{Answer}
use Rattle.ep_base.specs.declared.vote.Vote.{Vote}
use Rattle.ep_base.proofs.Members.{union-cases}
use Rattle.ep_rules.specs.Cells.{Change, Refusal, record_or_fresh}
use Rattle.ep_rules.specs.InterferenceSet.{touches, those, seq_of, greatest_seq, instances, interference}
use Rattle.ep_rules.specs.Maps.{Map, get, entries}
use Rattle.ep_rules.specs.Phases.{Outcome}
use Rattle.ep_rules.specs.States.{State, cell_in, record_in, with_entry}
use Rattle.ep_rules.specs.Steps.{Sent, Event, Propose, Handle, GiveUp, Recover, Execute, handled, at, acts, changed_by, leaves, sent_from, sent_by, sends}
use Rattle.ep_rules.specs.Worlds.{World, In, Act, IsThere, Happens, moved, IsRun, ends}
use Rattle.ep_rules.specs.declared.led_instance.LedInstance.{LedInstance}
use Rattle.ep_rules.specs.declared.led_instance.LedInstance.TheVariants.{Proposing, Accepting, Preparing}
use Rattle.ep_rules.specs.declared.record.Record.{Record}
use Rattle.ep_rules.proofs.Keeping.{AllSent, split}
use Rattle.ep_rules.proofs.Moves.{moves, taken_of}
use Rattle.ep_rules.proofs.Places.{has_cons}
use Rattle.ep_laws.specs.Alone.{silenced, Serves, AllServe}
use Rattle.ep_laws.specs.Finishing.{AllServeThese}
use Rattle.ep_laws.specs.Known.{VoteHas, LedHas, Within, KnowsWithin, AllKnown}
use Rattle.ep_laws.proofs.Entries.{AllEntries, all_get, fewer_seq, same_interference}
use Rattle.ep_laws.proofs.Knowledge.{LeadHas, NewLeadHas, EntryHas, MessageHas, ChangeHas, OutcomeHas, has_pre_accept, has_accept, has_commit, has_pre_accept_ok, has_accept_ok, has_recover, has_prepare, has_prepare_ok}
use Rattle.ep_laws.proofs.Sound.{in_cases, entry_kept, leads_kept}

-- Each act is in the instance that it serves.

abbrev pub IsOf : ℕ → Result (ℕ × Change) Refusal → Type 0
IsOf i (Ok p) = p.0 ≡ i
IsOf i (Err e) = Unit {0}

of_at : (k i : ℕ) (o : Outcome) → k ≡ i → IsOf i (at k o)
of_at k i (Ok ch) e = e
of_at k i (Err why) e = tt

pub served : (f q i r : ℕ) (s : State) (e : Event) → Serves q i r e → IsOf i (acts f r s e)
served f q i r s (Propose client request c seen spared) h = absurd h
served f q i r s (Handle m) h = of_at (instance_of_message m.sent.message) i (handled f r m.sent.from s m.sent.message) h
served f q i r s (GiveUp j) h = absurd h
served f q i r s (Recover j) h = of_at j i _ h.1
served f q i r s (Execute root) h = absurd h

-- so all others are left as they are
act_apart : (f q i : ℕ) (w : World) (a : Act) → Happens f w a → Serves q i a.replica a.event → (r j : ℕ) → j ≢ i → cell_in ((moved f w a).states r) j ≡ cell_in (w.states r) j
act_apart f q i w a p h r j ne =
    let t = taken_of (acts f a.replica (w.states a.replica) a.event) (p.step).taken in
    let of : (t.0).0 ≡ i = subst (λ o. IsOf i o) t.1 (served f q i a.replica (w.states a.replica) a.event h) in
    (moves f w a t.0 t.1).elsewhere r j (λ e. ne (e ∙ of))

pub run_apart : (f : ℕ) (live : ℕ → Bool) (q i : ℕ) (acts : List Act) (w : World) → IsRun f w acts → AllServe live q i acts → (r j : ℕ) → j ≢ i → cell_in ((ends f w acts).states r) j ≡ cell_in (w.states r) j
run_apart f live q i [] w run serve r j ne = refl
run_apart f live q i (a ∷ acts) w run serve r j ne = run_apart f live q i acts (moved f w a) run.1 serve.2 r j ne ∙ act_apart f q i w a run.0 serve.1 r j ne

-- the same of acts that serve one of several instances
pub these_apart : (f : ℕ) (live : ℕ → Bool) (q : ℕ) (is : List ℕ) (acts : List Act) (w : World) → IsRun f w acts → AllServeThese live q is acts → (r j : ℕ) → ¬ Has is j → cell_in ((ends f w acts).states r) j ≡ cell_in (w.states r) j
these_apart f live q is [] w run serve r j not = refl
these_apart f live q is (a ∷ acts) w run serve r j not =
    these_apart f live q is acts (moved f w a) run.1 serve.2 r j not ∙ act_apart f q serve.1.0 w a run.0 serve.1.2 r j (λ e. not (subst (λ k. Has is k) (sym e) serve.1.1))

-- A property of attributes, which joins have, too.
module _ (f : ℕ) (live : ℕ → Bool) (q i : ℕ) (is : List ℕ) (has : Has is i) (P : Attrs → Type 0) (joins : (a b : Attrs) → P a → P b → P (join a b)) where
  pub record StateHas (s : State) : Type 0 where
    pub recorded : AllEntries (λ (j : ℕ) (x : Record). Has is j × VoteHas P x.vote) (entries s.records)
    pub leads : (j : ℕ) (l : LedInstance) → get s.leads j ≡ Some l → LedHas P l
    pub own : (c : Command) → P (interference s.records i c)

  pub record WorldHas (w : World) : Type 0 where
    pub states : (r : ℕ) → r < size f → live r ≡ true → StateHas (w.states r)
    pub sent : (s : Sent) → In s w.sent → MessageHas P s.message

  module _ (r : ℕ) (s : State) (ok : StateHas s) where
    vote_has : (j : ℕ) → VoteHas P (record_in s j).vote
    vote_has j = go (get s.records j) refl
      where
        go : (o : Option Record) → get s.records j ≡ o → VoteHas P (record_or_fresh j o).vote
        go None e = tt
        go (Some x) e = (all_get (λ (k : ℕ) (y : Record). Has is k × VoteHas P y.vote) s.records j x ok.recorded e).1

    lead_has : (j : ℕ) (o : Option LedInstance) → get s.leads j ≡ o → LeadHas P o
    lead_has j None e = tt
    lead_has j (Some l) e = ok.leads j l e

    own_at : (j : ℕ) → j ≡ i → (c : Command) → P (interference s.records j c)
    own_at j e c = subst (λ k. P (interference s.records k c)) (sym e) (ok.own c)

    handled_has : (from : ℕ) (m : Message) → instance_of_message m ≡ i → MessageHas P m → OutcomeHas P (handled f r from s m)
    handled_has from (PreAccept j b x) e h = has_pre_accept P joins f j r (record_in s j) (vote_has j) from b x (interference s.records j x.command) h (own_at j e x.command)
    handled_has from (PreAcceptOk j b a) e h = has_pre_accept_ok P joins f j r (record_in s j) (vote_has j) from b a (get s.leads j) h (lead_has j (get s.leads j) refl)
    handled_has from (Accept j b x) e h = has_accept P joins f j r (record_in s j) (vote_has j) from b x h
    handled_has from (AcceptOk j b) e h = has_accept_ok P joins f j r (record_in s j) (vote_has j) from b (get s.leads j)
    handled_has from (Commit j x) e h = has_commit P joins f j r (record_in s j) (vote_has j) x h
    handled_has from (Prepare j b) e h = has_prepare P joins f j r (record_in s j) (vote_has j) from b
    handled_has from (PrepareOk j b v) e h = has_prepare_ok P joins f j r (record_in s j) (vote_has j) (interference s.records j) (own_at j e) from b v (get s.leads j) h (lead_has j (get s.leads j) refl)
    handled_has from (Nack j b p) e h = record { entry = tt; led = tt; out = tt }

    abbrev ActHas : Result (ℕ × Change) Refusal → Type 0
    ActHas (Ok p) = ChangeHas P p.1
    ActHas (Err e) = Unit {0}

    has_at : (k : ℕ) (o : Outcome) → OutcomeHas P o → ActHas (at k o)
    has_at k (Ok ch) h = h
    has_at k (Err e) h = tt

    acts_have : (sent : List Sent) (e : Event) → ((m : Sent) → In m sent → MessageHas P m.message) → IsThere sent e → Serves q i r e → ActHas (acts f r s e)
    acts_have sent (Propose client request c seen spared) each there h = absurd h
    acts_have sent (Handle m) each there h = has_at (instance_of_message m.sent.message) (handled f r m.sent.from s m.sent.message) (handled_has m.sent.from m.sent.message h (each m.sent there))
    acts_have sent (GiveUp j) each there h = absurd h
    acts_have sent (Recover j) each there h = has_at j _ (has_recover P joins f j r (record_in s j) (vote_has j) (cell_in s j).reported)
    acts_have sent (Execute root) each there h = absurd h

    new_entry : (j : ℕ) (o : Option Record) → j ≡ i → EntryHas P o → (x : Record) → o ≡ Some x → Has is j × VoteHas P x.vote
    new_entry j None e h x is' = absurd (cc)
    new_entry j (Some y) e h x is' = let same : y ≡ x = cc in (subst (λ k. Has is k) (sym e) has, subst (λ (z : Record). VoteHas P z.vote) same h)

    new_lead : (o : Option (Option LedInstance)) → NewLeadHas P o → (l : LedInstance) → o ≡ Some (Some l) → LedHas P l
    new_lead None h l e = absurd (cc)
    new_lead (Some None) h l e = absurd (let t : None ≡ Some l = cc in cc)
    new_lead (Some (Some k)) h l e = let t : Some k ≡ Some l = cc in let same : k ≡ l = cc in subst (λ z. LedHas P z) same h

    pub changed_has : (o : Result (ℕ × Change) Refusal) → IsOf i o → ActHas o → StateHas (changed_by s o)
    changed_has (Err e) of h = ok
    changed_has (Ok p) of h = record {
      recorded = entry_kept (λ (j : ℕ) (x : Record). Has is j × VoteHas P x.vote) s.records p.0 p.1.entry (new_entry p.0 p.1.entry of h.entry) ok.recorded;
      leads = leads_kept (λ l. LedHas P l) s.leads p.0 p.1.led (new_lead p.1.led h.led) ok.leads;
      own = λ c. subst (λ j. P (interference (with_entry s.records j p.1.entry) i c)) (sym of) (subst P (sym (same_interference s.records i p.1.entry c)) (ok.own c));
    }

  pub left_has : (r : ℕ) (s : State) (e : Event) (done : List (ℕ × Answer)) → StateHas (changed_by s (acts f r s e)) → StateHas (leaves f r s e done)
  left_has r s e done t = record { recorded = t.recorded; leads = t.leads; own = t.own }

  out_has : (r : ℕ) (out : List (ℕ × Message)) → AllSent (λ to m. MessageHas P m) out → (s : Sent) → In s (sent_from r out) → MessageHas P s.message
  out_has r [] all s there = absurd there
  out_has r (m ∷ ms) all s (inl e) = subst (λ (t : Sent). MessageHas P t.message) e all.0
  out_has r (m ∷ ms) all s (inr there) = out_has r ms all.1 s there

  sent_has : (r : ℕ) (st : State) (ok : StateHas st) (o : Result (ℕ × Change) Refusal) → ActHas r st ok o → (s : Sent) → In s (sent_by r o) → MessageHas P s.message
  sent_has r st ok (Ok p) h s there = out_has r p.1.out h.out s there
  sent_has r st ok (Err e) h s there = absurd there

  act_has : (w : World) (a : Act) → Happens f w a → live a.replica ≡ true → Serves q i a.replica a.event → WorldHas w → WorldHas (moved f w a)
  act_has w a p lives serve ok =
      let r : ℕ = a.replica in
      let s : State = w.states r in
      let here : StateHas s = ok.states r p.replica lives in
      let did = acts_have r s here w.sent a.event ok.sent p.there serve in
      record {
        states = λ k low lives'. split StateHas (eqb r k) (leaves f k (w.states k) a.event a.done) (w.states k)
            (λ e. subst (λ j. StateHas (leaves f j (w.states j) a.event a.done)) (eqb-true r k e) (left_has r s a.event a.done (changed_has r s here (acts f r s a.event) (served f q i r s a.event serve) did)))
            (λ e. ok.states k low lives');
        sent = λ m there. elim (in_cases m w.sent (sends f r s a.event) there) [ inl old ↦ ok.sent m old | inr new ↦ sent_has r s here (acts f r s a.event) did m new ];
      }

  pub run_has : (acts : List Act) (w : World) → IsRun f w acts → AllServe live q i acts → WorldHas w → WorldHas (ends f w acts)
  run_has [] w run serve ok = ok
  run_has (a ∷ acts) w run serve ok = run_has acts (moved f w a) run.1 serve.2 (act_has w a run.0 serve.0 serve.1 ok)

-- The instances, and a bound on sequence numbers.

pub joins_within : (is : List ℕ) (m : ℕ) (a b : Attrs) → Within is m a → Within is m b → Within is m (join a b)
joins_within is m a b p q = record {
  deps = λ j h. elim (union-cases a.deps b.deps j h) [ inl k ↦ p.deps j k | inr k ↦ q.deps j k ];
  seq = (let x = p.seq in let y = q.seq in omega arith);
}

-- more instances, and a greater bound
module _ (is js : List ℕ) (m n : ℕ) (up : (j : ℕ) → Has is j → Has js j) (le : m ≤ n) where
  wider : (a : Attrs) → Within is m a → Within js n a
  wider a w = record { deps = λ j h. up j (w.deps j h); seq = (let x = w.seq in omega arith) }

  wider_vote : (v : Option Vote) → VoteHas (Within is m) v → VoteHas (Within js n) v
  wider_vote None h = tt
  wider_vote (Some v) h = wider v.decree.attrs h

  wider_led : (l : LedInstance) → LedHas (Within is m) l → LedHas (Within js n) l
  wider_led (Proposing b s answers) h = λ r a e. wider a (h r a e)
  wider_led (Accepting b answers) h = tt
  wider_led (Preparing b answers) h = λ r v e. wider_vote v (h r v e)

  pub wider_known : (s : State) → KnowsWithin is m s → KnowsWithin js n s
  wider_known s k = record {
    recorded = λ e there. (let t = k.recorded e there in (up e.0 t.0, wider_vote e.1.vote t.1));
    led = λ j l e. wider_led l (k.led j l e);
  }

abbrev pub EntryWithin : (is : List ℕ) (m : ℕ) → ℕ → Record → Type 0
EntryWithin is m j x = Has is j × VoteHas (Within is m) x.vote

pub all_in : {X : Type 0} (Q : ℕ → X → Type 0) (es : List (ℕ × X)) → ((e : ℕ × X) → In e es → Q e.0 e.1) → AllEntries Q es
all_in Q [] h = tt
all_in Q (e ∷ es) h = (h e (inl refl), all_in Q es (λ x there. h x (inr there)))

pub in_all : {X : Type 0} (Q : ℕ → X → Type 0) (es : List (ℕ × X)) → AllEntries Q es → (e : ℕ × X) → In e es → Q e.0 e.1
in_all Q [] all e there = absurd there
in_all Q (x ∷ xs) all e (inl is) = subst (λ y. Q y.0 y.1) is all.0
in_all Q (x ∷ xs) all e (inr there) = in_all Q xs all.1 e there

seq_within : (is : List ℕ) (m : ℕ) (v : Option Vote) → VoteHas (Within is m) v → seq_of v ≤ m
seq_within is m None h = omega arith
seq_within is m (Some v) h = h.seq

pub greatest_within : (is : List ℕ) (m : ℕ) (es : List (ℕ × Record)) → AllEntries (EntryWithin is m) es → greatest_seq es ≤ m
greatest_within is m [] all = omega arith
greatest_within is m (e ∷ es) all = let x = seq_within is m e.1.vote all.0.1 in let rec = greatest_within is m es all.1 in omega arith

instances_in : (is : List ℕ) (m : ℕ) (p : ℕ × Record → Bool) (es : List (ℕ × Record)) → AllEntries (EntryWithin is m) es → (j : ℕ) → Has (instances (those p es)) j → Has is j
instances_in is m p [] all j h = absurd (omega arith)
instances_in is m p (e ∷ es) all j h = go (p e) h (instances_in is m p es all.1 j)
  where
    go : (b : Bool) → Has (instances (cond b (e ∷ those p es) (those p es))) j → (Has (instances (those p es)) j → Has is j) → Has is j
    go true h rec = elim (has_cons e.0 j (instances (those p es)) h) [ inl k ↦ subst (λ n. Has is n) k all.0.0 | inr there ↦ rec there ]
    go false h rec = rec h

pub own_within : (is : List ℕ) (m : ℕ) (records : Map Record) (i : ℕ) (c : Command) → AllEntries (EntryWithin is m) (entries records) → Within is (m + 1) (interference records i c)
own_within is m records i c all = record {
  deps = instances_in is m (touches c i) (entries records) all;
  seq = (let x = fewer_seq (touches c i) (entries records) in let y = greatest_within is m (entries records) all in omega arith);
}

pub known_entries : (is : List ℕ) (m : ℕ) (s : State) → KnowsWithin is m s → AllEntries (EntryWithin is m) (entries s.records)
known_entries is m s k = all_in (EntryWithin is m) (entries s.records) k.recorded

module _ (f : ℕ) (live : ℕ → Bool) (q i : ℕ) (is : List ℕ) (has : Has is i) (m : ℕ) where
  abbrev More : World → Type 0
  More = WorldHas f live q i is has (Within is (m + 1)) (joins_within is (m + 1))

  known_there : (w : World) → AllKnown f live is m w → More (silenced w)
  known_there w k = record {
    states = λ r low lives. (
        let here = k r low lives in
        let wide = wider_known is is m (m + 1) (λ j h. h) (omega arith) (w.states r) here in
        record {
          recorded = known_entries is (m + 1) (w.states r) wide;
          leads = wide.led;
          own = λ c. own_within is m (w.states r).records i c (known_entries is m (w.states r) here);
        });
    sent = λ s there. absurd there;
  }

  there_known : (w : World) → More w → AllKnown f live is (m + 1) w
  there_known w k r low lives =
      let here = k.states r low lives in
      record { recorded = in_all (EntryWithin is (m + 1)) (entries (w.states r).records) here.recorded; led = here.leads }

  -- so these acts leave
  pub known_after : (w : World) (acts : List Act) → IsRun f (silenced w) acts → AllServe live q i acts → AllKnown f live is m w → AllKnown f live is (m + 1) (ends f (silenced w) acts)
  known_after w acts run serve k = there_known (ends f (silenced w) acts) (run_has f live q i is has (Within is (m + 1)) (joins_within is (m + 1)) acts (silenced w) run serve (known_there w k))
