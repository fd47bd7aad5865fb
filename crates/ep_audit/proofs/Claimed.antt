-- The first fault of receipts is the rule book's.
use Rattle.std.proofs.Common.{◌≡◌, ℕ, suc, ◌+◌, ◌<◌, inl, inr, Bool, true, false, ◌&&◌, cond, eqb, length, Option, Some, None, IfNone, IfSome, List, [], ◌∷◌, ◌++◌, slice_get, refl, sym, ap, subst, ◌∙◌, arith}
use Rattle.std.proofs.lemmas.Bool.{eqb-true, eq-eqb, ltb-true, lt-ltb, false≢true, and_parts}
use Rattle.ep_base.specs.Instances.{leader_of}
use Rattle.ep_base.specs.Messages.{instance_of_message}
use Rattle.ep_base.specs.Sameness.{same_answer}
use Rattle.ep_base.specs.declared.reply.Answer.{Answer}
use Rattle.ep_base.proofs.Same.{Decides-same_answer}
use Rattle.ep_frame.specs.Meaning.{message_at}
use Rattle.ep_journal.specs.Entries.{Collected, entry_of, entries_at, journals_of, frames_at, AreJournals}
use Rattle.ep_journal.specs.Events.{event_of, frame_at}
use Rattle.ep_journal.specs.declared.entry.Entry.{Entry}
use Rattle.ep_journal.specs.declared.event.Event.{Event}
use Rattle.ep_journal.specs.declared.event.Event.TheVariants.{Propose, Handle, GiveUp, Recover, Execute}
use Rattle.ep_audit.specs.Faults.{fault_of}
use Rattle.ep_audit.specs.declared.audit_fault.AuditFault.{AuditFault}
use Rattle.ep_rules.specs.Audits.{IsAccepted, IsFirstReceipt, IsFault, unknown, order}
use Rattle.ep_rules.specs.Journals as rules
use Rattle.ep_rules.specs.Journals.{IsMatched}
use Rattle.ep_rules.specs.Steps.{Frame, Propose as Proposal, Handle as Handles, GiveUp as GivesUp, Recover as Recovers, Execute as Executes}
use Rattle.ep_rules.specs.Verdicts.{Proposes, ReportsOf, HasDone, IsKnown, Agrees}
use Rattle.ep_rules.specs.Worlds.{In}
use Rattle.ep_rules.specs.declared.receipt.Receipt.{Receipt}
use Rattle.ep_rules.proofs.ByPlace.{done_by_place_lem}
use Rattle.ep_rules.proofs.OneProposal.{one_proposal_lem, proposals_report_lem}
use Rattle.ep_audit.specs.Claims.{is_proposed, is_earlier, proposal_of, is_known, receipt_fault, first_of}
use Rattle.ep_audit.specs.Lookups.{entry_at, proposed, is_this, proposal_in, is_request, has_answer, has_done}
use Rattle.ep_audit.proofs.Handled.{passes, outer, inner, fails, or_none, or_some}
use Rattle.ep_audit.proofs.Shown.{shown_at, shown_from, in_shown, shown_in, runs_of, numbered_of, entry_from, entry_parts}
use Rattle.ep_journal.specs.Openings.{opens}

and_both : (p q : Bool) → p ≡ true → q ≡ true → p && q ≡ true
and_both p q a b = rw a b

-- Proposals.

this_is : (i : ℕ) (o : Option ℕ) → is_this i o ≡ true → o ≡ Some i
this_is i None is = absurd (false≢true is)
this_is i (Some j) is = ap Some (eqb-true j i is)

is_this_one : (i : ℕ) (o : Option ℕ) → o ≡ Some i → is_this i o ≡ true
is_this_one i None is = absurd (cc)
is_this_one i (Some j) is = let s : Some j ≡ Some i = is in eq-eqb j i (cc)

-- what the search finds
record Found (es : List Entry) (i : ℕ) (e : Entry) : Type 0 where
  pub there : In e es
  pub names : proposed e.event e.frames ≡ Some i

found : (es : List Entry) (i : ℕ) (e : Entry) → proposal_in es i ≡ Some e → Found es i e
found [] i e is = absurd (cc)
found (x ∷ es) i e is = go (is_this i (proposed x.event x.frames)) refl is (found es i e)
  where
    go : (b : Bool) → is_this i (proposed x.event x.frames) ≡ b → cond b (Some x) (proposal_in es i) ≡ Some e → (proposal_in es i ≡ Some e → Found es i e) → Found (x ∷ es) i e
    go true q s rec = let t : Some x ≡ Some e = s in let same : x ≡ e = cc in subst (λ z. Found (x ∷ es) i z) same (record { there = inl refl; names = this_is i (proposed x.event x.frames) q })
    go false q s rec = let t = rec s in record { there = inr t.there; names = t.names }

none_found : (es : List Entry) (i : ℕ) → proposal_in es i ≡ None → (e : Entry) → In e es → proposed e.event e.frames ≡ Some i → ⊥
none_found [] i none e there names = absurd there
none_found (x ∷ es) i none e there names = go (is_this i (proposed x.event x.frames)) refl none there (λ n k. none_found es i n e k names)
  where
    go : (b : Bool) → is_this i (proposed x.event x.frames) ≡ b → cond b (Some x) (proposal_in es i) ≡ None → In e (x ∷ es) → (proposal_in es i ≡ None → In e es → ⊥) → ⊥
    go true q s k rec = let t : Some x ≡ None = s in cc
    go false q s (inl is) rec = false≢true (sym q ∙ is_this_one i (proposed x.event x.frames) (subst (λ (z : Entry). proposed z.event z.frames ≡ Some i) (sym is) names))
    go false q s (inr k) rec = rec s k

-- what the rule book asks of a proposal, by the code's event and frames
reports : (x : rules.Entry) (event : Event) (frames : List (List ℕ)) (i client request : ℕ) → x.event ≡ event_of event → x.out ≡ frames_at frames → proposed event frames ≡ Some i → is_request client request event ≡ true → ReportsOf x i client request
reports x (Propose k n command seen named) [] i client request is out names asks = let s : None ≡ Some i = names in absurd (cc)
reports x (Propose k n command seen named) (b ∷ bs) i client request is out names asks =
    let t = and_parts (eqb k client) (eqb n request) asks in
    let s : Some (instance_of_message (message_at b)) ≡ Some i = names in
    record {
      command = command;
      seen = seen;
      spared = named;
      event = is ∙ ap (λ z. Proposal z n command seen named) (eqb-true k client t.0) ∙ ap (λ z. Proposal client z command seen named) (eqb-true n request t.1);
      frame = frame_at b;
      first = ap (λ ms. slice_get ms 0) out;
      about = (let q : instance_of_message (message_at b) ≡ i = cc in q);
    }
reports x (Handle b) frames i client request is out names asks = absurd (false≢true asks)
reports x (GiveUp j) frames i client request is out names asks = absurd (false≢true asks)
reports x (Recover j) frames i client request is out names asks = absurd (false≢true asks)
reports x (Execute j) frames i client request is out names asks = absurd (false≢true asks)

reported : (x : rules.Entry) (event : Event) (frames : List (List ℕ)) (i client request : ℕ) → x.event ≡ event_of event → x.out ≡ frames_at frames → ReportsOf x i client request → (proposed event frames ≡ Some i) × (is_request client request event ≡ true)
reported x (Propose k n command seen named) [] i client request is out t = let s : None ≡ Some t.frame = sym (ap (λ ms. slice_get ms 0) out) ∙ t.first in absurd (cc)
reported x (Propose k n command seen named) (b ∷ bs) i client request is out t =
    let s : Some (frame_at b) ≡ Some t.frame = sym (ap (λ ms. slice_get ms 0) out) ∙ t.first in
    let same : frame_at b ≡ t.frame = cc in
    let event : Proposal k n command seen named ≡ Proposal client request t.command t.seen t.spared = sym is ∙ t.event in
    let a : k ≡ client = cc in
    let d : n ≡ request = cc in
    (ap Some (ap (λ (m : Frame). instance_of_message m.sent.message) same ∙ t.about), and_both (eqb k client) (eqb n request) (eq-eqb k client a) (eq-eqb n request d))
reported x (Handle b) frames i client request is out t = let s : Handles (frame_at b) ≡ Proposal client request t.command t.seen t.spared = sym is ∙ t.event in absurd (cc)
reported x (GiveUp j) frames i client request is out t = let s : GivesUp j ≡ Proposal client request t.command t.seen t.spared = sym is ∙ t.event in absurd (cc)
reported x (Recover j) frames i client request is out t = let s : Recovers j ≡ Proposal client request t.command t.seen t.spared = sym is ∙ t.event in absurd (cc)
reported x (Execute j) frames i client request is out t = let s : Executes j ≡ Proposal client request t.command t.seen t.spared = sym is ∙ t.event in absurd (cc)

-- a proposal is of some client's request
asked : (event : Event) (frames : List (List ℕ)) (i : ℕ) → proposed event frames ≡ Some i → (client : ℕ) × (request : ℕ) × (is_request client request event ≡ true)
asked (Propose k n command seen named) frames i names = (k, n, and_both (eqb k k) (eqb n n) (eq-eqb k k refl) (eq-eqb n n refl))
asked (Handle b) frames i names = let s : None ≡ Some i = names in absurd (cc)
asked (GiveUp j) frames i names = let s : None ≡ Some i = names in absurd (cc)
asked (Recover j) frames i names = let s : None ≡ Some i = names in absurd (cc)
asked (Execute j) frames i names = let s : None ≡ Some i = names in absurd (cc)

in_middle : (xs : List rules.Entry) (e : rules.Entry) (ys whole : List rules.Entry) → xs ++ (e ∷ ys) ≡ whole → In e whole
in_middle xs e ys whole is = subst (λ l. In e l) is (go xs)
  where
    go : (zs : List rules.Entry) → In e (zs ++ (e ∷ ys))
    go [] = inl refl
    go (z ∷ zs) = inr (go zs)

module _ (c : Collected) (h : AreJournals c) (some : 0 < c.faults) where
  -- the entry proposes i for this client and request
  record Asks (i client request : ℕ) (e : Entry) : Type 0 where
    pub asks : is_request client request e.event ≡ true
    pub proposes : Proposes (opens c.opening) c.faults (leader_of i) (journals_of c (leader_of i)) i client request
    pub is : proposes.proposal ≡ entry_of e

  proposer : (i client request : ℕ) (e : Entry) → proposal_of c i ≡ Some e → is_request client request e.event ≡ true → Asks i client request e
  proposer i client request e is asks =
      let l : ℕ = leader_of i in
      let t = found (entries_at c l) i e is in
      let p = (proposals_report_lem (opens c.opening) c.faults l (journals_of c l) some ((runs_of c h).local l).1 i client request).1 (entry_of e) (shown_in (entries_at c l) e t.there) (reports (entry_of e) e.event e.frames i client request refl refl t.names asks) in
      record { asks = asks; proposes = p.0; is = p.1 }

  -- the one proposal is what the search finds
  proposal_is : (i client request : ℕ) (p : Proposes (opens c.opening) c.faults (leader_of i) (journals_of c (leader_of i)) i client request) → (o : Option Entry) → proposal_of c i ≡ o → (e : Entry) × (o ≡ Some e) × (is_request client request e.event ≡ true) × (p.proposal ≡ entry_of e)
  proposal_is i client request p None is =
      let l : ℕ = leader_of i in
      let law = proposals_report_lem (opens c.opening) c.faults l (journals_of c l) some ((runs_of c h).local l).1 i client request in
      let t = in_shown (entries_at c l) p.proposal (in_middle p.before p.proposal p.rest (journals_of c l) p.split) in
      let u = reported (entry_of t.0) t.0.event t.0.frames i client request refl refl (subst (λ z. ReportsOf z i client request) (sym t.2) (law.0 p)) in
      absurd (none_found (entries_at c l) i is t.0 t.1 u.0)
  proposal_is i client request p (Some e) is =
      let l : ℕ = leader_of i in
      let steps = ((runs_of c h).local l).1 in
      let law = proposals_report_lem (opens c.opening) c.faults l (journals_of c l) some steps i client request in
      let t = found (entries_at c l) i e is in
      let a = asked e.event e.frames i t.names in
      let q = proposer i a.0 a.1 e is a.2 in
      let same : p.proposal ≡ entry_of e = one_proposal_lem (opens c.opening) c.faults l (journals_of c l) steps i client request a.0 a.1 p q.proposes ∙ q.is in
      let u = reported (entry_of e) e.event e.frames i client request refl refl (subst (λ z. ReportsOf z i client request) same (law.0 p)) in
      (e, refl, u.1, same)

-- Executions.

answered : (ds : List (ℕ × Answer)) (i : ℕ) (answer : Answer) → has_answer ds i answer ≡ true → In (i, answer) ds
answered [] i answer is = absurd (false≢true is)
answered (d ∷ ds) i answer is = go (eqb d.0 i && same_answer d.1 answer) refl is (answered ds i answer)
  where
    go : (b : Bool) → eqb d.0 i && same_answer d.1 answer ≡ b → cond b true (has_answer ds i answer) ≡ true → (has_answer ds i answer ≡ true → In (i, answer) ds) → In (i, answer) (d ∷ ds)
    go true q s rec = let t = and_parts (eqb d.0 i) (same_answer d.1 answer) q in inl (ap (λ z. (z, d.1)) (eqb-true d.0 i t.0) ∙ ap (λ z. (i, z)) ((Decides-same_answer d.1 answer).0 t.1))
    go false q s rec = inr (rec s)

has_answered : (ds : List (ℕ × Answer)) (i : ℕ) (answer : Answer) → In (i, answer) ds → has_answer ds i answer ≡ true
has_answered [] i answer there = absurd there
has_answered (d ∷ ds) i answer (inl is) =
    let q : eqb d.0 i && same_answer d.1 answer ≡ true = and_both (eqb d.0 i) (same_answer d.1 answer) (eq-eqb d.0 i (ap (λ (z : ℕ × Answer). z.0) is)) ((Decides-same_answer d.1 answer).1 (ap (λ (z : ℕ × Answer). z.1) is)) in
    rw q refl
has_answered (d ∷ ds) i answer (inr there) = go (eqb d.0 i && same_answer d.1 answer) (has_answered ds i answer there)
  where
    go : (b : Bool) → has_answer ds i answer ≡ true → cond b true (has_answer ds i answer) ≡ true
    go true k = refl
    go false k = k

done_by : (o : Option Entry) (stamp i : ℕ) (answer : Answer) → has_done o stamp i answer ≡ true → (e : Entry) × (o ≡ Some e) × (e.stamp ≡ stamp) × In (i, answer) e.done
done_by None stamp i answer is = absurd (false≢true is)
done_by (Some e) stamp i answer is = let t = and_parts (eqb e.stamp stamp) (has_answer e.done i answer) is in (e, refl, eqb-true e.stamp stamp t.0, answered e.done i answer t.1)

executed : (c : Collected) (h : AreJournals c) (r n stamp i : ℕ) (answer : Answer) → has_done (entry_at (entries_at c r) n) stamp i answer ≡ true → HasDone (journals_of c r) n stamp i answer
executed c h r n stamp i answer is =
    let t = done_by (entry_at (entries_at c r) n) stamp i answer is in
    let u = entry_parts (entries_at c r) n t.0 t.1 in
    (done_by_place_lem (journals_of c r) (numbered_of c h r) n stamp i answer).1 (u.0, entry_of t.0, u.1, shown_at (entries_at c r) u.0 t.0 u.2, t.2, t.3)

has_executed : (c : Collected) (h : AreJournals c) (r n stamp i : ℕ) (answer : Answer) → HasDone (journals_of c r) n stamp i answer → has_done (entry_at (entries_at c r) n) stamp i answer ≡ true
has_executed c h r n stamp i answer d =
    let t = (done_by_place_lem (journals_of c r) (numbered_of c h r) n stamp i answer).0 d in
    let s = shown_from (entries_at c r) t.0 t.1 t.3 in
    let at : entry_at (entries_at c r) n ≡ Some s.entry = entry_from (entries_at c r) n t.0 s.entry t.2 s.at in
    let stamped : s.entry.stamp ≡ stamp = subst (λ (z : rules.Entry). z.stamp ≡ stamp) s.is t.4 in
    let there : In (i, answer) s.entry.done = subst (λ (z : rules.Entry). In (i, answer) z.done) s.is t.5 in
    rw at (and_both (eqb s.entry.stamp stamp) (has_answer s.entry.done i answer) (eq-eqb s.entry.stamp stamp stamped) (has_answered s.entry.done i answer there))

-- One receipt.

is_some_entry : (o : Option Entry) (client request : ℕ) → is_proposed o client request ≡ true → (e : Entry) × (o ≡ Some e) × (is_request client request e.event ≡ true)
is_some_entry None client request is = absurd (false≢true is)
is_some_entry (Some e) client request is = (e, refl, is)

module _ (c : Collected) (h : AreJournals c) (some : 0 < c.faults) where
  -- a known receipt, with its proposal
  record Knows (t : Receipt) : Type 0 where
    pub entry : Entry
    pub found : proposal_of c t.instance ≡ Some entry
    pub known : IsKnown (opens c.opening) c.faults (journals_of c) t
    pub is : known.proposed.proposal ≡ entry_of entry

  knows : (t : Receipt) → is_known c t ≡ true → Knows t
  knows t is =
      let b = and_parts (is_proposed (proposal_of c t.instance) t.client t.request) (has_done (entry_at (entries_at c t.replica) t.entry) t.stamp t.instance t.answer) is in
      let e = is_some_entry (proposal_of c t.instance) t.client t.request b.0 in
      let p = proposer c h some t.instance t.client t.request e.0 e.1 e.2 in
      record { entry = e.0; found = e.1; known = record { proposed = p.proposes; executed = executed c h t.replica t.entry t.stamp t.instance t.answer b.1 }; is = p.is }

  known : (t : Receipt) → IsKnown (opens c.opening) c.faults (journals_of c) t → is_known c t ≡ true
  known t k =
      let p = proposal_is c h some t.instance t.client t.request k.proposed (proposal_of c t.instance) refl in
      let q : is_proposed (proposal_of c t.instance) t.client t.request ≡ true = subst (λ o. is_proposed o t.client t.request ≡ true) (sym p.1) p.2 in
      and_both (is_proposed (proposal_of c t.instance) t.client t.request) (has_done (entry_at (entries_at c t.replica) t.entry) t.stamp t.instance t.answer) q
      (has_executed c h t.replica t.entry t.stamp t.instance t.answer k.executed)

  agrees : (place : ℕ) (t : Receipt) → receipt_fault c place t ≡ None → Agrees (opens c.opening) c.faults (journals_of c) t
  agrees place t none =
      let b = passes (is_known c t) (is_earlier t.seen (proposal_of c t.instance)) (AuditFault.CallerOrder place) (AuditFault.UnknownReceipt place) none in
      let k = knows t b.0 in
      let lt : t.seen < k.entry.stamp = ltb-true t.seen k.entry.stamp (subst (λ o. is_earlier t.seen o ≡ true) k.found b.1) in
      record { known = k.known; later = subst (λ (z : rules.Entry). t.seen < z.stamp) (sym k.is) lt }

  earlier : (t : Receipt) → Agrees (opens c.opening) c.faults (journals_of c) t → is_earlier t.seen (proposal_of c t.instance) ≡ true
  earlier t a =
      let p = proposal_is c h some t.instance t.client t.request a.known.proposed (proposal_of c t.instance) refl in
      let lt : t.seen < p.0.stamp = subst (λ (z : rules.Entry). t.seen < z.stamp) p.3 a.later in
      subst (λ o. is_earlier t.seen o ≡ true) (sym p.1) (lt-ltb t.seen p.0.stamp lt)

  receipt_wrong : (receipts : List Receipt) (place : ℕ) (t : Receipt) → IsFirstReceipt (opens c.opening) c.faults (journals_of c) receipts place t → (x : AuditFault) → receipt_fault c place t ≡ Some x → IsFault (opens c.opening) c.faults (journals_of c) receipts (fault_of x)
  receipt_wrong receipts place t first x is =
      elim (fails (is_known c t) (is_earlier t.seen (proposal_of c t.instance)) (AuditFault.CallerOrder place) (AuditFault.UnknownReceipt place) x is) [
        | outer isnt same ↦ subst (λ y. IsFault (opens c.opening) c.faults (journals_of c) receipts (fault_of y)) same (unknown place t first (λ k. false≢true (sym isnt ∙ known t k)))
        | inner passed isnt same ↦ subst (λ y. IsFault (opens c.opening) c.faults (journals_of c) receipts (fault_of y)) same (order place t first (knows t passed).known (λ a. false≢true (sym isnt ∙ earlier t a)))
      ]

-- All receipts.

none_of : (c : Collected) (place : ℕ) (ts : List Receipt) → first_of c place ts ≡ None → (t : Receipt) → In t ts → (n : ℕ) × (receipt_fault c n t ≡ None)
none_of c place [] none t there = absurd there
none_of c place (u ∷ ts) none t (inl is) = (place, subst (λ z. receipt_fault c place z ≡ None) is (or_none (receipt_fault c place u) (first_of c (suc place) ts) none).0)
none_of c place (u ∷ ts) none t (inr there) = none_of c (suc place) ts (or_none (receipt_fault c place u) (first_of c (suc place) ts) none).1 t there

record FirstOf (c : Collected) (place : ℕ) (ts : List Receipt) (x : AuditFault) : Type 0 where
  pub before : List Receipt
  pub receipt : Receipt
  pub rest : List Receipt
  pub split : before ++ (receipt ∷ rest) ≡ ts
  pub at : ℕ
  pub counted : at ≡ place + length before
  pub fault : receipt_fault c at receipt ≡ Some x
  pub fine : (t : Receipt) → In t before → (n : ℕ) × (receipt_fault c n t ≡ None)

first_more : (c : Collected) (place : ℕ) (u : Receipt) (ts : List Receipt) (x : AuditFault) → receipt_fault c place u ≡ None → FirstOf c (suc place) ts x → FirstOf c place (u ∷ ts) x
first_more c place u ts x none t = record {
  before = u ∷ t.before;
  receipt = t.receipt;
  rest = t.rest;
  split = ap (λ ys. u ∷ ys) t.split;
  at = t.at;
  counted = (let q : t.at ≡ suc place + length t.before = t.counted in omega arith);
  fault = t.fault;
  fine = go;
}
  where
    go : (d : Receipt) → In d (u ∷ t.before) → (n : ℕ) × (receipt_fault c n d ≡ None)
    go d (inl is) = (place, subst (λ z. receipt_fault c place z ≡ None) is none)
    go d (inr there) = t.fine d there

some_of : (c : Collected) (place : ℕ) (ts : List Receipt) (x : AuditFault) → first_of c place ts ≡ Some x → FirstOf c place ts x
some_of c place [] x some = let s : None ≡ Some x = some in absurd (cc)
some_of c place (t ∷ ts) x some = elim (or_some (receipt_fault c place t) (first_of c (suc place) ts) x some) [
  | inl is ↦ record { before = []; receipt = t; rest = ts; split = refl; at = place; counted = omega arith; fault = is; fine = λ d there. absurd there }
  | inr is ↦ first_more c place t ts x is.0 (some_of c (suc place) ts x is.1)
]

accepted : (c : Collected) (receipts : List Receipt) → AreJournals c → 0 < c.faults → IsMatched (journals_of c) → first_of c 1 receipts ≡ None → IsAccepted (opens c.opening) c.faults (journals_of c) receipts
accepted c receipts h some matched none = record { matched = matched; agree = λ t there. let n = none_of c 1 receipts none t there in agrees c h some n.0 t n.1 }

claimed_wrong : (c : Collected) (receipts : List Receipt) (x : AuditFault) → AreJournals c → 0 < c.faults → IsMatched (journals_of c) → first_of c 1 receipts ≡ Some x → IsFault (opens c.opening) c.faults (journals_of c) receipts (fault_of x)
claimed_wrong c receipts x h some matched is =
    let t = some_of c 1 receipts x is in
    receipt_wrong c h some receipts t.at t.receipt
    (record {
      matched = matched;
      before = t.before;
      rest = t.rest;
      split = t.split;
      counted = (let q : t.at ≡ 1 + length t.before = t.counted in omega arith);
      agree = λ u there. let n = t.fine u there in agrees c h some n.0 u n.1;
    })
    x t.fault

-- where no receipt has a fault, all is accepted
pub accepted_if : (c : Collected) (receipts : List Receipt) → AreJournals c → 0 < c.faults → IsMatched (journals_of c) → (o : Option AuditFault) → o ≡ first_of c 1 receipts → IfNone o (IsAccepted (opens c.opening) c.faults (journals_of c) receipts)
accepted_if c receipts h some matched None is = accepted c receipts h some matched (sym is)
accepted_if c receipts h some matched (Some x) is = tt

-- the first fault is one of the rule book's
pub wrong_if : (c : Collected) (receipts : List Receipt) → AreJournals c → 0 < c.faults → IsMatched (journals_of c) → (o : Option AuditFault) → o ≡ first_of c 1 receipts → IfSome o (λ x. IsFault (opens c.opening) c.faults (journals_of c) receipts (fault_of x))
wrong_if c receipts h some matched None is = tt
wrong_if c receipts h some matched (Some x) is = claimed_wrong c receipts x h some matched (sym is)
