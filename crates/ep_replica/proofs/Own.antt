-- Each receipt that a replica gives is of what it proposed and executed itself.
use Rattle.std.proofs.Common.{◌≡◌, ℕ, zero, suc, ◌<◌, Bool, true, false, cond, eqb, Option, Some, None, List, [], ◌∷◌, drop, slice_get, inl, inr, refl, sym, ap, subst, ◌∙◌}
use Rattle.std.proofs.lemmas.Bool.{eqb-true}
use Rattle.ep_base.specs.Instances.{leader_of}
use Rattle.ep_base.specs.Messages.{instance_of_message}
use Rattle.ep_base.specs.declared.reply.Answer.{Answer}
use Rattle.ep_rules.specs.States.{fresh_state}
use Rattle.ep_rules.specs.Steps.{Frame, Event, Propose, Handle, GiveUp, Recover, Execute}
use Rattle.ep_rules.specs.Worlds.{In}
use Rattle.ep_rules.specs.Journals.{Entry, AreSteps}
use Rattle.ep_rules.specs.Verdicts.{Proposes, ReportsOf, IsOwn}
use Rattle.ep_rules.specs.declared.receipt.Receipt.{Receipt}
use Rattle.ep_rules.proofs.Merged.{in_split}
use Rattle.ep_rules.proofs.OneProposal.{proposals_report_lem}
use Rattle.ep_replica.specs.Receipts.{proposed_by, proposal_of, or_else, own_proposal, receipt_of, receipts_for, receipts_by, receipts_after}
use Rattle.ep_replica.specs.declared.proposal.Proposal.{Proposal}
use Rattle.ep_rules.specs.OneMap.{Store}

-- the entry proposes the instance for this request
pub record Proposer (e : Entry) (i : ℕ) (p : Proposal) : Type 0 where
  pub reports : ReportsOf e i p.client p.request
  pub same : reports.seen ≡ p.seen

proposer : (e : Entry) (i : ℕ) (p : Proposal) (event : Event) (out : List Frame) → e.event ≡ event → e.out ≡ out → proposed_by event out i ≡ Some p → Proposer e i p
proposer e i p (Propose client request c seen named) [] ev eo is = absurd (cc)
proposer e i p (Propose client request c seen named) (m ∷ ms) ev eo is = go (eqb (instance_of_message m.sent.message) i) refl is
  where
    here : Proposal
    here = record { client = client; request = request; seen = seen }

    go : (b : Bool) → eqb (instance_of_message m.sent.message) i ≡ b → cond b (Some here) None ≡ Some p → Proposer e i p
    go true test is =
        let same : here ≡ p = (cc) in
        subst (λ (q : Proposal). Proposer e i q) same (record {
          reports = record { command = c; seen = seen; spared = named; event = ev; frame = m; first = subst (λ (ms : List Frame). slice_get ms 0 ≡ Some m) (sym eo) refl; about = eqb-true (instance_of_message m.sent.message) i test };
          same = refl;
        })
    go false test is = absurd (cc)
proposer e i p (Handle m) out ev eo is = absurd (cc)
proposer e i p (GiveUp j) out ev eo is = absurd (cc)
proposer e i p (Recover j) out ev eo is = absurd (cc)
proposer e i p (Execute root) out ev eo is = absurd (cc)

proposer_in : (es : List Entry) (i : ℕ) (p : Proposal) → proposal_of es i ≡ Some p → (e : Entry) × In e es × Proposer e i p
proposer_in [] i p is = absurd (cc)
proposer_in (x ∷ es) i p is = go (proposal_of es i) refl is (λ q. proposer_in es i p q)
  where
    go : (o : Option Proposal) → proposal_of es i ≡ o → or_else o (proposed_by x.event x.out i) ≡ Some p → (proposal_of es i ≡ Some p → (e : Entry) × In e es × Proposer e i p) → (e : Entry) × In e (x ∷ es) × Proposer e i p
    go None eq is rest = (x, inl refl, proposer x i p x.event x.out refl refl is)
    go (Some q) eq is rest = let r = rest (eq ∙ is) in (r.0, inr r.1, r.2)

-- the receipt is of this execution by an entry of me, of its own proposal
pub record Of (me : ℕ) (es : List Entry) (e : Entry) (d : ℕ × Answer) (t : Receipt) : Type 0 where
  pub proposal : Proposal
  pub leads : leader_of d.0 ≡ me
  pub proposed : proposal_of es d.0 ≡ Some proposal
  pub is : record { client = proposal.client; request = proposal.request; instance = d.0; seen = proposal.seen; replica = me; entry = e.number; stamp = e.stamp; answer = d.1 } ≡ t

of_receipt : (me : ℕ) (es : List Entry) (e : Entry) (d : ℕ × Answer) (t : Receipt) → In t (receipt_of me e d (own_proposal me es d.0)) → Of me es e d t
of_receipt me es e d t h = go (eqb (leader_of d.0) me) refl (proposal_of es d.0) refl h
  where
    go : (b : Bool) → eqb (leader_of d.0) me ≡ b → (o : Option Proposal) → proposal_of es d.0 ≡ o → In t (receipt_of me e d (cond b o None)) → Of me es e d t
    go true test (Some p) eq (inl is) = record { proposal = p; leads = eqb-true (leader_of d.0) me test; proposed = eq; is = is }
    go true test (Some p) eq (inr h) = absurd h
    go true test None eq h = absurd h
    go false test o eq h = absurd h

done_of : (me : ℕ) (es : List Entry) (e : Entry) (ds : List (ℕ × Answer)) (t : Receipt) → In t (receipts_for me es e ds) → (d : ℕ × Answer) × In d ds × Of me es e d t
done_of me es e [] t h = absurd h
done_of me es e (d ∷ ds) t h = elim (in_split t (receipt_of me e d (own_proposal me es d.0)) (receipts_for me es e ds) h) [
  | inl here ↦ (d, inl refl, of_receipt me es e d t here)
  | inr later ↦ (let r = done_of me es e ds t later in (r.0, inr r.1, r.2))
]

entry_of_receipt : (me : ℕ) (es these : List Entry) (t : Receipt) → In t (receipts_by me es these) → (e : Entry) × (d : ℕ × Answer) × In e these × In d e.done × Of me es e d t
entry_of_receipt me es [] t h = absurd h
entry_of_receipt me es (x ∷ these) t h = elim (in_split t (receipts_for me es x x.done) (receipts_by me es these) h) [
  | inl here ↦ (let r = done_of me es x x.done t here in (x, r.0, inl refl, r.1, r.2))
  | inr later ↦ (let r = entry_of_receipt me es these t later in (r.0, r.1, inr r.2, r.3, r.4))
]

in_drop : (n : ℕ) (es : List Entry) (e : Entry) → In e (drop n es) → In e es
in_drop zero es e h = h
in_drop (suc n) [] e h = absurd h
in_drop (suc n) (x ∷ es) e h = inr (in_drop n es e h)

proposes : (base : Store) (f me : ℕ) (es : List Entry) (i : ℕ) (p : Proposal) → 0 < f → AreSteps f me (fresh_state base) es → proposal_of es i ≡ Some p → (q : Proposes base f me es i p.client p.request) × (q.seen ≡ p.seen)
proposes base f me es i p some steps is =
    let r = proposer_in es i p is in
    let q = (proposals_report_lem base f me es some steps i p.client p.request).1 r.0 r.1 r.2.reports in
    let same : Propose p.client p.request q.0.command q.0.seen q.0.spared ≡ Propose p.client p.request r.2.reports.command r.2.reports.seen r.2.reports.spared = sym q.0.event ∙ ap (λ (e : Entry). e.event) q.1 ∙ r.2.reports.event in
    (q.0, (cc) ∙ r.2.same)

pub receipts_are_own : (base : Store) (f me n : ℕ) (es : List Entry) → 0 < f → AreSteps f me (fresh_state base) es → (t : Receipt) → In t (receipts_after me n es) → IsOwn base f me es t
receipts_are_own base f me n es some steps t h =
    let r = entry_of_receipt me es (drop n es) t h in
    let o = r.4 in
    let q = proposes base f me es r.1.0 o.proposal some steps o.proposed in
    subst (λ (t : Receipt). IsOwn base f me es t) o.is (record {
      replica = refl;
      leader = o.leads;
      proposed = q.0;
      seen = q.1;
      executed = record { entry = r.0; stands = in_drop n es r.0 r.2; is_number = refl; is_stamp = refl; done = r.3 };
    })
