-- Each instance has one receipt at most, and so there are at most 63,000.
use Rattle.std.proofs.Common.{◌≡◌, ◌≢◌, inl, inr, ℕ, suc, ◌+◌, ◌<◌, ◌≤◌, Bool, true, false, cond, eqb, List, [], ◌∷◌, ◌++◌, length, Option, Some, None, refl, sym, ap, subst, ◌∙◌, arith}
use Rattle.std.specs.Prelude.{is_some}
use Rattle.std.proofs.lemmas.Bool.{cases_eq, eqb-true, false≢true}
use Rattle.std.specs.List.{filter}
use Rattle.ep_base.specs.Deps.{most_deps}
use Rattle.ep_base.specs.Instances.{instance_of, leader_of, highest_number, IsInstance}
use Rattle.ep_base.specs.Places.{Has}
use Rattle.ep_base.specs.Quorums.{size}
use Rattle.ep_base.specs.declared.reply.Answer.{Answer}
use Rattle.ep_rules.specs.Audits.{IsAccepted}
use Rattle.ep_rules.specs.Journals.{Entry, Journals, IsEntry, AreSteps, AreLocalRuns, left}
use Rattle.ep_rules.specs.States.{State, fresh_state}
use Rattle.ep_rules.specs.Steps.{order_of}
use Rattle.ep_rules.specs.Verdicts.{Proposes}
use Rattle.ep_rules.specs.Worlds.{In}
use Rattle.ep_rules.specs.declared.receipt.Receipt.{Receipt}
use Rattle.ep_rules.proofs.FewInstances.{few_instances}
use Rattle.ep_rules.proofs.JournalsGrow.{left_grows, steps_grow}
use Rattle.ep_rules.proofs.Local.{free_found}
use Rattle.ep_rules.proofs.Merged.{in_journal, in_right}
use Rattle.ep_rules.proofs.OnceDone.{event_once, once_right, steps_once}
use Rattle.ep_rules.proofs.Places.{Once, once-append, once_filter, has_cons, has_filter, has_left, has_right, has_split}
use Rattle.ep_rules.proofs.Interleaved.{apart}
use Rattle.ep_replica.specs.Receipts.{own_proposal, proposal_of, receipt_of, receipts_for, receipts_of}
use Rattle.ep_replica.specs.declared.proposal.Proposal.{Proposal}
use Rattle.ep_replay.specs.Reported.{instances_of}
use Rattle.ep_rules.specs.OneMap.{Store}

-- Lists.

both_reported : (ts us : List Receipt) → instances_of (ts ++ us) ≡ instances_of ts ++ instances_of us
both_reported [] us = refl
both_reported (t ∷ ts) us = ap (λ is. t.instance ∷ is) (both_reported ts us)

-- The receipts of one entry.

-- the replica gives a receipt of the instance
abbrev gives : ℕ → List Entry → ℕ → Bool
gives me es i = is_some (own_proposal me es i)

one_reported : (me : ℕ) (e : Entry) (d : ℕ × Answer) (o : Option Proposal) (is : List ℕ) → instances_of (receipt_of me e d o) ++ is ≡ cond (is_some o) (d.0 ∷ is) is
one_reported me e d None is = refl
one_reported me e d (Some p) is = refl

these_reported : (me : ℕ) (es : List Entry) (e : Entry) (ds : List (ℕ × Answer)) → instances_of (receipts_for me es e ds) ≡ filter (gives me es) (order_of ds)
these_reported me es e [] = refl
these_reported me es e (d ∷ ds) =
    both_reported (receipt_of me e d (own_proposal me es d.0)) (receipts_for me es e ds)
    ∙ ap (λ is. instances_of (receipt_of me e d (own_proposal me es d.0)) ++ is) (these_reported me es e ds)
    ∙ one_reported me e d (own_proposal me es d.0) (filter (gives me es) (order_of ds))

its_own : (me : ℕ) (es : List Entry) (i : ℕ) → gives me es i ≡ true → leader_of i ≡ me
its_own me es i h = go (eqb (leader_of i) me) refl h
  where
    go : (b : Bool) → eqb (leader_of i) me ≡ b → is_some (cond b (proposal_of es i) None) ≡ true → leader_of i ≡ me
    go true e h = eqb-true (leader_of i) me e
    go false e h = absurd (false≢true h)

-- Each instance has one receipt at most, which its leader gave, and executed it.

abbrev executed_by : Store → ℕ → Journals → ℕ → List ℕ
executed_by base f journal r = (left f r (fresh_state base) (journal r)).executed

pub record Sole (base : Store) (f : ℕ) (journal : Journals) (ts : List Receipt) : Type 0 where
  pub steps : (r : ℕ) → AreSteps f r (fresh_state base) (journal r)
  pub done : (i : ℕ) → Has (instances_of ts) i → Has (executed_by base f journal (leader_of i)) i
  pub once : Once (instances_of ts)

pub none_sole : (base : Store) (f : ℕ) (journal : Journals) → ((r : ℕ) → journal r ≡ []) → Sole base f journal []
none_sole base f journal none = record { steps = λ r. subst (λ es. AreSteps f r (fresh_state base) es) (sym (none r)) tt; done = λ i h. absurd (omega arith); once = tt }

-- one entry more, with its receipts
module _ (base : Store) (f : ℕ) (old new : Journals) (ts : List Receipt) (r : ℕ) (e : Entry) (here : new r ≡ old r ++ (e ∷ [])) (other : (q : ℕ) → r ≢ q → new q ≡ old q) (step : IsEntry f r (left f r (fresh_state base) (old r)) e) (s : Sole base f old ts) where
  abbrev reported : List ℕ
  reported = instances_of (receipts_of r (new r) e)

  reported_is : reported ≡ filter (gives r (new r)) (order_of e.done)
  reported_is = these_reported r (new r) e e.done

  executes : executed_by base f new r ≡ executed_by base f old r ++ order_of e.done
  executes = ap (λ es. (left f r (fresh_state base) es).executed) here ∙ ap (λ (t : State). t.executed) (left_grows f r (fresh_state base) (old r) e)

  once_here : Once (executed_by base f old r ++ order_of e.done)
  once_here = event_once (left f r (fresh_state base) (old r)) e.event e.done step.step.executes (steps_once f r (fresh_state base) (old r) (s.steps r) tt)

  reported_here : (i : ℕ) → Has reported i → Has (order_of e.done) i × (leader_of i ≡ r)
  reported_here i h =
      let k = has_filter (gives r (new r)) (order_of e.done) i (subst (λ is. Has is i) reported_is h) in
      (k.0, its_own r (new r) i k.1)

  not_before : (i : ℕ) → Has (instances_of ts) i → ¬ Has reported i
  not_before i h k =
      let t = reported_here i k in
      apart (executed_by base f old r) (order_of e.done) i once_here (subst (λ q. Has (executed_by base f old q) i) t.1 (s.done i h)) t.0

  steps_after : (q : ℕ) → AreSteps f q (fresh_state base) (new q)
  steps_after q = elim (cases_eq r q) [
    | inl is ↦ subst (λ z. AreSteps f z (fresh_state base) (new z)) is (subst (λ es. AreSteps f r (fresh_state base) es) (sym here) (steps_grow f r (fresh_state base) (old r) e (s.steps r) step))
    | inr ne ↦ subst (λ es. AreSteps f q (fresh_state base) es) (sym (other q ne)) (s.steps q)
  ]

  still_done : (q i : ℕ) → Has (executed_by base f old q) i → Has (executed_by base f new q) i
  still_done q i h = elim (cases_eq r q) [
    | inl is ↦ subst (λ z. Has (executed_by base f new z) i) is (subst (λ l. Has l i) (sym executes) (has_left (executed_by base f old r) (order_of e.done) i (subst (λ z. Has (executed_by base f old z) i) (sym is) h)))
    | inr ne ↦ subst (λ es. Has (left f q (fresh_state base) es).executed i) (sym (other q ne)) h
  ]

  now_done : (i : ℕ) → Has reported i → Has (executed_by base f new (leader_of i)) i
  now_done i h =
      let t = reported_here i h in
      subst (λ q. Has (executed_by base f new q) i) (sym t.1) (subst (λ l. Has l i) (sym executes) (has_right (executed_by base f old r) (order_of e.done) i t.0))

  pub more_sole : Sole base f new (ts ++ receipts_of r (new r) e)
  more_sole = record {
    steps = steps_after;
    done = λ i h. elim (has_split (instances_of ts) reported i (subst (λ is. Has is i) (both_reported ts (receipts_of r (new r) e)) h)) [ inl k ↦ still_done (leader_of i) i (s.done i k) | inr k ↦ now_done i k ];
    once = subst Once (sym (both_reported ts (receipts_of r (new r) e)))
        (once-append (instances_of ts) reported s.once
        (subst Once (sym reported_is) (once_filter (gives r (new r)) (order_of e.done) (once_right (executed_by base f old r) (order_of e.done) once_here))) not_before);
  }

-- There are at most as many receipts as instances.

-- what the journals' replicas propose is an instance
proposed_instance : (base : Store) (f : ℕ) (journal : Journals) (i client request : ℕ) → f ≤ 3 → AreLocalRuns base f journal → Proposes base f (leader_of i) (journal (leader_of i)) i client request → IsInstance i
proposed_instance base f journal i client request small local p =
    let me : ℕ = leader_of i in
    let stands : In p.proposal (journal me) = subst (λ es. In p.proposal es) p.split (in_right p.proposal p.before (p.proposal ∷ p.rest) (inl refl)) in
    let low : me < size f = in_journal base f journal me p.proposal local stands in
    let number : p.number < highest_number = (free_found (left f me (fresh_state base) p.before).records me p.number p.free).0 in
    let is : instance_of me (p.number + 1) ≡ i = p.instance in
    (omega arith, omega arith, omega arith)

are_instances : (ts : List Receipt) → ((t : Receipt) → In t ts → IsInstance t.instance) → (i : ℕ) → Has (instances_of ts) i → IsInstance i
are_instances [] all i h = absurd (omega arith)
are_instances (t ∷ ts) all i h = elim (has_cons t.instance i (instances_of ts) h) [
  | inl is ↦ subst IsInstance is (all t (inl refl))
  | inr later ↦ are_instances ts (λ u k. all u (inr k)) i later
]

count_reported : (ts : List Receipt) → length (instances_of ts) ≡ length ts
count_reported [] = refl
count_reported (t ∷ ts) = ap suc (count_reported ts)

pub few_receipts : (base : Store) (f : ℕ) (journal : Journals) (ts : List Receipt) → f ≤ 3 → AreLocalRuns base f journal → IsAccepted base f journal ts → Once (instances_of ts) → length ts ≤ most_deps
few_receipts base f journal ts small local accepted once =
    let few = few_instances (instances_of ts) once (are_instances ts (λ t h. (let k = (accepted.agree t h).known in proposed_instance base f journal t.instance t.client t.request small local k.proposed))) in
    let count = count_reported ts in
    omega arith
