-- A replica proposes one command at most as an instance, by the entry whose first frame is about it.
use Rattle.std.proofs.Common.{◌≡◌, ℕ, ◌+◌, Bool, true, false, cond, leb, inl, inr, Option, Some, None, Result, Ok, Err, List, [], ◌∷◌, ◌++◌, refl, sym, ap, subst, ◌∙◌}
use Rattle.std.proofs.lemmas.Bool.{cases_eq}
use Rattle.std.proofs.lemmas.Option.{same_Some}
use Rattle.ep_base.specs.Instances.{instance_of, leader_of, highest_number}
use Rattle.ep_base.specs.Quorums.{spared, is_fast}
use Rattle.ep_base.specs.declared.attrs.Attrs.{Attrs}
use Rattle.ep_base.specs.Commands.{Command}
use Rattle.ep_base.specs.declared.decree.Decree.{Decree}
use Rattle.ep_base.specs.declared.reply.Answer.{Answer}
use Rattle.ep_rules.specs.Cells.{Change, Refusal, SeqExhausted}
use Rattle.ep_rules.specs.InterferenceSet.{interference}
use Rattle.ep_rules.specs.Maps.{Map, get}
use Rattle.ep_rules.specs.Phases.{first_phase}
use Rattle.ep_rules.specs.States.{State, fresh_state, with_entry, is_free, free_number}
use Rattle.ep_rules.specs.Steps.{Event, Propose, acts, at, proposed, changed_by, leaves, IsTaken}
use Rattle.ep_rules.specs.Worlds.{In}
use Rattle.ep_rules.specs.Journals.{Entry, IsEntry, AreSteps, left}
use Rattle.ep_rules.specs.Verdicts.{Proposes}
use Rattle.ep_rules.specs.Merging.{Takes, OneProposal, ProposalsReport}
use Rattle.ep_rules.specs.declared.record.Record.{Record}
use Rattle.ep_rules.proofs.Lookups.{insert_same, insert_other}
use Rattle.ep_rules.proofs.Merged.{at_in}
use Rattle.ep_rules.proofs.Named.{proposals_name_lem}
use Rattle.ep_rules.proofs.JournalsCommitted.{none_some}
use Rattle.ep_rules.proofs.Counting.{least_some}
use Rattle.ep_rules.proofs.JournalsKeep.{left_parts}
use Rattle.ep_rules.proofs.Local.{none_of}
use Rattle.ep_rules.specs.OneMap.{Store}

-- what a proposal takes is free
pub was_free : (base : Store) → (f me : ℕ) (es : List Entry) (i client request : ℕ) (p : Proposes base f me es i client request) → get (left f me (fresh_state base) p.before).records i ≡ None
unfolding free_number
was_free base f me es i client request p =
    subst (λ j. get (left f me (fresh_state base) p.before).records j ≡ None) p.instance
    (none_of (get (left f me (fresh_state base) p.before).records (instance_of me (p.number + 1))) (least_some highest_number (is_free (left f me (fresh_state base) p.before).records me) p.number p.free).1)

-- Lists in two parts.

pub record Parts (e : Entry) (es : List Entry) : Type 0 where
  pub before : List Entry
  pub rest : List Entry
  pub split : before ++ (e ∷ rest) ≡ es

pub parts : (e : Entry) (es : List Entry) → In e es → Parts e es
parts e [] h = absurd h
parts e (x ∷ es) (inl is) = record { before = []; rest = es; split = ap (λ z. z ∷ es) (sym is) }
parts e (x ∷ es) (inr h) = let t = parts e es h in record { before = x ∷ t.before; rest = t.rest; split = ap (λ z. x ∷ z) t.split }

-- the entry there is a step from the state that those before leave
pub step_at : (f me : ℕ) (s : State) (before : List Entry) (e : Entry) (rest : List Entry) → AreSteps f me s (before ++ (e ∷ rest)) → IsEntry f me (left f me s before) e
step_at f me s [] e rest h = h.0
step_at f me s (x ∷ before) e rest h = step_at f me (leaves f me s x.event x.done) before e rest h.1

heads : {X : Type 0} (x y : X) (xs ys : List X) → x ∷ xs ≡ y ∷ ys → x ≡ y
heads x y xs ys e = cc

tails : {X : Type 0} (x y : X) (xs ys : List X) → x ∷ xs ≡ y ∷ ys → xs ≡ ys
tails x y xs ys e = cc

-- of two places in a list one is the other, or stands after it
pub data Placed {X : Type 0} (a : List X) (x : X) (b : List X) (y : X) : Type 0 where
  same : a ≡ b → x ≡ y → Placed a x b y
  after : (more : List X) → b ≡ a ++ (x ∷ more) → Placed a x b y
  before : (more : List X) → a ≡ b ++ (y ∷ more) → Placed a x b y

placed_next : {X : Type 0} (z : X) (a : List X) (x : X) (b : List X) (y : X) → Placed a x b y → Placed (z ∷ a) x (z ∷ b) y
placed_next z a x b y (same d e) = same (ap (λ l. z ∷ l) d) e
placed_next z a x b y (after more e) = after more (ap (λ l. z ∷ l) e)
placed_next z a x b y (before more e) = before more (ap (λ l. z ∷ l) e)

pub placed : {X : Type 0} (a : List X) (x : X) (xs b : List X) (y : X) (ys : List X) → a ++ (x ∷ xs) ≡ b ++ (y ∷ ys) → Placed a x b y
placed [] x xs [] y ys e = same refl (heads x y xs ys e)
placed [] x xs (w ∷ b) y ys e = after b (ap (λ z. z ∷ b) (sym (heads x w xs (b ++ (y ∷ ys)) e)))
placed (z ∷ a) x xs [] y ys e = before a (ap (λ w. w ∷ a) (heads z y (a ++ (x ∷ xs)) ys e))
placed (z ∷ a) x xs (w ∷ b) y ys e =
    let is : z ≡ w = heads z w (a ++ (x ∷ xs)) (b ++ (y ∷ ys)) e in
    subst (λ v. Placed (z ∷ a) x (v ∷ b) y) is (placed_next z a x b y (placed a x xs b y ys (tails z w (a ++ (x ∷ xs)) (b ++ (y ∷ ys)) e)))

-- Records stay.

abbrev pub HasRecord : State → ℕ → Type 0
HasRecord s i = (r : Record) × (get s.records i ≡ Some r)

entry_kept : (m : Map Record) (j : ℕ) (o : Option Record) (i : ℕ) (r : Record) → get m i ≡ Some r → (q : Record) × (get (with_entry m j o) i ≡ Some q)
entry_kept m j None i r e = (r, e)
entry_kept m j (Some x) i r e = elim (cases_eq i j) [
  | inl is ↦ (x, subst (λ k. get (with_entry m j (Some x)) k ≡ Some x) (sym is) (insert_same m j x))
  | inr ne ↦ (r, insert_other m j x i ne ∙ e)
]

changed_keeps : (s : State) (o : Result (ℕ × Change) Refusal) (i : ℕ) → HasRecord s i → HasRecord (changed_by s o) i
changed_keeps s (Ok p) i h = entry_kept s.records p.0 p.1.entry i h.0 h.1
changed_keeps s (Err e) i h = h

pub leaves_keeps : (f me : ℕ) (s : State) (e : Event) (done : List (ℕ × Answer)) (i : ℕ) → HasRecord s i → HasRecord (leaves f me s e done) i
leaves_keeps f me s e done i h = let t = changed_keeps s (acts f me s e) i h in (t.0, t.1)

pub record_stays : (f me : ℕ) (s : State) (es : List Entry) (i : ℕ) → HasRecord s i → HasRecord (left f me s es) i
record_stays f me s [] i h = h
record_stays f me s (e ∷ es) i h = record_stays f me (leaves f me s e.event e.done) es i (leaves_keeps f me s e.event e.done i h)

-- a proposal leaves a record of its instance
limited_record : (s : State) (i : ℕ) (ch : Change) (r : Record) (b : Bool) → ch.entry ≡ Some r → IsTaken (at i (cond b (Ok ch) (Err SeqExhausted))) → HasRecord (changed_by s (at i (cond b (Ok ch) (Err SeqExhausted)))) i
limited_record s i ch r true e h = (r, ap (λ o. get (with_entry s.records i o) i) e ∙ insert_same s.records i r)
limited_record s i ch r false e h = absurd h

proposed_record : (f me q : ℕ) (s : State) (c : Command) (n : ℕ) → IsTaken (proposed f me q s c (Some n)) → HasRecord (changed_by s (proposed f me q s c (Some n))) (instance_of me (n + 1))
proposed_record f me q s c n h =
    let i : ℕ = instance_of me (n + 1) in
    let own : Attrs = interference s.records i c in
    let x : Decree = record { command = c; attrs = own } in
    limited_record s i (first_phase (is_fast (leader_of i) q) f i (leader_of i) q x) _ (leb own.seq 1000000) refl h

pub taken_record : (f me : ℕ) (s : State) (e : Event) (done : List (ℕ × Answer)) (c : Command) (client request seen n : ℕ) (named : Option ℕ) → e ≡ Propose client request c seen named → free_number s.records me ≡ Some n → IsTaken (acts f me s e) →
    HasRecord (leaves f me s e done) (instance_of me (n + 1))
taken_record f me s e done c client request seen n named is free h =
    let q : ℕ = spared f me named in
    let whole : acts f me s e ≡ proposed f me q s c (Some n) = ap (λ v. acts f me s v) is ∙ ap (λ o. proposed f me q s c o) free in
    let t = subst (λ o. HasRecord (changed_by s o) (instance_of me (n + 1))) (sym whole) (proposed_record f me q s c n (subst IsTaken whole h)) in
    (t.0, t.1)

module _ (base : Store) (f me : ℕ) (es : List Entry) (steps : AreSteps f me (fresh_state base) es) (i : ℕ) where
  at_proposal : (client request : ℕ) (p : Proposes base f me es i client request) → IsEntry f me (left f me (fresh_state base) p.before) p.proposal
  at_proposal client request p = step_at f me (fresh_state base) p.before p.proposal p.rest (subst (AreSteps f me (fresh_state base)) (sym p.split) steps)

  -- no instance is proposed once more
  never_again : (client request other_client other_request : ℕ) (p : Proposes base f me es i client request) (q : Proposes base f me es i other_client other_request) (more : List Entry) → q.before ≡ p.before ++ (p.proposal ∷ more) → ⊥
  never_again client request other_client other_request p q more is =
      let s : State = left f me (fresh_state base) p.before in
      let there : HasRecord (leaves f me s p.proposal.event p.proposal.done) i =
      subst (λ j. HasRecord (leaves f me s p.proposal.event p.proposal.done) j) p.instance (taken_record f me s p.proposal.event p.proposal.done p.command client request p.seen p.number p.spared p.event p.free (at_proposal client request p).step.taken) in
      let still = record_stays f me (leaves f me s p.proposal.event p.proposal.done) more i there in
      let same : left f me (fresh_state base) q.before ≡ left f me (leaves f me s p.proposal.event p.proposal.done) more = ap (λ l. left f me (fresh_state base) l) is ∙ left_parts f me (fresh_state base) p.before (p.proposal ∷ more) in
      none_some still.0 (sym (was_free base f me es i other_client other_request q) ∙ ap (λ (z : State). get z.records i) same ∙ still.1)

pub one_proposal_lem : OneProposal
one_proposal_lem base f me es steps i client request other_client other_request p q =
    elim (placed p.before p.proposal p.rest q.before q.proposal q.rest (p.split ∙ sym q.split)) [
      | same d e ↦ e
      | after more e ↦ absurd (never_again base f me es steps i client request other_client other_request p q more e)
      | before more e ↦ absurd (never_again base f me es steps i other_client other_request client request q p more e)
    ]

pub proposals_report_lem : ProposalsReport
proposals_report_lem base f me es some steps i client request = (
  (λ p.
      let t : Takes me (left f me (fresh_state base) p.before) p.proposal = proposals_name_lem f me (left f me (fresh_state base) p.before) p.proposal client request p.seen p.spared p.command some p.event (at_proposal base f me es steps i client request p) in
      let is : t.number ≡ p.number = same_Some t.number p.number (sym t.free ∙ p.free) in
      record {
        command = p.command;
        seen = p.seen;
        spared = p.spared;
        event = p.event;
        frame = t.frame;
        first = t.first;
        about = t.about t.frame (at_in p.proposal.out 0 t.frame t.first) ∙ ap (λ n. instance_of me (n + 1)) is ∙ p.instance;
      }),
  (λ e h reports.
      let at : Parts e es = parts e es h in
      let mine : IsEntry f me (left f me (fresh_state base) at.before) e = step_at f me (fresh_state base) at.before e at.rest (subst (AreSteps f me (fresh_state base)) (sym at.split) steps) in
      let t : Takes me (left f me (fresh_state base) at.before) e = proposals_name_lem f me (left f me (fresh_state base) at.before) e client request reports.seen reports.spared reports.command some reports.event mine in (
        record {
          before = at.before;
          proposal = e;
          rest = at.rest;
          split = at.split;
          command = reports.command;
          seen = reports.seen;
          spared = reports.spared;
          event = reports.event;
          number = t.number;
          free = t.free;
          instance = sym (t.about reports.frame (at_in e.out 0 reports.frame reports.first)) ∙ reports.about;
        },
        refl,
      )),
)
