-- What a leader's choice keeps: the answers of f+1 replicas allow what explicit prepare chooses.
use Rattle.std.proofs.Common.{List, ◌≡◌, ℕ, zero, suc, ◌+◌, ◌<◌, ◌≤◌, Bool, true, false, ◌&&◌, not, eqb, ◌≢◌, ◌⊎◌, inl, inr, Option, Some, None, is_some, refl, sym, ap, subst, ◌∙◌, arith}
use Rattle.std.proofs.lemmas.Bool.{and_left, or_cases, and_parts, and_from, eqb-true, eq-eqb, ne_eqb, leb-true, le-leb, false≢true, false_from_ne_true, cases_order}
use Rattle.ep_base.proofs.Same.{Decides-same_decree}
use Rattle.ep_base.specs.Quorums.{size, is_fast}
use Rattle.ep_base.specs.Sameness.{is_noop}
use Rattle.ep_base.specs.Commands.{Command, Noop}
use Rattle.ep_base.specs.declared.decree.Decree.{Decree}
use Rattle.ep_base.specs.declared.vote.VoteStatus.{VoteStatus}
use Rattle.ep_base.specs.declared.vote.VoteStatus.TheVariants.{PreAccepted, Accepted, Committed}
use Rattle.ep_base.specs.declared.vote.Vote.{Vote}
use Rattle.ep_rules.specs.Cells.{is_preaccept, is_accept, is_commit, is_committed}
use Rattle.ep_rules.specs.Counting.{count, least, is_other}
use Rattle.ep_rules.specs.Phases.{holds}
use Rattle.ep_rules.specs.Recovery.{Choice, CommitIt, AcceptIt, AcceptFast, ProposeIt, ProposeNoop, answered_ballot, top_ballot, votes, did_commit, did_accept_at, did_preaccept_at, did_preaccept_this, is_backed, is_fast_witness, with_vote_of, choose_at, choose}
use Rattle.ep_rules.proofs.Attributes.{within}
use Rattle.ep_rules.proofs.Counting.{count_more, count_le, meet, count_without, count_some, least_some, least_none}
use Rattle.ep_rules.proofs.Facts.{Backed, Quiet, Seen, sees, can_see, CanSee, History, can_accept, CanChoose, Member, CanBeFast, Safe, Free, Decided, IsValid, PreVote, AcceptVote, IsCast, IsLast, ballot_at, PromisedReport, HistoryOk}
use Rattle.ep_rules.proofs.Stable.{some_of}

-- Votes and answers.

pub status_preaccepted : (s : VoteStatus) → is_preaccept s ≡ true → s ≡ PreAccepted
status_preaccepted PreAccepted e = refl
status_preaccepted Accepted e = absurd (cc)
status_preaccepted Committed e = absurd (cc)

pub status_accepted : (s : VoteStatus) → is_accept s ≡ true → s ≡ Accepted
status_accepted PreAccepted e = absurd (cc)
status_accepted Accepted e = refl
status_accepted Committed e = absurd (cc)

pub status_committed : (s : VoteStatus) → is_commit s ≡ true → s ≡ Committed
status_committed PreAccepted e = absurd (cc)
status_committed Accepted e = absurd (cc)
status_committed Committed e = refl

voteless : (s : VoteStatus) → is_commit s ≡ false → is_accept s ≡ false → is_preaccept s ≡ false → ⊥
voteless PreAccepted u a p = absurd (cc)
voteless Accepted u a p = absurd (cc)
voteless Committed u a p = absurd (cc)

pub not_both : {X : Type 0} {o : Option X} {x : X} → o ≡ Some x → o ≡ None → ⊥
not_both p q = cc

abbrev is_accepted : Option Vote → Bool
is_accepted None = false
is_accepted (Some v) = is_accept v.status

abbrev is_preaccepted : Option Vote → Bool
is_preaccepted None = false
is_preaccepted (Some v) = is_preaccept v.status

votes_some : (p : Vote → Bool) (o : Option (Option Vote)) → votes p o ≡ true → (v : Vote) × (o ≡ Some (Some v)) × (p v ≡ true)
votes_some p None e = absurd (cc)
votes_some p (Some None) e = absurd (cc)
votes_some p (Some (Some v)) e = (v, refl, e)

-- where no answer passes
unpassed : (p : Vote → Bool) (v : Vote) (o : Option (Option Vote)) → votes p o ≡ false → o ≡ Some (Some v) → p v ≡ false
unpassed p v o e is = sym (ap (votes p) is) ∙ e

-- The greatest ballot.

top_bounds : (l n : ℕ) (answer : ℕ → Option (Option Vote)) (k : ℕ) (v : Option Vote) → k < n → answer k ≡ Some v → answered_ballot l (Some v) ≤ top_ballot l n answer
top_bounds l zero answer k v lt e = absurd (omega arith)
top_bounds l (suc n) answer k v lt e =
    elim (cases_order k n) [
      | inl i ↦ (let q : answered_ballot l (answer n) ≡ answered_ballot l (Some v) = ap (λ j. answered_ballot l (answer j)) (sym i) ∙ ap (answered_ballot l) e in omega arith)
      | inr (inl m) ↦ (let ih = top_bounds l n answer k v m e in omega arith)
      | inr (inr g) ↦ absurd (omega arith)
    ]

-- some answer voted at the greatest ballot
abbrev Attained : ℕ → ℕ → (ℕ → Option (Option Vote)) → Type 0
Attained l n answer = (k : ℕ) × (v : Option Vote) × (k < n) × (answer k ≡ Some v) × (answered_ballot l (Some v) ≡ top_ballot l n answer)

attained_up : (l n : ℕ) (answer : ℕ → Option (Option Vote)) → answered_ballot l (answer n) ≤ top_ballot l n answer → Attained l n answer → Attained l (suc n) answer
attained_up l n answer le t = (t.0, t.1, omega (arith, t.2), t.3, (let e = t.4 in omega arith))

attained_here : (l n : ℕ) (answer : ℕ → Option (Option Vote)) (o : Option (Option Vote)) → answer n ≡ o → top_ballot l n answer < answered_ballot l o → Attained l (suc n) answer
attained_here l n answer None e lt = absurd (omega arith)
attained_here l n answer (Some v) e lt = (n, v, omega arith, e, (let q : answered_ballot l (answer n) ≡ answered_ballot l (Some v) = ap (answered_ballot l) e in omega arith))

attained_or_zero : (l n : ℕ) (answer : ℕ → Option (Option Vote)) → Attained l n answer ⊎ (top_ballot l n answer ≡ 0)
attained_or_zero l zero answer = inr refl
attained_or_zero l (suc n) answer =
    elim (cases_order (answered_ballot l (answer n)) (top_ballot l n answer)) [
      | inl e ↦ (elim (attained_or_zero l n answer) [ inl t ↦ inl (attained_up l n answer (omega arith) t) | inr z ↦ inr (omega arith) ])
      | inr (inl e) ↦ (elim (attained_or_zero l n answer) [ inl t ↦ inl (attained_up l n answer (omega arith) t) | inr z ↦ inr (omega arith) ])
      | inr (inr g) ↦ inl (attained_here l n answer (answer n) refl g)
    ]

-- What must hold of a choice at ballot b.

abbrev pub MayAccept : (f l : ℕ) → History → ℕ → Decree → Type 0
MayAccept f l h b x = Safe f l h b x × IsValid f l h x.command × (is_noop x.command ≡ false → Backed f l h x) × (is_noop x.command ≡ true → Quiet f l h b)

abbrev pub MayPropose : (f l : ℕ) → History → ℕ → Command → Type 0
MayPropose f l h b c = Free f l h b × IsValid f l h c × (is_noop c ≡ true → Quiet f l h b)

abbrev pub ChoiceOk : (f l : ℕ) → History → ℕ → Choice → Type 0
ChoiceOk f l h b (CommitIt x) = Decided f l h x
ChoiceOk f l h b (AcceptIt x) = MayAccept f l h b x
ChoiceOk f l h b (AcceptFast x) = MayAccept f l h b x
ChoiceOk f l h b (ProposeIt c) = MayPropose f l h b c
ChoiceOk f l h b ProposeNoop = MayPropose f l h b Noop

module _ (f l : ℕ) (two : 0 < f) (h : History) (ok : HistoryOk f l h) (b : ℕ) (answer : ℕ → Option (Option Vote))
    (each : (k : ℕ) (v : Option Vote) → answer k ≡ Some v → PromisedReport f l h k b v)
    (enough : f + 1 ≤ count (size f) (λ r. is_some (answer r))) where
  abbrev top : ℕ
  top = top_ballot l (size f) answer

  abbrev Heard : ℕ → Type 0
  Heard c = (k : ℕ) × (v : Option Vote) × (k < size f) × (answer k ≡ Some v) × (h.accepted k c ≡ true)

  -- what can be chosen at c shows in an answer
  heard : (c : ℕ) → c < b → CanChoose f l h c → Heard c
  heard c lt can =
      let t = meet (size f) (λ r. is_some (answer r)) (can_accept f l h c) (omega arith) in
      let s = some_of (answer t.0) t.2 in
      (t.0, s.0, t.1, s.1, elim (or_cases _ _ t.3) [ inl a ↦ a | inr p ↦ absurd (let q = leb-true _ _ p in let m = (each t.0 s.0 s.1).promised in omega arith) ])

  not_above : (c : ℕ) → top < c → c < b → CanChoose f l h c → ⊥
  not_above c above lt can =
      let t = heard c lt can in
      let low = top_bounds l (size f) answer t.0 t.1 t.2 t.3 in
      let gap = (each t.0 t.1 t.3).reported.gap c (omega arith) lt in
      false≢true (sym gap ∙ t.4)

  abbrev HeardSeen : ℕ → Type 0
  HeardSeen c = (k : ℕ) × (v : Option Vote) × (k < size f) × (answer k ≡ Some v) × (d : List ℕ) × (h.seen k c ≡ Some d)

  heard_seen : (c : ℕ) → c < b → CanSee f l h c → HeardSeen c
  heard_seen c lt can =
      let t = meet (size f) (λ r. is_some (answer r)) (can_see f l h c) (omega arith) in
      let s = some_of (answer t.0) t.2 in
      let d = some_of (h.seen t.0 c) (elim (or_cases _ _ t.3) [ inl a ↦ a | inr p ↦ absurd (let q = leb-true _ _ p in let m = (each t.0 s.0 s.1).promised in omega arith) ]) in
      (t.0, s.0, t.1, s.1, d.0, d.1)

  not_seen_above : (c : ℕ) → top < c → c < b → CanSee f l h c → ⊥
  not_seen_above c above lt can =
      let t = heard_seen c lt can in
      let low = top_bounds l (size f) answer t.0 t.1 t.2 t.3 in
      let blank = (each t.0 t.1 t.3).reported.blank c (omega arith) lt in
      not_both t.5 blank

  -- quiet up to b: quiet below the top, and nothing seen at it
  quiet_by : ((c : ℕ) → l ≤ c → c < top → CanSee f l h c → ⊥) → ((k : ℕ) (d : List ℕ) → h.seen k top ≡ Some d → (v : Option Vote) → k < size f → answer k ≡ Some v → ⊥) → Quiet f l h b
  quiet_by under at = record {
    below = λ c low lt can. elim (cases_order c top) [
      | inl i ↦ (let t = heard_seen c lt can in at t.0 t.4 (ap (h.seen t.0) (sym i) ∙ t.5) t.1 t.2 t.3)
      | inr (inl less) ↦ under c low less can
      | inr (inr more) ↦ not_seen_above c more lt can
    ];
  }

  -- no answer is a commit, and none of those at the top an accept
  abbrev NoCommit : Type 0
  NoCommit = (k : ℕ) (v : Option Vote) → k < size f → answer k ≡ Some v → is_committed v ≡ false

  abbrev NoAccept : Type 0
  NoAccept = (k : ℕ) (v : Option Vote) → k < size f → answer k ≡ Some v → ballot_at f l v ≡ top → is_accepted v ≡ false

  unaccepted_cast : (k : ℕ) (s : VoteStatus) (c : ℕ) (x : Decree) → IsCast f l h k s c x → is_commit s ≡ false → is_accept s ≡ false → h.accepted k c ≡ false
  unaccepted_cast k PreAccepted c x v u a = v.unaccepted
  unaccepted_cast k Accepted c x v u a = absurd (cc)
  unaccepted_cast k Committed c x v u a = absurd (cc)

  unaccepted_last : (k : ℕ) (v : Option Vote) → IsLast f l h k v → is_committed v ≡ false → is_accepted v ≡ false → h.accepted k (ballot_at f l v) ≡ false
  unaccepted_last k None n u a = n.unaccepted
  unaccepted_last k (Some v) p u a = unaccepted_cast k v.status v.ballot v.decree p u a

  not_at_top : NoCommit → NoAccept → (c : ℕ) → c ≡ top → c < b → CanChoose f l h c → ⊥
  not_at_top nc na c is lt can =
      let t = heard c lt can in
      let low = top_bounds l (size f) answer t.0 t.1 t.2 t.3 in
      let reported = (each t.0 t.1 t.3).reported in
      elim (cases_order (ballot_at f l t.1) c) [
        | inl e ↦ (
            let u = unaccepted_last t.0 t.1 reported.cast (nc t.0 t.1 t.2 t.3) (na t.0 t.1 t.2 t.3 (e ∙ is)) in
            let i = ap (h.accepted t.0) e in
            false≢true (sym u ∙ i ∙ t.4))
        | inr (inl below) ↦ false≢true (sym (reported.gap c below lt) ∙ t.4)
        | inr (inr above) ↦ absurd (omega arith)
      ]

  -- an accept at the top
  accept_safe : (k : ℕ) (v : Vote) → answer k ≡ Some (Some v) → is_accept v.status ≡ true → v.ballot ≡ top → MayAccept f l h b v.decree
  accept_safe k v e a at =
      let cast : AcceptVote f l h k v.ballot v.decree = subst (λ s. IsCast f l h k s v.ballot v.decree) (status_accepted v.status a) (each k (Some v) e).reported.cast in
      let s = ok.safe v.ballot v.decree cast.chosen in (
        record {
          below = λ c low lt can. elim (cases_order c top) [
            | inl i ↦ (ap h.chosen (i ∙ sym at) ∙ cast.chosen)
            | inr (inl less) ↦ s.below c low (omega arith) can
            | inr (inr more) ↦ absurd (not_above c more lt can)
          ];
          quick = s.quick;
        },
        ok.valid v.ballot v.decree cast.chosen,
        ok.backed v.ballot v.decree cast.chosen,
        (λ noop. quiet_by
            (λ c low lt can. (ok.hushed v.ballot v.decree cast.chosen noop).below c low (omega arith) can)
            (λ j d is w lt o.
            let t = ok.seen_asked j top d is in
            let same = ok.agreed v.ballot v.decree t.0 cast.chosen (ap h.asked at ∙ t.1) in
            false≢true (sym t.2 ∙ ap is_noop (sym same) ∙ noop))),
      )

  pre_cast : (k : ℕ) (v : Vote) → answer k ≡ Some (Some v) → is_preaccept v.status ≡ true → PreVote f l h k v.ballot v.decree
  pre_cast k v e p = subst (λ s. IsCast f l h k s v.ballot v.decree) (status_preaccepted v.status p) (each k (Some v) e).reported.cast

  abbrev votes_for : Decree → ℕ → Bool
  votes_for y r = is_other l r && votes (did_preaccept_this l y) (answer r)

  sees_at : (x : Decree) (k : ℕ) → Seen f l h k l x.attrs.deps → sees f l h l x.attrs.deps k ≡ true
  sees_at x k s = subst (λ o. holds (within x.attrs.deps) o ≡ true) (sym s.is) s.inside

  vote_sees : (x : Decree) (k : ℕ) → votes_for x k ≡ true → sees f l h l x.attrs.deps k ≡ true
  vote_sees x k e =
      let t = and_parts _ _ e in
      let s = votes_some (did_preaccept_this l x) (answer k) t.1 in
      let p = and_parts _ _ s.2 in
      let q = and_parts _ _ p.0 in
      let same : (s.0).decree ≡ x = (Decides-same_decree (s.0).decree x).0 p.1 in
      let cast = pre_cast k s.0 s.1 q.0 in
      let early = cast.early (eqb-true _ _ q.1) (λ i. false≢true (sym (ap not (eq-eqb k l i)) ∙ t.0)) in
      sees_at x k (ok.early_seen k x (early ∙ ap (λ v. Some v) same))

  -- the leader and f others
  many_backed : (x : Decree) → l < size f → is_backed f l answer x ≡ true → Seen f l h l l x.attrs.deps → Backed f l h x
  many_backed x small many origin =
      let le : count (size f) (votes_for x) + 1 ≤ count (size f) (sees f l h l x.attrs.deps) = count_more (size f) l (votes_for x) (sees f l h l x.attrs.deps) small
      (and_left _ _ (ap not (eq-eqb l l refl))) (sees_at x l origin) (λ k lt e. vote_sees x k e) in
      let m : f ≤ count (size f) (votes_for x) = leb-true _ _ many in
      record { ballot = l; from_default = (omega arith); many = (omega arith) }

  -- who voted at the default ballot is of the fast quorum, which is one set
  same_quorum : (y : Decree) (can : CanBeFast f l h y) → (k : ℕ) → Member f l h k → is_fast l can.spared k ≡ true
  same_quorum y can k m = elim can.named [
    | inl e ↦ (let i : Some m.spared ≡ Some can.spared = sym m.named ∙ e in let s : m.spared ≡ can.spared = cc in subst (λ n. is_fast l n k ≡ true) s m.asked)
    | inr n ↦ absurd (not_both m.named n)
  ]

  -- f equal votes at the default ballot
  witness_safe : NoCommit → NoAccept → top ≡ l → (k : ℕ) (v : Vote) → k < size f → answer k ≡ Some (Some v) → k ≢ l → is_preaccept v.status ≡ true → v.ballot ≡ l → l < size f → is_backed f l answer v.decree ≡ true → MayAccept f l h b v.decree
  witness_safe nc na is k v lt e ne p at small many =
      let cast = pre_cast k v e p in
      let early = cast.early at ne in
      let member = ok.early_fast k v.decree early in
      let r = each k (Some v) e in (
        record {
          below = λ c low less can. elim (cases_order c top) [
            | inl i ↦ absurd (not_at_top nc na c i less can)
            | inr (inl under) ↦ absurd (omega arith)
            | inr (inr more) ↦ absurd (not_above c more less can)
          ];
          quick = λ y can. elim (can.members k lt (same_quorum y can k member)) [
            | inl o ↦ (let i : Some y ≡ Some v.decree = sym o ∙ early in cc)
            | inr o ↦ absurd (let m = r.promised in let n = r.before in omega arith)
          ];
        },
        cast.valid,
        (λ real. many_backed v.decree small many (ok.early_origin k v.decree early)),
        (λ noop. absurd (false≢true (sym (ok.proposed_real v.decree.command (cast.proposed at)) ∙ noop))),
      )

  -- neither a commit nor an accept nor f equal votes
  abbrev NoWitness : Type 0
  NoWitness = (k : ℕ) → k < size f → (eqb top l && is_fast_witness f l answer k) ≡ false

  some_answer : Attained l (size f) answer
  some_answer =
      let t = count_some (size f) (λ r. is_some (answer r)) (omega arith) in
      let s = some_of (answer t.0) t.2 in
      elim (attained_or_zero l (size f) answer) [
        | inl a ↦ a
        | inr z ↦ (let u = top_bounds l (size f) answer t.0 s.0 t.1 s.1 in (t.0, s.0, t.1, s.1, omega arith))
      ]

  low_top : l ≤ top
  low_top = let t = some_answer in let low = (each t.0 t.1 t.3).reported.low in let at = t.4 in omega arith

  free_cast : (k : ℕ) (s : VoteStatus) (c : ℕ) (x : Decree) → IsCast f l h k s c x → l < c → is_commit s ≡ false → is_accept s ≡ false → Free f l h c
  free_cast k PreAccepted c x v lt u a = v.free lt
  free_cast k Accepted c x v lt u a = absurd (cc)
  free_cast k Committed c x v lt u a = absurd (cc)

  free_last : (k : ℕ) (v : Option Vote) → IsLast f l h k v → l < ballot_at f l v → is_committed v ≡ false → is_accepted v ≡ false → Free f l h (ballot_at f l v)
  free_last k None n lt u a = absurd (omega arith)
  free_last k (Some v) p lt u a = free_cast k v.status v.ballot v.decree p lt u a

  free_top : NoCommit → NoAccept → l < top → Free f l h top
  free_top nc na lt =
      let t = some_answer in
      let at = t.4 in
      subst (λ c. Free f l h c) t.4 (free_last t.0 t.1 (each t.0 t.1 t.3).reported.cast (omega arith) (nc t.0 t.1 t.2 t.3) (na t.0 t.1 t.2 t.3 t.4))

  -- where y can be fast, an answer of a member of the fast quorum is a vote for it
  member_cast : (y : Decree) (k : ℕ) (s : VoteStatus) (c : ℕ) (x : Decree) → IsCast f l h k s c x → h.early k ≡ Some y → c ≡ l → k ≢ l → is_commit s ≡ false → is_accept s ≡ false → (is_preaccept s ≡ true) × (x ≡ y)
  member_cast y k PreAccepted c x v e at ne u a = (refl, (let m = v.early at ne in cc))
  member_cast y k Accepted c x v e at ne u a = absurd (cc)
  member_cast y k Committed c x v e at ne u a = absurd (cc)

  member_last : (y : Decree) (k : ℕ) (v : Option Vote) → IsLast f l h k v → h.early k ≡ Some y → ballot_at f l v ≡ l → k ≢ l → is_committed v ≡ false → is_accepted v ≡ false → votes (did_preaccept_this l y) (Some v) ≡ true
  member_last y k None n e at ne u a = absurd (not_both e n.unvoted)
  member_last y k (Some v) p e at ne u a =
      let t = member_cast y k v.status v.ballot v.decree p e at ne u a in
      and_from _ _ (and_from _ _ t.0 (eq-eqb _ _ at)) ((Decides-same_decree v.decree y).1 t.1)

  member_votes : NoCommit → NoAccept → top ≡ l → (y : Decree) (can : CanBeFast f l h y) → (k : ℕ) → k < size f → is_fast l can.spared k ≡ true → k ≢ l → (v : Option Vote) → answer k ≡ Some v → votes (did_preaccept_this l y) (Some v) ≡ true
  member_votes nc na is y can k lt member ne v e =
      let r = each k v e in
      let low = r.reported.low in
      let high = top_bounds l (size f) answer k v lt e in
      let at : ballot_at f l v ≡ l = omega arith in
      let m = r.promised in
      let n = r.before in
      let early : h.early k ≡ Some y = elim (can.members k lt member) [ inl o ↦ o | inr o ↦ absurd (omega arith) ] in
      member_last y k v r.reported.cast early at ne (nc k v lt e) (na k v lt e (at ∙ sym is))

  votes_at : (y : Decree) (k : ℕ) (o : Option (Option Vote)) → answer k ≡ o → is_some o ≡ true → ((v : Option Vote) → o ≡ Some v → votes (did_preaccept_this l y) (Some v) ≡ true) → votes (did_preaccept_this l y) o ≡ true
  votes_at y k None e s all = absurd (cc)
  votes_at y k (Some v) e s all = all v refl

  unheard_leader : (o : Option (Option Vote)) → answer l ≡ o → o ≡ None → (k : ℕ) → is_some (answer k) ≡ true → k ≢ l
  unheard_leader o e none k s i = absurd (let t = ap (λ j. is_some (answer j)) i in let u = ap is_some (e ∙ none) in cc)

  -- all but one of the answers, where the leader is silent
  enough_votes : NoCommit → NoAccept → top ≡ l → (y : Decree) → CanBeFast f l h y → answer l ≡ None → f ≤ count (size f) (votes_for y)
  enough_votes nc na is y can silent =
      let most = count_without (size f) (λ r. is_some (answer r)) can.spared in
      let le = count_le (size f) (λ r. is_some (answer r) && not (eqb r can.spared)) (votes_for y) (λ k lt e.
      let t = and_parts _ _ e in
      let ne : k ≢ l = unheard_leader (answer l) refl silent k t.0 in
      let other : is_other l k ≡ true = ap not (ne_eqb k l ne) in
      and_from _ _ other (votes_at y k (answer k) refl t.0 (λ v q. member_votes nc na is y can k lt (and_from _ _ other t.1) ne v q))) in
      omega arith

  abbrev witnesses : Vote → Bool
  witnesses v = did_preaccept_at l v && is_backed f l answer v.decree

  witness_at : (y : Decree) (k : ℕ) → top ≡ l → f ≤ count (size f) (votes_for y) → votes_for y k ≡ true → (eqb top l && is_fast_witness f l answer k) ≡ true
  witness_at y k is many e =
      let t = and_parts _ _ e in
      let s = votes_some (did_preaccept_this l y) (answer k) t.1 in
      let p = and_parts _ _ s.2 in
      let same : (s.0).decree ≡ y = (Decides-same_decree (s.0).decree y).0 p.1 in
      let backed : is_backed f l answer (s.0).decree ≡ true = subst (λ w. is_backed f l answer w ≡ true) (sym same) (le-leb _ _ many) in
      and_from _ _ (eq-eqb _ _ is) (and_from _ _ t.0 (subst (λ o. votes witnesses o ≡ true) (sym s.1) (and_from _ _ p.0 backed)))

  silent_quick : NoCommit → NoAccept → NoWitness → top ≡ l → (y : Decree) → CanBeFast f l h y → answer l ≡ None → ⊥
  silent_quick nc na nw is y can silent =
      let many = enough_votes nc na is y can silent in
      let t = count_some (size f) (votes_for y) (omega arith) in
      false≢true (sym (nw t.0 t.1) ∙ witness_at y t.0 is many t.2)

  leader_quick : NoCommit → (y : Decree) → CanBeFast f l h y → l < size f → (v : Option Vote) → answer l ≡ Some v → ⊥
  leader_quick nc y can lt v e =
      let r = each l v e in
      let fast = r.reported.unfast refl (nc l v lt e) in
      let low = r.reported.low in
      let m = r.promised in
      let n = r.before in
      elim can.leader [ inl i ↦ absurd (cc) | inr t ↦ absurd (omega (arith, t.1)) ]

  quick_none : NoCommit → NoAccept → NoWitness → l < size f → top ≡ l → (y : Decree) → CanBeFast f l h y → (o : Option (Option Vote)) → answer l ≡ o → ⊥
  quick_none nc na nw lt is y can None e = silent_quick nc na nw is y can e
  quick_none nc na nw lt is y can (Some v) e = leader_quick nc y can lt v e

  all_free : NoCommit → NoAccept → NoWitness → l < size f → Free f l h b
  all_free nc na nw small =
      let low = low_top in
      record {
        below = λ c from less can. elim (cases_order c top) [
          | inl i ↦ not_at_top nc na c i less can
          | inr (inl under) ↦ (free_top nc na (omega arith)).below c from under can
          | inr (inr more) ↦ not_above c more less can
        ];
        quick = λ y can. elim (cases_order l top) [
          | inl i ↦ quick_none nc na nw small (sym i) y can (answer l) refl
          | inr (inl under) ↦ (free_top nc na under).quick y can
          | inr (inr more) ↦ absurd (omega arith)
        ];
      }

  -- where nobody voted

  abbrev NoVotes : Type 0
  NoVotes = (k : ℕ) (v : Option Vote) → k < size f → answer k ≡ Some v → ballot_at f l v ≡ top → is_preaccepted v ≡ false

  unseen_last : (k : ℕ) (v : Option Vote) (d : List ℕ) → IsLast f l h k v → is_committed v ≡ false → is_accepted v ≡ false → is_preaccepted v ≡ false → h.seen k (ballot_at f l v) ≡ Some d → ⊥
  unseen_last k None d n u a p e = not_both e n.unseen
  unseen_last k (Some v) d q u a p e = voteless v.status u a p

  default_last : (v : Option Vote) → is_committed v ≡ false → is_accepted v ≡ false → is_preaccepted v ≡ false → ballot_at f l v ≡ l
  default_last None u a p = refl
  default_last (Some v) u a p = absurd (voteless v.status u a p)

  nothing_seen : NoCommit → NoAccept → NoVotes → Quiet f l h b
  nothing_seen nc na nv =
      let t = some_answer in
      let at : ballot_at f l t.1 ≡ l = default_last t.1 (nc t.0 t.1 t.2 t.3) (na t.0 t.1 t.2 t.3 t.4) (nv t.0 t.1 t.2 t.3 t.4) in
      let is = t.4 in
      quiet_by (λ c low lt can. absurd (omega arith)) (λ k d e v lt o.
      let low = top_bounds l (size f) answer k v lt o in
      let reported = (each k v o).reported in
      let before = (each k v o).before in
      let other = (each t.0 t.1 t.3).before in
      elim (cases_order (ballot_at f l v) top) [
        | inl i ↦ unseen_last k v d reported.cast (nc k v lt o) (na k v lt o i) (nv k v lt o i) (ap (h.seen k) i ∙ e)
        | inr (inl less) ↦ not_both e (reported.blank top less (omega arith))
        | inr (inr more) ↦ absurd (omega arith)
      ])

  -- a no-op voted for at the top
  noop_quiet : (k : ℕ) (v : Vote) → answer k ≡ Some (Some v) → is_preaccept v.status ≡ true → v.ballot ≡ top → is_noop v.decree.command ≡ true → Quiet f l h b
  noop_quiet k v e p at noop =
      let cast = pre_cast k v e p in
      quiet_by
      (λ c low lt can. (cast.quiet noop).below c low (omega arith) can)
      (λ j d is w lt o.
      let t = ok.seen_asked j top d is in
      let i : Some v.decree.command ≡ Some t.0 = sym cast.asked ∙ ap h.asked at ∙ t.1 in
      let same : v.decree.command ≡ t.0 = cc in
      false≢true (sym t.2 ∙ ap is_noop (sym same) ∙ noop))

  -- The five cases.

  -- one case: what the least answer that passes allows, or else
  stage : (p : ℕ → Bool) (chosen : Decree → Choice) (other : Choice) → ((k : ℕ) → p k ≡ true → (v : Vote) × (answer k ≡ Some (Some v)))
      → ((k : ℕ) (v : Vote) → k < size f → p k ≡ true → answer k ≡ Some (Some v) → ChoiceOk f l h b (chosen v.decree)) → (((k : ℕ) → k < size f → p k ≡ false) → ChoiceOk f l h b other)
      → (o : Option ℕ) → least (size f) p ≡ o → ChoiceOk f l h b (choose_at answer o chosen other)
  stage p chosen other picks some rest None e = rest (least_none (size f) p e)
  stage p chosen other picks some rest (Some k) e =
      let t = least_some (size f) p k e in
      let s = picks k t.1 in
      subst (λ a. ChoiceOk f l h b (with_vote_of a chosen other)) (sym s.1) (some k s.0 t.0 t.1 s.1)

  -- the same, of the answers that pass
  stage_votes : (p : Vote → Bool) (chosen : Decree → Choice) (other : Choice)
      → ((k : ℕ) (v : Vote) → p v ≡ true → answer k ≡ Some (Some v) → ChoiceOk f l h b (chosen v.decree)) → (((k : ℕ) (v : Vote) → k < size f → answer k ≡ Some (Some v) → p v ≡ false) → ChoiceOk f l h b other)
      → ChoiceOk f l h b (choose_at answer (least (size f) (λ r. votes p (answer r))) chosen other)
  stage_votes p chosen other some rest =
      stage (λ r. votes p (answer r)) chosen other (λ k e. let s = votes_some p (answer k) e in (s.0, s.1))
      (λ k v lt e is. some k v (subst (λ a. votes p a ≡ true) is e) is)
      (λ none. rest (λ k v lt is. unpassed p v (answer k) (none k lt) is))
      (least (size f) (λ r. votes p (answer r))) refl

  no_commit : ((k : ℕ) (v : Vote) → k < size f → answer k ≡ Some (Some v) → did_commit v ≡ false) → NoCommit
  no_commit none k None lt is = refl
  no_commit none k (Some v) lt is = none k v lt is

  no_accept : ((k : ℕ) (v : Vote) → k < size f → answer k ≡ Some (Some v) → did_accept_at top v ≡ false) → NoAccept
  no_accept none k None lt is at = refl
  no_accept none k (Some v) lt is at = false_from_ne_true _ (λ a. false≢true (sym (none k v lt is) ∙ and_from _ _ a (eq-eqb _ _ at)))

  no_votes : ((k : ℕ) (v : Vote) → k < size f → answer k ≡ Some (Some v) → did_preaccept_at top v ≡ false) → NoVotes
  no_votes none k None lt is at = refl
  no_votes none k (Some v) lt is at = false_from_ne_true _ (λ a. false≢true (sym (none k v lt is) ∙ and_from _ _ a (eq-eqb _ _ at)))

  abbrev fourth : Choice
  fourth = choose_at answer (least (size f) (λ r. votes (did_preaccept_at top) (answer r))) (λ x. ProposeIt x.command) ProposeNoop

  four : l < size f → NoCommit → NoAccept → NoWitness → ChoiceOk f l h b fourth
  four small nc na nw = stage_votes (did_preaccept_at top) (λ x. ProposeIt x.command) ProposeNoop
      (λ k v e is. let p = and_parts _ _ e in (all_free nc na nw small, (pre_cast k v is p.0).valid, noop_quiet k v is p.0 (eqb-true _ _ p.1)))
      (λ none. (all_free nc na nw small, inl refl, (λ noop. nothing_seen nc na (no_votes none))))

  abbrev third : Choice
  third = choose_at answer (least (size f) (λ r. eqb top l && is_fast_witness f l answer r)) (λ x. AcceptFast x) fourth

  three : l < size f → NoCommit → NoAccept → ChoiceOk f l h b third
  three small nc na = stage (λ r. eqb top l && is_fast_witness f l answer r) (λ x. AcceptFast x) fourth
      (λ k e.
      let q = and_parts (eqb top l) (is_fast_witness f l answer k) e in
      let w = and_parts (is_other l k) (votes witnesses (answer k)) q.1 in
      let s = votes_some witnesses (answer k) w.1 in
      (s.0, s.1))
      (λ k v lt e is.
      let q = and_parts (eqb top l) (is_fast_witness f l answer k) e in
      let w = and_parts (is_other l k) (votes witnesses (answer k)) q.1 in
      let here : witnesses v ≡ true = subst (λ a. votes witnesses a ≡ true) is w.1 in
      let u = and_parts _ _ here in
      let p = and_parts _ _ u.0 in
      witness_safe nc na (eqb-true _ _ q.0) k v lt is (λ i. false≢true (sym (ap not (eq-eqb k l i)) ∙ w.0)) p.0 (eqb-true _ _ p.1) small u.1)
      (λ none. four small nc na none)
      (least (size f) (λ r. eqb top l && is_fast_witness f l answer r)) refl

  abbrev second : Choice
  second = choose_at answer (least (size f) (λ r. votes (did_accept_at top) (answer r))) (λ x. AcceptIt x) third

  two_or_later : l < size f → NoCommit → ChoiceOk f l h b second
  two_or_later small nc = stage_votes (did_accept_at top) (λ x. AcceptIt x) third
      (λ k v e is. let p = and_parts _ _ e in accept_safe k v is p.0 (eqb-true _ _ p.1))
      (λ none. three small nc (no_accept none))

  pub choose_ok : l < size f → ChoiceOk f l h b (choose f l answer)
  choose_ok small = stage_votes did_commit (λ x. CommitIt x) second
      (λ k v e is. subst (λ st. IsCast f l h k st v.ballot v.decree) (status_committed _ e) (each k (Some v) is).reported.cast)
      (λ none. two_or_later small (no_commit none))
