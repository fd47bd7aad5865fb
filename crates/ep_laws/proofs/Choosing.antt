-- A choice among votes for one command, of which there is one, is for that command.
use Rattle.std.proofs.Common.{◌≡◌, ℕ, zero, suc, ◌<◌, ◌≤◌, Bool, true, ◌&&◌, eqb, Option, Some, None, ◌⊎◌, inl, inr, refl, sym, ap, ◌∙◌, arith}
use Rattle.std.proofs.lemmas.Bool.{and_from, eq-eqb, false≢true}
use Rattle.ep_base.specs.Commands.{Command}
use Rattle.ep_base.specs.Quorums.{size}
use Rattle.ep_base.specs.declared.decree.Decree.{Decree}
use Rattle.ep_base.specs.declared.vote.VoteStatus.{VoteStatus}
use Rattle.ep_base.specs.declared.vote.VoteStatus.TheVariants.{PreAccepted, Accepted, Committed}
use Rattle.ep_base.specs.declared.vote.Vote.{Vote}
use Rattle.ep_rules.specs.Cells.{is_preaccept, is_accept, is_commit}
use Rattle.ep_rules.specs.Counting.{least}
use Rattle.ep_rules.specs.Recovery.{Choice, CommitIt, AcceptIt, AcceptFast, ProposeIt, ProposeNoop, answered_ballot, top_ballot, votes, did_commit, did_accept_at, did_preaccept_at, is_fast_witness, with_vote_of, choose_at, choose}
use Rattle.ep_rules.proofs.Counting.{FoundAt, least_some, least_none}

-- a vote for c, or none
abbrev pub VoteFor : Command → Option Vote → Type 0
VoteFor c None = Unit {0}
VoteFor c (Some v) = v.decree.command ≡ c

abbrev pub ChoiceFor : Command → Choice → Type 0
ChoiceFor c (CommitIt x) = x.command ≡ c
ChoiceFor c (AcceptIt x) = x.command ≡ c
ChoiceFor c (AcceptFast x) = x.command ≡ c
ChoiceFor c (ProposeIt d) = d ≡ c
ChoiceFor c ProposeNoop = ⊥

below_suc : (n r : ℕ) → r < suc n → (r ≡ n) ⊎ (r < n)
below_suc n r h = grind arith

order : (a b : ℕ) → (a < b) ⊎ (b ≤ a)
order a b = grind arith

-- The greatest ballot is that of a vote, where there is a vote at the default ballot l or above it.
module _ (l : ℕ) (vote : ℕ → Option (Option Vote)) where
  pub record TopVote (n : ℕ) : Type 0 where
    pub at : ℕ
    pub low : at < n
    pub last : Vote
    pub is : vote at ≡ Some (Some last)
    pub top : last.ballot ≡ top_ballot l n vote

  top_least : (n k : ℕ) → k < n → answered_ballot l (vote k) ≤ top_ballot l n vote
  top_least zero k lt = absurd (omega arith)
  top_least (suc n) k lt = elim (below_suc n k lt) [
    | inl e ↦ (let same : answered_ballot l (vote k) ≡ answered_ballot l (vote n) = ap (λ j. answered_ballot l (vote j)) e in omega arith)
    | inr less ↦ (let t = top_least n k less in omega arith)
  ]

  -- what is above l and answered is a vote's
  above : (m n : ℕ) → l ≤ m → (o : Option (Option Vote)) → vote n ≡ o → m < answered_ballot l o → (v : Vote) × (vote n ≡ Some (Some v)) × (v.ballot ≡ answered_ballot l o)
  above m n le None e lt = absurd (omega arith)
  above m n le (Some None) e lt = absurd (omega arith)
  above m n le (Some (Some v)) e lt = (v, e, refl)

  top_above : (m n : ℕ) → l ≤ m → m < top_ballot l n vote → TopVote n
  top_above m zero le lt = absurd (omega arith)
  top_above m (suc n) le lt = go (order (top_ballot l n vote) (answered_ballot l (vote n))) (top_above m n le)
    where
      go : (top_ballot l n vote < answered_ballot l (vote n)) ⊎ (answered_ballot l (vote n) ≤ top_ballot l n vote) → (m < top_ballot l n vote → TopVote n) → TopVote (suc n)
      go (inl here) rec = let t = above m n le (vote n) refl (omega arith) in record { at = n; low = (omega arith); last = t.0; is = t.1; top = (let b = t.2 in omega arith) }
      go (inr there) rec = let t = rec (omega arith) in record { at = t.at; low = (let lo = t.low in omega arith); last = t.last; is = t.is; top = (let b = t.top in omega arith) }

  pub top_voted : (n q : ℕ) (u : Vote) → q < n → vote q ≡ Some (Some u) → l ≤ u.ballot → TopVote n
  top_voted n q u lt is le =
      let own : answered_ballot l (vote q) ≡ u.ballot = ap (answered_ballot l) is in
      let least = top_least n q lt in
      elim (order u.ballot (top_ballot l n vote)) [
        | inl more ↦ top_above u.ballot n le more
        | inr most ↦ record { at = q; low = lt; last = u; is = is; top = (omega arith) }
      ]

module _ (f l : ℕ) (vote : ℕ → Option (Option Vote)) (c : Command) (all : (k : ℕ) (v : Option Vote) → vote k ≡ Some v → VoteFor c v) where
  -- a stage that finds nothing, or a vote for c
  of_vote : (o : Option (Option Vote)) (chosen : Decree → Choice) (other : Choice) → ((v : Option Vote) → o ≡ Some v → VoteFor c v) → ((x : Decree) → x.command ≡ c → ChoiceFor c (chosen x)) → ChoiceFor c other → ChoiceFor c (with_vote_of o chosen other)
  of_vote None chosen other h p rest = rest
  of_vote (Some None) chosen other h p rest = rest
  of_vote (Some (Some v)) chosen other h p rest = p v.decree (h (Some v) refl)

  maybe : (o : Option ℕ) (chosen : Decree → Choice) (other : Choice) → ((x : Decree) → x.command ≡ c → ChoiceFor c (chosen x)) → ChoiceFor c other → ChoiceFor c (choose_at vote o chosen other)
  maybe None chosen other p rest = rest
  maybe (Some r) chosen other p rest = of_vote (vote r) chosen other (all r) p rest

  -- a stage that finds one
  voted_for : (p : Vote → Bool) (o : Option (Option Vote)) (chosen : Decree → Choice) (other : Choice) → ((v : Option Vote) → o ≡ Some v → VoteFor c v) → votes p o ≡ true → ((x : Decree) → x.command ≡ c → ChoiceFor c (chosen x)) → ChoiceFor c (with_vote_of o chosen other)
  voted_for p None chosen other h e pick = absurd (false≢true e)
  voted_for p (Some None) chosen other h e pick = absurd (false≢true e)
  voted_for p (Some (Some v)) chosen other h e pick = pick v.decree (h (Some v) refl)

  found : (p : Vote → Bool) (chosen : Decree → Choice) (other : Choice) → ((x : Decree) → x.command ≡ c → ChoiceFor c (chosen x)) → (k : ℕ) → k < size f → votes p (vote k) ≡ true → ChoiceFor c (choose_at vote (least (size f) (λ r. votes p (vote r))) chosen other)
  found p chosen other pick k lt e = go (least (size f) (λ r. votes p (vote r))) refl
    where
      go : (o : Option ℕ) → least (size f) (λ r. votes p (vote r)) ≡ o → ChoiceFor c (choose_at vote o chosen other)
      go None is = absurd (false≢true (sym (least_none (size f) (λ r. votes p (vote r)) is k lt) ∙ e))
      go (Some r) is = let at : FoundAt (size f) (λ r. votes p (vote r)) r = least_some (size f) (λ r. votes p (vote r)) r is in voted_for p (vote r) chosen other (all r) at.1 pick

  pub chosen_for : TopVote l vote (size f) → ChoiceFor c (choose f l vote)
  chosen_for t = go t.last.status refl
    where
      seen : (p : Vote → Bool) → p t.last ≡ true → votes p (vote t.at) ≡ true
      seen p e = ap (votes p) t.is ∙ e

      fourth : is_preaccept t.last.status ≡ true → ChoiceFor c (choose_at vote (least (size f) (λ r. votes (did_preaccept_at (top_ballot l (size f) vote)) (vote r))) (λ x. ProposeIt x.command) ProposeNoop)
      fourth e = found (did_preaccept_at (top_ballot l (size f) vote)) (λ x. ProposeIt x.command) ProposeNoop (λ x w. w) t.at t.low
          (seen (did_preaccept_at (top_ballot l (size f) vote)) (and_from _ _ e (eq-eqb t.last.ballot (top_ballot l (size f) vote) t.top)))

      go : (s : VoteStatus) → t.last.status ≡ s → ChoiceFor c (choose f l vote)
      go Committed e = found did_commit (λ x. CommitIt x) _ (λ x w. w) t.at t.low (seen did_commit (ap is_commit e))
      go Accepted e =
          maybe (least (size f) (λ r. votes did_commit (vote r))) (λ x. CommitIt x) _ (λ x w. w)
          (found (did_accept_at (top_ballot l (size f) vote)) (λ x. AcceptIt x) _ (λ x w. w) t.at t.low
          (seen (did_accept_at (top_ballot l (size f) vote)) (and_from _ _ (ap is_accept e) (eq-eqb t.last.ballot (top_ballot l (size f) vote) t.top))))
      go PreAccepted e =
          maybe (least (size f) (λ r. votes did_commit (vote r))) (λ x. CommitIt x) _ (λ x w. w)
          (maybe (least (size f) (λ r. votes (did_accept_at (top_ballot l (size f) vote)) (vote r))) (λ x. AcceptIt x) _ (λ x w. w)
          (maybe (least (size f) (λ r. eqb (top_ballot l (size f) vote) l && is_fast_witness f l vote r)) (λ x. AcceptFast x) _ (λ x w. w)
          (fourth (ap is_preaccept e))))
