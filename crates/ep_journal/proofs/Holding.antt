-- Each step keeps what a version has of a state, and the version can say all that the step sends.
use Rattle.std.proofs.Common.{◌≡◌, ℕ, zero, suc, ◌+◌, ◌<◌, ◌≤◌, Bool, true, false, cond, ◌&&◌, eqb, ltb, leb, List, [], ◌∷◌, ◌++◌, Option, Some, None, Result, Ok, Err, refl, sym, subst, ◌∙◌, arith, is_some}
use Rattle.std.proofs.lemmas.Bool.{and_parts, eqb-true, eq-eqb}
use Rattle.std.specs.FinMap as map
use Rattle.std.specs.List.{AllByRecursion}
use Rattle.ep_base.proofs.Members.{all_union}
use Rattle.ep_base.proofs.Versions.{instance_later, deps_later, vote_later, highest_low}
use Rattle.ep_base.specs.Attributes.{join}
use Rattle.ep_base.specs.Ballots.{ballot_of, highest_counter}
use Rattle.ep_base.specs.Instances.{instance_of, leader_of, highest_number}
use Rattle.ep_base.specs.Messages.{instance_of_message}
use Rattle.ep_base.specs.Quorums.{size, spared, is_fast}
use Rattle.ep_base.specs.Interference.{is_seal}
use Rattle.ep_base.specs.Versions.{version_number, highest_in, knows, names, IsInstanceIn, AreDepsIn, IsDecreeIn, IsVoteIn, CanSay, highest_for}
use Rattle.ep_base.specs.declared.attrs.Attrs.{Attrs}
use Rattle.ep_base.specs.Commands.{Command, Noop}
use Rattle.ep_base.specs.declared.decree.Decree.{Decree}
use Rattle.ep_base.specs.declared.message.Message.{Message}
use Rattle.ep_base.specs.declared.message.Message.TheVariants.{PreAccept, PreAcceptOk, Accept, AcceptOk, Commit, Prepare, PrepareOk, Nack}
use Rattle.ep_base.specs.declared.reply.Answer.{Answer}
use Rattle.ep_base.specs.declared.version.Version.{Version}
use Rattle.ep_base.specs.declared.version_kind.VersionKind.TheVariants.{V1, V2, V3}
use Rattle.ep_base.specs.declared.vote.VoteStatus.TheVariants.{PreAccepted, Accepted}
use Rattle.ep_base.specs.declared.vote.Vote.{Vote}
use Rattle.ep_rules.proofs.Lookups.{insert_same, insert_other, remove_same, remove_other, none_there}
use Rattle.ep_rules.specs.Answers.{Answers, answer, with_answer}
use Rattle.ep_rules.specs.Cells.{Change, nothing, answered, recorded, kept, voted, is_done_at, is_settled_at, record_or_fresh, is_committed, Refusal, TooFewAnswers, BallotsExhausted}
use Rattle.ep_rules.specs.Counting.{least, to_those, is_other}
use Rattle.ep_rules.specs.InterferenceSet.{touches, those, instances, interference}
use Rattle.ep_rules.specs.Maps.{Map, none, get, insert, remove, entries}
use Rattle.ep_rules.specs.Phases.{Outcome, others, fast_answered, all_equal, with_attrs, limited, first_phase, accept_phase, commit_phase, propose, on_pre_accept, on_accept, on_commit, is_usable, join_some, join_all, joined, slow_path, fast_path, count_pre_accept_ok, use_pre_accept_ok, more_proposing, give_up, give_up_with, commit_own, count_accept_ok, use_accept_ok, more_accepting}
use Rattle.ep_rules.specs.Recovery.{answered_all, Choice, CommitIt, AcceptIt, AcceptFast, ProposeIt, ProposeNoop, votes, did_commit, did_accept_at, did_preaccept_at, is_fast_witness, top_ballot, with_vote_of, choose_at, choose, act_on, recover_with, prepare_phase, recover, next_counter, on_prepare, count_prepare_ok, use_prepare_ok, more_preparing}
use Rattle.ep_rules.specs.States.{State, fresh_state, cell_in, command_in, record_in, free_number, with_entry, with_led}
use Rattle.ep_rules.specs.Steps.{Event, Propose, Handle, GiveUp, Recover, Execute, order_of, at, handled, proposed, acts, leaves, changed_by}
use Rattle.ep_rules.specs.declared.led_instance.LedInstance.{LedInstance}
use Rattle.ep_rules.specs.declared.led_instance.LedInstance.TheVariants.{Proposing, Accepting, Preparing}
use Rattle.ep_rules.specs.declared.record.Record.{Record}
use Rattle.ep_space.proofs.Holders.{sorted_true, those-found}
use Rattle.ep_space.proofs.Rising.{all_from}
use Rattle.ep_journal.proofs.Answering.{knows_noop, known_vote, stays_in}
use Rattle.ep_journal.specs.Holding.{IsLedIn, Holds, IsStoreIn, HasEvent, HasRoom, AllSayable}
use Rattle.ep_rules.specs.OneMap.{Store}

-- Maps.

-- what holds of all that a map has stays so
module _ {X : Type 0} (P : ℕ → X → Type 0) (m : Map X) (i : ℕ) (all : (j : ℕ) (y : X) → get m j ≡ Some y → P j y) where
  all_inserted : (x : X) → P i x → (j : ℕ) (y : X) → get (insert m i x) j ≡ Some y → P j y
  all_inserted x here j y h = go (eqb j i) refl
    where
      go : (b : Bool) → eqb j i ≡ b → P j y
      go true e =
          let is : j ≡ i = eqb-true j i e in
          let found : get (insert m i x) j ≡ Some x = subst (λ k. get (insert m i x) k ≡ Some x) (sym is) (insert_same m i x) in
          let same : x ≡ y = cc in
          subst (λ k. P k y) (sym is) (subst (P i) same here)
      go false e = all j y (sym (insert_other m i x j (λ is. absurd (let t : eqb j i ≡ true = eq-eqb j i is in cc))) ∙ h)

  all_removed : (j : ℕ) (y : X) → get (remove m i) j ≡ Some y → P j y
  all_removed j y h = go (eqb j i) refl
    where
      go : (b : Bool) → eqb j i ≡ b → P j y
      go true e =
          let gone : get (remove m i) j ≡ None = subst (λ k. get (remove m i) k ≡ None) (sym (eqb-true j i e)) (remove_same m i) in
          absurd (cc)
      go false e = all j y (sym (remove_other m i j (λ is. absurd (let t : eqb j i ≡ true = eq-eqb j i is in cc))) ∙ h)

-- the numbers for a command are the version's
for_seal : (b : Bool) (n : ℕ) → n < cond b highest_number 8990 → n < highest_number
for_seal true n h = h
for_seal false n h = omega (arith, h)

pub within : (v : Version) (c : Command) (n : ℕ) → n < highest_for v c → n < highest_in v
within V1 c n h = h
within V2 c n h = h
within (V3 g) c n h = for_seal (is_seal c) n h

pub below : (v : Version) (c : Command) → highest_for v c ≤ highest_in v
below V1 c = omega arith
below V2 c = omega arith
below (V3 g) c = for_any (is_seal c)
  where
    for_any : (b : Bool) → cond b highest_number 8990 ≤ highest_number
    for_any true = omega arith
    for_any false = omega arith

module _ (version : Version) where
  -- What the version has of a change.

  abbrev HasEntry : Option Record → Type 0
  HasEntry None = Unit {0}
  HasEntry (Some r) = IsVoteIn version r.vote

  abbrev HasHeld : Option LedInstance → Type 0
  HasHeld None = Unit {0}
  HasHeld (Some l) = IsLedIn version l

  abbrev HasLead : Option (Option LedInstance) → Type 0
  HasLead None = Unit {0}
  HasLead (Some l) = HasHeld l

  -- the version has what the change records and leads, and can say what it sends
  pub record IsChangeIn (ch : Change) : Type 0 where
    pub entry : HasEntry ch.entry
    pub lead : HasLead ch.led
    pub out : AllSayable version ch.out

  abbrev IsOutcomeIn : Outcome → Type 0
  IsOutcomeIn (Ok ch) = IsChangeIn ch
  IsOutcomeIn (Err e) = Unit {0}

  -- What the version has of answers, and of the choice among them.

  abbrev AreAttrsIn : Answers Attrs → Type 0
  AreAttrsIn answers = AllByRecursion (λ a. AreDepsIn version a.1.deps) answers

  abbrev AreVotesIn : Answers (Option Vote) → Type 0
  AreVotesIn answers = AllByRecursion (λ a. IsVoteIn version a.1) answers

  abbrev HasDeps : Option Attrs → Type 0
  HasDeps None = Unit {0}
  HasDeps (Some a) = AreDepsIn version a.deps

  abbrev HasVote : Option (Option Vote) → Type 0
  HasVote None = Unit {0}
  HasVote (Some v) = IsVoteIn version v

  abbrev IsChoiceIn : Choice → Type 0
  IsChoiceIn (CommitIt x) = IsDecreeIn version x
  IsChoiceIn (AcceptIt x) = IsDecreeIn version x
  IsChoiceIn (AcceptFast x) = IsDecreeIn version x
  IsChoiceIn (ProposeIt c) = knows version c ≡ true
  IsChoiceIn ProposeNoop = Unit {0}

  -- Small steps.

  split : (t : Bool) (x y : Change) → IsChangeIn x → IsChangeIn y → IsChangeIn (cond t x y)
  split true x y p q = p
  split false x y p q = q

  split_outcome : (t : Bool) (x y : Outcome) → IsOutcomeIn x → IsOutcomeIn y → IsOutcomeIn (cond t x y)
  split_outcome true x y p q = p
  split_outcome false x y p q = q

  nothing_in : IsChangeIn nothing
  nothing_in = record { entry = tt; lead = tt; out = tt }

  answered_in : (from : ℕ) (m : Message) → CanSay version m → IsChangeIn (answered from m)
  answered_in from m said = record { entry = tt; lead = tt; out = (said, tt) }

  recorded_in : (r : Record) (from : ℕ) (m : Message) → IsVoteIn version r.vote → CanSay version m → IsChangeIn (recorded r from m)
  recorded_in r from m vote said = record { entry = vote; lead = tt; out = (said, tt) }

  kept_in : (l : LedInstance) → IsLedIn version l → IsChangeIn (kept l)
  kept_in l led = record { entry = tt; lead = led; out = tt }

  said_both : (xs ys : List (ℕ × Message)) → AllSayable version xs → AllSayable version ys → AllSayable version (xs ++ ys)
  said_both [] ys p q = q
  said_both (x ∷ xs) ys p q = (p.0, said_both xs ys p.1 q)

  said_one : (n : ℕ) (b : Bool) (m : Message) → CanSay version m → AllSayable version (cond b ((n, m) ∷ []) [])
  said_one n true m said = (said, tt)
  said_one n false m said = tt

  said_those : (p : ℕ → Bool) (n : ℕ) (m : Message) → CanSay version m → AllSayable version (to_those p n m)
  said_those p zero m said = tt
  said_those p (suc n) m said = said_both (to_those p n m) _ (said_those p n m said) (said_one n (p n) m said)

  limited_in : (own : Attrs) (ch : Change) → IsChangeIn ch → IsOutcomeIn (limited own ch)
  limited_in own ch known = split_outcome (leb own.seq 1000000) (Ok ch) _ known tt

  -- The phases.

  first_in : (asked : ℕ → Bool) (f i b s : ℕ) (x : Decree) → IsInstanceIn version i → IsDecreeIn version x → IsChangeIn (first_phase asked f i b s x)
  first_in asked f i b s x low known = record { entry = known; lead = tt; out = said_those asked (size f) (PreAccept i b x) (low, known) }

  accept_in : (f i me b : ℕ) (x : Decree) → IsInstanceIn version i → IsDecreeIn version x → IsChangeIn (accept_phase f i me b x)
  accept_in f i me b x low known = record { entry = known; lead = tt; out = said_those (is_other me) (size f) (Accept i b x) (low, known) }

  commit_in : (f i me : ℕ) (x : Decree) (r : Record) → IsInstanceIn version i → IsDecreeIn version x → IsChangeIn (commit_phase f i me x r)
  commit_in f i me x r low known = record { entry = known; lead = tt; out = said_those (is_other me) (size f) (Commit i x) (low, known) }

  -- The events.

  propose_in : (f i s : ℕ) (c : Command) (own : Attrs) → IsInstanceIn version i → knows version c ≡ true → AreDepsIn version own.deps → IsOutcomeIn (propose f i s c own)
  propose_in f i s c own low plain deps = limited_in own _ (first_in (is_fast (leader_of i) s) f i (leader_of i) s _ low (plain, deps))

  pre_accept_in : (i from b : ℕ) (x : Decree) (own : Attrs) (r : Record) → IsInstanceIn version i → IsDecreeIn version x → AreDepsIn version own.deps → IsOutcomeIn (on_pre_accept i from b x own r)
  pre_accept_in i from b x own r low known deps =
      let both : AreDepsIn version (join x.attrs own).deps = all_union (IsInstanceIn version) x.attrs.deps own.deps known.1 deps in
      split_outcome (ltb b r.promised) _ _ (answered_in from (Nack i b r.promised) low)
      (split_outcome (is_done_at b r.vote) (Ok nothing) (limited own (recorded (voted b PreAccepted (with_attrs x (join x.attrs own))) from (PreAcceptOk i b (join x.attrs own)))) nothing_in
      (limited_in own _ (recorded_in (voted b PreAccepted (with_attrs x (join x.attrs own))) from (PreAcceptOk i b (join x.attrs own)) (known.0, both) (low, both))))

  on_accept_in : (i from b : ℕ) (x : Decree) (r : Record) → IsInstanceIn version i → IsDecreeIn version x → IsChangeIn (on_accept i from b x r)
  on_accept_in i from b x r low known =
      split (ltb b r.promised) _ _ (answered_in from (Nack i b r.promised) low)
      (split (is_settled_at b r.vote) nothing (recorded (voted b Accepted x) from (AcceptOk i b)) nothing_in
      (recorded_in (voted b Accepted x) from (AcceptOk i b) known low))

  on_commit_in : (i : ℕ) (x : Decree) (r : Record) → IsDecreeIn version x → IsChangeIn (on_commit i x r)
  on_commit_in i x r known = split (is_committed r.vote) nothing _ nothing_in (record { entry = known; lead = tt; out = tt })

  answer_in : (answers : Answers Attrs) (q : ℕ) → AreAttrsIn answers → HasDeps (answer answers q)
  answer_in [] q known = tt
  answer_in (x ∷ xs) q known =
      let rest = answer_in xs q known.1 in
      elim (eqb x.0 q) as (λ b. HasDeps (cond b (Some x.1) (answer xs q))) [ true ↦ known.0 | false ↦ rest ]

  join_some_in : (o : Option Attrs) (a : Attrs) → HasDeps o → AreDepsIn version a.deps → AreDepsIn version (join_some o a).deps
  join_some_in None a other known = known
  join_some_in (Some b) a other known = all_union (IsInstanceIn version) b.deps a.deps other known

  join_all_in : (n : ℕ) (answers : Answers Attrs) (a : Attrs) → AreAttrsIn answers → AreDepsIn version a.deps → AreDepsIn version (join_all n answers a).deps
  join_all_in zero answers a all known = known
  join_all_in (suc n) answers a all known = join_some_in (answer answers n) (join_all n answers a) (answer_in answers n all) (join_all_in n answers a all known)

  slow_in : (f i me b : ℕ) (answers : Answers Attrs) (v : Option Vote) → IsInstanceIn version i → AreAttrsIn answers → IsVoteIn version v → IsChangeIn (slow_path f i me b answers v)
  slow_in f i me b answers None low all known = nothing_in
  slow_in f i me b answers (Some v) low all known =
      accept_in f i me b (joined f answers v.decree) low (known.0, join_all_in (size f) answers v.decree.attrs all known.1)

  fast_in : (f i me : ℕ) (a : Attrs) (r : Record) (v : Option Vote) → IsInstanceIn version i → AreDepsIn version a.deps → IsVoteIn version v → IsChangeIn (fast_path f i me a r v)
  fast_in f i me a r None low deps known = nothing_in
  fast_in f i me a r (Some v) low deps known = commit_in f i me (with_attrs v.decree a) r low (known.0, deps)

  count_in : (f i me b s : ℕ) (a : Attrs) (answers : Answers Attrs) (r : Record) → IsInstanceIn version i → AreDepsIn version a.deps → AreAttrsIn answers → IsVoteIn version r.vote → IsChangeIn (count_pre_accept_ok f i me b s a answers r)
  count_in f i me b s a answers r low deps all known =
      let slow = slow_in f i me b answers r.vote low all known in
      let fast = fast_in f i me a r r.vote low deps known in
      let keep = kept_in (Proposing b s answers) all in
      split (eqb b (leader_of i)) _ _
      (split (fast_answered f (leader_of i) s answers) (cond (all_equal f a answers) (fast_path f i me a r r.vote) (slow_path f i me b answers r.vote)) (kept (Proposing b s answers))
      (split (all_equal f a answers) (fast_path f i me a r r.vote) (slow_path f i me b answers r.vote) fast slow) keep)
      (split (leb f (others f me answers)) (slow_path f i me b answers r.vote) (kept (Proposing b s answers)) slow keep)

  abbrev HasAttrs : Option (ℕ × ℕ × Answers Attrs) → Type 0
  HasAttrs None = Unit {0}
  HasAttrs (Some more) = AreAttrsIn more.2

  more_proposing_in : (from : ℕ) (a : Attrs) (led : Option LedInstance) → AreDepsIn version a.deps → HasHeld led → HasAttrs (more_proposing from a led)
  more_proposing_in from a None deps held = tt
  more_proposing_in from a (Some (Proposing b s answers)) deps held =
      elim (is_some (answer answers from)) as (λ t. HasAttrs (cond t None (Some (b, s, with_answer answers from a)))) [ true ↦ tt | false ↦ (deps, held) ]
  more_proposing_in from a (Some (Accepting b answers)) deps held = tt
  more_proposing_in from a (Some (Preparing b answers)) deps held = tt

  use_in : (f i me b : ℕ) (a : Attrs) (r : Record) (more : Option (ℕ × ℕ × Answers Attrs)) → IsInstanceIn version i → AreDepsIn version a.deps → HasAttrs more → IsVoteIn version r.vote → IsChangeIn (use_pre_accept_ok f i me b a r more)
  use_in f i me b a r None low deps all known = nothing_in
  use_in f i me b a r (Some more) low deps all known = split (is_usable b r more.0) _ nothing (count_in f i me b more.1 a more.2 r low deps all known) nothing_in

  give_up_with_in : (f i me b : ℕ) (answers : Answers Attrs) (r : Record) → IsInstanceIn version i → AreAttrsIn answers → IsVoteIn version r.vote → IsOutcomeIn (give_up_with f i me b answers r)
  give_up_with_in f i me b answers r low all known =
      split_outcome (is_usable (leader_of i) r b) _ _
      (split_outcome (leb f (others f me answers)) (Ok (slow_path f i me b answers r.vote)) (Err TooFewAnswers) (slow_in f i me b answers r.vote low all known) tt)
      tt

  give_up_in : (f i me : ℕ) (r : Record) (led : Option LedInstance) → IsInstanceIn version i → IsVoteIn version r.vote → HasHeld led → IsOutcomeIn (give_up f i me r led)
  give_up_in f i me r None low known held = tt
  give_up_in f i me r (Some (Proposing b s answers)) low known held = give_up_with_in f i me b answers r low held known
  give_up_in f i me r (Some (Accepting b answers)) low known held = tt
  give_up_in f i me r (Some (Preparing b answers)) low known held = tt

  commit_own_in : (f i me : ℕ) (r : Record) (v : Option Vote) → IsInstanceIn version i → IsVoteIn version v → IsChangeIn (commit_own f i me r v)
  commit_own_in f i me r None low known = nothing_in
  commit_own_in f i me r (Some v) low known = commit_in f i me v.decree r low known

  use_accept_in : (f i me b : ℕ) (r : Record) (more : Option (ℕ × Answers (Unit {0}))) → IsInstanceIn version i → IsVoteIn version r.vote → IsChangeIn (use_accept_ok f i me b r more)
  use_accept_in f i me b r None low known = nothing_in
  use_accept_in f i me b r (Some more) low known =
      split (is_usable b r more.0) (count_accept_ok f i me b more.1 r) nothing
      (split (leb f (others f me more.1)) (commit_own f i me r r.vote) (kept (Accepting b more.1)) (commit_own_in f i me r r.vote low known) (kept_in (Accepting b more.1) tt))
      nothing_in

  -- Explicit prepare.

  vote_in : (answers : Answers (Option Vote)) (q : ℕ) → AreVotesIn answers → HasVote (answer answers q)
  vote_in [] q known = tt
  vote_in (x ∷ xs) q known =
      let rest = vote_in xs q known.1 in
      elim (eqb x.0 q) as (λ b. HasVote (cond b (Some x.1) (answer xs q))) [ true ↦ known.0 | false ↦ rest ]

  with_vote_in : (o : Option (Option Vote)) (chosen : Decree → Choice) (other : Choice) → HasVote o → ((x : Decree) → IsDecreeIn version x → IsChoiceIn (chosen x)) → IsChoiceIn other → IsChoiceIn (with_vote_of o chosen other)
  with_vote_in None chosen other known here there = there
  with_vote_in (Some None) chosen other known here there = there
  with_vote_in (Some (Some v)) chosen other known here there = here v.decree known

  module _ (vote : ℕ → Option (Option Vote)) (all : (q : ℕ) → HasVote (vote q)) where
    choose_at_in : (o : Option ℕ) (chosen : Decree → Choice) (other : Choice) → ((x : Decree) → IsDecreeIn version x → IsChoiceIn (chosen x)) → IsChoiceIn other → IsChoiceIn (choose_at vote o chosen other)
    choose_at_in None chosen other here there = there
    choose_at_in (Some r) chosen other here there = with_vote_in (vote r) chosen other (all r) here there

    -- whichever answer each case takes
    cases_in : (a b c d : Option ℕ) → IsChoiceIn (choose_at vote a (λ x. CommitIt x) (choose_at vote b (λ x. AcceptIt x) (choose_at vote c (λ x. AcceptFast x) (choose_at vote d (λ x. ProposeIt x.command) ProposeNoop))))
    cases_in a b c d =
        let last : IsChoiceIn (choose_at vote d (λ x. ProposeIt x.command) ProposeNoop) = choose_at_in d (λ x. ProposeIt x.command) ProposeNoop (λ x e. e.0) tt in
        let fast = choose_at_in c (λ x. AcceptFast x) (choose_at vote d (λ x. ProposeIt x.command) ProposeNoop) (λ x e. e) last in
        let accepted = choose_at_in b (λ x. AcceptIt x) (choose_at vote c (λ x. AcceptFast x) (choose_at vote d (λ x. ProposeIt x.command) ProposeNoop)) (λ x e. e) fast in
        choose_at_in a (λ x. CommitIt x) (choose_at vote b (λ x. AcceptIt x) (choose_at vote c (λ x. AcceptFast x) (choose_at vote d (λ x. ProposeIt x.command) ProposeNoop))) (λ x e. e) accepted

    choose_in : (f l : ℕ) → IsChoiceIn (choose f l vote)
    choose_in f l =
        let n : ℕ = size f in
        let top : ℕ = top_ballot l n vote in
        cases_in (least n (λ r. votes did_commit (vote r))) (least n (λ r. votes (did_accept_at top) (vote r)))
        (least n (λ r. eqb top l && is_fast_witness f l vote r)) (least n (λ r. votes (did_preaccept_at top) (vote r)))

  recover_with_in : (f i me b : ℕ) (c : Command) (own : Attrs) → IsInstanceIn version i → knows version c ≡ true → AreDepsIn version own.deps → IsOutcomeIn (recover_with f i me b c own)
  recover_with_in f i me b c own low plain deps = limited_in own _ (first_in (is_other me) f i b me _ low (plain, deps))

  act_in : (f i me b : ℕ) (own : Command → Attrs) (r : Record) (choice : Choice) → IsInstanceIn version i → ((c : Command) → AreDepsIn version (own c).deps) → IsChoiceIn choice → IsOutcomeIn (act_on f i me b own r choice)
  act_in f i me b own r (CommitIt x) low deps known = commit_in f i me x r low known
  act_in f i me b own r (AcceptIt x) low deps known = accept_in f i me b x low known
  act_in f i me b own r (AcceptFast x) low deps known = accept_in f i me b x low known
  act_in f i me b own r (ProposeIt c) low deps known = recover_with_in f i me b c (own c) low known (deps c)
  act_in f i me b own r ProposeNoop low deps known = recover_with_in f i me b Noop (own Noop) low (knows_noop version) (deps Noop)

  abbrev HasVotes : Option (ℕ × Answers (Option Vote)) → Type 0
  HasVotes None = Unit {0}
  HasVotes (Some more) = AreVotesIn more.1

  more_preparing_in : (from : ℕ) (v : Option Vote) (led : Option LedInstance) → IsVoteIn version v → HasHeld led → HasVotes (more_preparing from v led)
  more_preparing_in from v None known held = tt
  more_preparing_in from v (Some (Proposing b s answers)) known held = tt
  more_preparing_in from v (Some (Accepting b answers)) known held = tt
  more_preparing_in from v (Some (Preparing b answers)) known held =
      elim (is_some (answer answers from)) as (λ t. HasVotes (cond t None (Some (b, with_answer answers from v)))) [ true ↦ tt | false ↦ (known, held) ]

  use_prepare_in : (f i me b : ℕ) (own : Command → Attrs) (r : Record) (more : Option (ℕ × Answers (Option Vote))) → IsInstanceIn version i → ((c : Command) → AreDepsIn version (own c).deps) → HasVotes more →
      IsOutcomeIn (use_prepare_ok f i me b own r more)
  use_prepare_in f i me b own r None low deps all = nothing_in
  use_prepare_in f i me b own r (Some more) low deps all =
      split_outcome (is_usable b r more.0) (count_prepare_ok f i me b more.1 own r) (Ok nothing)
      (split_outcome (leb (f + 1) (answered_all f more.1)) (act_on f i me b own r (choose f (leader_of i) (λ q. answer more.1 q))) (Ok (kept (Preparing b more.1)))
      (act_in f i me b own r (choose f (leader_of i) (λ q. answer more.1 q)) low deps (choose_in (λ q. answer more.1 q) (λ q. vote_in more.1 q all) f (leader_of i)))
      (kept_in (Preparing b more.1) all))
      nothing_in

  prepare_in : (i from b : ℕ) (r : Record) → IsInstanceIn version i → IsVoteIn version r.vote → IsChangeIn (on_prepare i from b r)
  prepare_in i from b r low known =
      split (ltb b r.promised) _ _ (answered_in from (Nack i b r.promised) low)
      (split (eqb b r.promised) nothing (recorded (record { promised = b; vote = r.vote }) from (PrepareOk i b r.vote)) nothing_in
      (recorded_in (record { promised = b; vote = r.vote }) from (PrepareOk i b r.vote) known (low, known)))

  recover_in : (f i me : ℕ) (r : Record) (reported : ℕ) → IsInstanceIn version i → IsVoteIn version r.vote → IsOutcomeIn (recover f i me r reported)
  recover_in f i me r reported low known =
      let b : ℕ = ballot_of (next_counter r reported) me in
      split_outcome (is_committed r.vote) _ _ tt
      (split_outcome (leb (next_counter r reported) highest_counter) (Ok (prepare_phase f i me b r)) (Err BallotsExhausted)
      (record { entry = known; lead = (known, tt); out = said_those (is_other me) (size f) (Prepare i b) low })
      tt)

  -- A whole step.

  abbrev pub IsPlacedIn : Result (ℕ × Change) Refusal → Type 0
  IsPlacedIn (Ok p) = IsInstanceIn version p.0 × IsChangeIn p.1
  IsPlacedIn (Err e) = Unit {0}

  placed_in : (i : ℕ) (o : Outcome) → IsInstanceIn version i → IsOutcomeIn o → IsPlacedIn (at i o)
  placed_in i (Ok ch) low known = (low, known)
  placed_in i (Err e) low known = tt

  found_in : (i : ℕ) (o : Option Record) → ((r : Record) → o ≡ Some r → IsInstanceIn version i × IsVoteIn version r.vote) → IsVoteIn version (record_or_fresh i o).vote
  found_in i None known = tt
  found_in i (Some r) known = (known r refl).1

  held_in : (o : Option LedInstance) → ((l : LedInstance) → o ≡ Some l → IsLedIn version l) → HasHeld o
  held_in None known = tt
  held_in (Some l) known = known l refl

  instance_in : (m : Message) → CanSay version m → IsInstanceIn version (instance_of_message m)
  instance_in (PreAccept i b x) said = said.0
  instance_in (PreAcceptOk i b a) said = said.0
  instance_in (Accept i b x) said = said.0
  instance_in (AcceptOk i b) said = said
  instance_in (Commit i x) said = said.0
  instance_in (Prepare i b) said = said
  instance_in (PrepareOk i b v) said = said.0
  instance_in (Nack i b p) said = said

  module _ (s : State) (known : Holds version s) where
    -- what a command depends on is recorded
    interference_in : (i : ℕ) (c : Command) → AreDepsIn version (interference s.records i c).deps
    interference_in i c =
        all_from (IsInstanceIn version) (instances (those (touches c i) (entries s.records)))
        (λ j has. let found = those-found (touches c i) (entries s.records) j (sorted_true s.records) has in (known.records j found.0 (map.get-entries s.records j ∙ found.1)).0)

    recorded_vote : (i : ℕ) → IsVoteIn version (record_in s i).vote
    recorded_vote i = found_in i (get s.records i) (known.records i)

    -- what is committed is known, and nothing else is executed
    pub command_known : (i : ℕ) → knows version (command_in s.records i) ≡ true
    command_known i = known_vote version (record_in s i).vote (recorded_vote i)

    led_in : (i : ℕ) → HasHeld (get s.leads i)
    led_in i = held_in (get s.leads i) (known.leads i)

    handled_in : (f me from : ℕ) (m : Message) → CanSay version m → IsOutcomeIn (handled f me from s m)
    handled_in f me from (PreAccept i b x) said = pre_accept_in i from b x _ (record_in s i) said.0 said.1 (interference_in i x.command)
    handled_in f me from (PreAcceptOk i b a) said =
        use_in f i me b a (record_in s i) (more_proposing from a (get s.leads i)) said.0 said.1 (more_proposing_in from a (get s.leads i) said.1 (led_in i)) (recorded_vote i)
    handled_in f me from (Accept i b x) said = on_accept_in i from b x (record_in s i) said.0 said.1
    handled_in f me from (AcceptOk i b) said = use_accept_in f i me b (record_in s i) (more_accepting from (get s.leads i)) said (recorded_vote i)
    handled_in f me from (Commit i x) said = on_commit_in i x (record_in s i) said.1
    handled_in f me from (Prepare i b) said = prepare_in i from b (record_in s i) said (recorded_vote i)
    handled_in f me from (PrepareOk i b v) said =
        use_prepare_in f i me b (interference s.records i) (record_in s i) (more_preparing from v (get s.leads i)) said.0 (interference_in i) (more_preparing_in from v (get s.leads i) said.1 (led_in i))
    handled_in f me from (Nack i b p) said = record { entry = tt; lead = tt; out = tt }

    proposed_in : (f me q : ℕ) (c : Command) (n : Option ℕ) → knows version c ≡ true → ((k : ℕ) → n ≡ Some k → k < highest_for version c) → IsPlacedIn (proposed f me q s c n)
    proposed_in f me q c None plain room = tt
    proposed_in f me q c (Some n) plain room =
        let i : ℕ = instance_of me (n + 1) in
        let less : n < highest_in version = within version c n (room n refl) in
        let most = highest_low version in
        let low : IsInstanceIn version i = omega arith in
        placed_in i (propose f i q c (interference s.records i c)) low (propose_in f i q c (interference s.records i c) low plain (interference_in i c))

    pub acts_in : (f me : ℕ) (e : Event) → HasEvent version e → HasRoom version me s e → IsPlacedIn (acts f me s e)
    acts_in f me (Propose client request c seen named) has room = proposed_in f me (spared f me named) c (free_number s.records me) (and_parts (knows version c) (names version named) has).0 room
    acts_in f me (Handle m) has room = placed_in (instance_of_message m.sent.message) _ (instance_in m.sent.message has) (handled_in f me m.sent.from m.sent.message has)
    acts_in f me (GiveUp i) has room = placed_in i _ has (give_up_in f i me (record_in s i) (get s.leads i) has (recorded_vote i) (led_in i))
    acts_in f me (Recover i) has room = placed_in i _ has (recover_in f i me (record_in s i) (cell_in s i).reported has (recorded_vote i))
    acts_in f me (Execute root) has room = (has, nothing_in)

  -- What is sent.

  -- The state after a step.

  abbrev IsRecordIn : ℕ → Record → Type 0
  IsRecordIn i r = IsInstanceIn version i × IsVoteIn version r.vote

  entry_in : (m : Map Record) (i : ℕ) (o : Option Record) → IsInstanceIn version i → HasEntry o → ((j : ℕ) (r : Record) → get m j ≡ Some r → IsRecordIn j r) → (j : ℕ) (r : Record) → get (with_entry m i o) j ≡ Some r → IsRecordIn j r
  entry_in m i None low known all = all
  entry_in m i (Some x) low known all = all_inserted IsRecordIn m i all x (low, known)

  lead_in : (m : Map LedInstance) (i : ℕ) (o : Option (Option LedInstance)) → HasLead o → ((j : ℕ) (l : LedInstance) → get m j ≡ Some l → IsLedIn version l) → (j : ℕ) (l : LedInstance) → get (with_led m i o) j ≡ Some l → IsLedIn version l
  lead_in m i None known all = all
  lead_in m i (Some None) known all = all_removed (λ j l. IsLedIn version l) m i all
  lead_in m i (Some (Some x)) known all = all_inserted (λ j l. IsLedIn version l) m i all x known

  changed_in : (s : State) (o : Result (ℕ × Change) Refusal) → Holds version s → IsPlacedIn o → Holds version (changed_by s o)
  changed_in s (Ok p) all known = record {
    records = entry_in s.records p.0 p.1.entry known.0 known.1.entry all.records;
    leads = lead_in s.leads p.0 p.1.led known.1.lead all.leads;
    store = all.store;
  }
  changed_in s (Err e) all known = all

  -- the version has what a step leaves
  pub leaves_held : (f me : ℕ) (s : State) (e : Event) (done : List (ℕ × Answer)) → Holds version s → HasEvent version e → HasRoom version me s e → Holds version (leaves f me s e done)
  leaves_held f me s e done known has room =
      let after : Holds version (changed_by s (acts f me s e)) = changed_in s (acts f me s e) known (acts_in s known f me e has room) in
      record {
        records = after.records;
        leads = after.leads;
        store = stays_in version (command_in s.records) (command_known s known) s.store (order_of done) known.store;
      }

  -- and what is known at first
  pub fresh_held : (base : Store) → IsStoreIn version base → Holds version (fresh_state base)
  fresh_held base has = record {
    records = λ i r h. absurd (let n : get (none {X = Record}) i ≡ None = none_there i in cc);
    leads = λ i l h. absurd (let n : get (none {X = LedInstance}) i ≡ None = none_there i in cc);
    store = has;
  }

-- Version 2 has all that the first two have of a state.

module _ (v : Version) (early : version_number v ≤ 2) where
  attrs_later : (answers : Answers Attrs) → AllByRecursion (λ a. AreDepsIn v a.1.deps) answers → AllByRecursion (λ a. AreDepsIn V2 a.1.deps) answers
  attrs_later [] h = tt
  attrs_later (a ∷ more) h = (deps_later v V2 a.1.deps early h.0, attrs_later more h.1)

  votes_later : (answers : Answers (Option Vote)) → AllByRecursion (λ a. IsVoteIn v a.1) answers → AllByRecursion (λ a. IsVoteIn V2 a.1) answers
  votes_later [] h = tt
  votes_later (a ∷ more) h = (vote_later v V2 a.1 early h.0, votes_later more h.1)

  led_later : (l : LedInstance) → IsLedIn v l → IsLedIn V2 l
  led_later (Proposing b s answers) h = attrs_later answers h
  led_later (Accepting b answers) h = tt
  led_later (Preparing b answers) h = votes_later answers h

store_later : (v : Version) (s : Store) → version_number v ≤ 2 → IsStoreIn v s → IsStoreIn V2 s
store_later V1 s early h = h
store_later V2 s early h = h
store_later (V3 g) s early h = absurd (omega (arith, early))

pub held_later : (v : Version) (s : State) → version_number v ≤ 2 → Holds v s → Holds V2 s
held_later v s early h = record {
  records = λ i r is. let known = h.records i r is in (instance_later v V2 i early known.0, vote_later v V2 r.vote early known.1);
  leads = λ i l is. led_later v early l (h.leads i l is);
  store = store_later v s.store early h.store;
}
