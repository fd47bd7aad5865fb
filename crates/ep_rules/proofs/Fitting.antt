-- Each step keeps what a state keeps to, and what it sends has a spelling.
use Rattle.std.proofs.Common.{◌≡◌, ◌≢◌, ℕ, zero, suc, ◌+◌, ◌<◌, ◌≤◌, Bool, true, false, cond, ◌&&◌, eqb, ltb, leb, List, [], ◌∷◌, ◌++◌, Option, Some, None, Result, Ok, Err, refl, sym, subst, ◌∙◌, arith}
use Rattle.std.proofs.lemmas.Bool.{and_parts, eqb-true, eq-eqb, ltb-true}
use Rattle.std.proofs.lemmas.Nat.{div-mul-add}
use Rattle.ep_base.specs.Attributes.{join}
use Rattle.ep_base.specs.Ballots.{ballot_of, counter_of, owner_of, highest_counter}
use Rattle.ep_base.specs.Fitting.{BallotFits, VoteFits, BallotsFit}
use Rattle.ep_base.specs.Instances.{instance_of, leader_of, highest_number}
use Rattle.ep_base.specs.Quorums.{size, spared, is_fast}
use Rattle.ep_base.specs.declared.attrs.Attrs.{Attrs}
use Rattle.ep_base.specs.Commands.{Command}
use Rattle.ep_base.specs.declared.decree.Decree.{Decree}
use Rattle.ep_base.specs.declared.message.Message.{Message}
use Rattle.ep_base.specs.declared.message.Message.TheVariants.{PreAccept, PreAcceptOk, Accept, AcceptOk, Commit, Prepare, PrepareOk, Nack}
use Rattle.ep_base.specs.declared.reply.Answer.{Answer}
use Rattle.ep_base.specs.declared.vote.VoteStatus.TheVariants.{PreAccepted, Accepted}
use Rattle.ep_base.specs.declared.vote.Vote.{Vote}
use Rattle.ep_rules.specs.Answers.{Answers, answer}
use Rattle.ep_rules.specs.Cells.{Change, nothing, recorded, kept, voted, is_done_at, is_settled_at, record_or_fresh, voted_ballot, is_committed, Refusal, OutOfRange, NotMine, TooFewAnswers, BallotsExhausted}
use Rattle.ep_rules.specs.Counting.{to_those, is_other}
use Rattle.ep_rules.specs.Fitting.{RecordFits, StateFits, EventFits, AllFit, AllSpellable}
use Rattle.ep_rules.specs.Maps.{Map, none, get, insert}
use Rattle.ep_rules.specs.Phases.{Outcome, others, fast_answered, all_equal, with_attrs, limited, first_phase, accept_phase, commit_phase, with_commit, propose, on_pre_accept, on_accept, on_commit, is_usable, slow_path, fast_path, count_pre_accept_ok, use_pre_accept_ok, on_pre_accept_ok, more_proposing, give_up, give_up_with, commit_own, use_accept_ok, on_accept_ok, more_accepting}
use Rattle.ep_rules.specs.Recovery.{answered_all, Choice, CommitIt, AcceptIt, AcceptFast, ProposeIt, ProposeNoop, act_on, recover_with, prepare_phase, recover, next_counter, on_prepare, use_prepare_ok, on_prepare_ok, more_preparing, choose}
use Rattle.ep_rules.specs.InterferenceSet.{interference}
use Rattle.ep_rules.specs.States.{State, fresh_state, cell_in, record_in, is_free, free_number, with_entry}
use Rattle.ep_rules.specs.Steps.{Event, Propose, Handle, GiveUp, Recover, Execute, is_within, is_for, message_within, screened, at, handled, proposed, acts, leaves, changed_by, sends, sent_by, sent_from}
use Rattle.ep_base.specs.Messages.{instance_of_message}
use Rattle.ep_rules.proofs.Counting.{least_some}
use Rattle.ep_rules.proofs.Lookups.{insert_same, insert_other, none_there}
use Rattle.ep_rules.specs.declared.led_instance.LedInstance.{LedInstance}
use Rattle.ep_rules.specs.declared.led_instance.LedInstance.TheVariants.{Proposing, Accepting, Preparing}
use Rattle.ep_rules.specs.declared.record.Record.{Record}
use Rattle.ep_rules.specs.OneMap.{Store}

abbrev EntryFits : ℕ → Option Record → Type 0
EntryFits i None = Unit {0}
EntryFits i (Some r) = RecordFits i r

-- the change records what fits, and sends what fits
pub record ChangeFits (i me : ℕ) (ch : Change) : Type 0 where
  pub entry : EntryFits i ch.entry
  pub out : AllFit me ch.out

abbrev pub OutcomeFits : ℕ → ℕ → Outcome → Type 0
OutcomeFits i me (Ok ch) = ChangeFits i me ch
OutcomeFits i me (Err e) = Unit {0}

-- Small steps.

split : (i me : ℕ) (t : Bool) (x y : Change) → (t ≡ true → ChangeFits i me x) → (t ≡ false → ChangeFits i me y) → ChangeFits i me (cond t x y)
split i me true x y p q = p refl
split i me false x y p q = q refl

split_outcome : (i me : ℕ) (t : Bool) (x y : Outcome) → (t ≡ true → OutcomeFits i me x) → (t ≡ false → OutcomeFits i me y) → OutcomeFits i me (cond t x y)
split_outcome i me true x y p q = p refl
split_outcome i me false x y p q = q refl

nothing_fits : (i me : ℕ) → ChangeFits i me nothing
nothing_fits i me = record { entry = tt; out = tt }

fit_append : (me : ℕ) (xs ys : List (ℕ × Message)) → AllFit me xs → AllFit me ys → AllFit me (xs ++ ys)
fit_append me [] ys p q = q
fit_append me (x ∷ xs) ys p q = (p.0, p.1, fit_append me xs ys p.2 q)

one_fits : (me n : ℕ) (b : Bool) (m : Message) → (b ≡ true → n ≢ me) → BallotsFit m → AllFit me (cond b ((n, m) ∷ []) [])
one_fits me n true m other fits = (other refl, fits, tt)
one_fits me n false m other fits = tt

those_fit : (me n : ℕ) (p : ℕ → Bool) (m : Message) → ((r : ℕ) → p r ≡ true → r ≢ me) → BallotsFit m → AllFit me (to_those p n m)
those_fit me zero p m other fits = tt
those_fit me (suc n) p m other fits = fit_append me (to_those p n m) _ (those_fit me n p m other fits) (one_fits me n (p n) m (other n) fits)

other_is : (me r : ℕ) → is_other me r ≡ true → r ≢ me
other_is me r e same = absurd (grind (arith, e, same))

fast_is : (l s r : ℕ) → is_fast l s r ≡ true → r ≢ l
fast_is l s r e same = other_is l r (and_parts _ _ e).0 same

default_fits : (i : ℕ) → leader_of i < 256 → BallotFits i (leader_of i)
default_fits i small low = omega arith

-- The phases.

first_fits : (asked : ℕ → Bool) (f i me b s : ℕ) (x : Decree) → ((r : ℕ) → asked r ≡ true → r ≢ me) → BallotFits i b → ChangeFits i me (first_phase asked f i b s x)
first_fits asked f i me b s x other fits =
    record { entry = record { promised = fits; vote = fits }; out = those_fit me (size f) asked (PreAccept i b x) other fits }

accept_fits : (f i me b : ℕ) (x : Decree) → BallotFits i b → ChangeFits i me (accept_phase f i me b x)
accept_fits f i me b x fits =
    record { entry = record { promised = fits; vote = fits }; out = those_fit me (size f) (is_other me) (Accept i b x) (other_is me) fits }

voted_fits : (i : ℕ) (v : Option Vote) → leader_of i < 256 → VoteFits i v → BallotFits i (voted_ballot i v)
voted_fits i None small fits = default_fits i small
voted_fits i (Some v) small fits = fits

commit_record_fits : (i : ℕ) (r : Record) (x : Decree) → leader_of i < 256 → RecordFits i r → RecordFits i (with_commit i r x)
commit_record_fits i r x small fits = record { promised = fits.promised; vote = voted_fits i r.vote small fits.vote }

commit_fits : (f i me : ℕ) (x : Decree) (r : Record) → leader_of i < 256 → RecordFits i r → ChangeFits i me (commit_phase f i me x r)
commit_fits f i me x r small fits =
    record { entry = commit_record_fits i r x small fits; out = those_fit me (size f) (is_other me) (Commit i x) (other_is me) tt }

limited_fits : (i me : ℕ) (own : Attrs) (ch : Change) → ChangeFits i me ch → OutcomeFits i me (limited own ch)
limited_fits i me own ch fits = split_outcome i me (leb own.seq 1000000) (Ok ch) _ (λ e. fits) (λ e. tt)

-- a ballot above one of the instance has a counter
not_least : (i b p : ℕ) → leader_of i < 256 → BallotFits i b → BallotFits i p → b < p → counter_of p ≡ 0 → ⊥
not_least i b p small fits promised less e =
    let owner : owner_of p ≡ leader_of i = promised e in
    let is : p ≡ leader_of i = omega arith in
    let low : counter_of b ≡ 0 = omega arith in
    let other : owner_of b ≡ leader_of i = fits low in
    omega arith

counted_by : (i b p n : ℕ) → leader_of i < 256 → BallotFits i b → BallotFits i p → b < p → counter_of p ≡ n → 1 ≤ n
counted_by i b p zero small fits promised less e = absurd (not_least i b p small fits promised less e)
counted_by i b p (suc n) small fits promised less e = omega arith

counted : (i b p : ℕ) → leader_of i < 256 → BallotFits i b → BallotFits i p → ltb b p ≡ true → 1 ≤ counter_of p
counted i b p small fits promised less = counted_by i b p (counter_of p) small fits promised (ltb-true b p less) refl

nack_fits : (i me from b : ℕ) (r : Record) → leader_of i < 256 → from ≢ me → BallotFits i b → RecordFits i r → ltb b r.promised ≡ true → AllFit me ((from, Nack i b r.promised) ∷ [])
nack_fits i me from b r small other fits record_fits less = (other, (fits, counted i b r.promised small fits record_fits.promised less), tt)

-- The events.

propose_fits : (f i s : ℕ) (c : Command) (own : Attrs) → leader_of i < 256 → OutcomeFits i (leader_of i) (propose f i s c own)
propose_fits f i s c own small =
    limited_fits i (leader_of i) own _ (first_fits (is_fast (leader_of i) s) f i (leader_of i) (leader_of i) s _ (fast_is (leader_of i) s) (default_fits i small))

pre_accept_fits : (i me from b : ℕ) (x : Decree) (own : Attrs) (r : Record) → leader_of i < 256 → from ≢ me → BallotFits i b → RecordFits i r → OutcomeFits i me (on_pre_accept i from b x own r)
pre_accept_fits i me from b x own r small other fits record_fits =
    split_outcome i me (ltb b r.promised) _ _ (λ e. record { entry = tt; out = nack_fits i me from b r small other fits record_fits e })
    (λ e. split_outcome i me (is_done_at b r.vote) (Ok nothing) (limited own (recorded (voted b PreAccepted (with_attrs x (join x.attrs own))) from (PreAcceptOk i b (join x.attrs own)))) (λ d. nothing_fits i me)
    (λ d. limited_fits i me own _ (record { entry = record { promised = fits; vote = fits }; out = (other, fits, tt) })))

on_accept_fits : (i me from b : ℕ) (x : Decree) (r : Record) → leader_of i < 256 → from ≢ me → BallotFits i b → RecordFits i r → ChangeFits i me (on_accept i from b x r)
on_accept_fits i me from b x r small other fits record_fits =
    split i me (ltb b r.promised) _ _ (λ e. record { entry = tt; out = nack_fits i me from b r small other fits record_fits e })
    (λ e. split i me (is_settled_at b r.vote) nothing (recorded (voted b Accepted x) from (AcceptOk i b)) (λ d. nothing_fits i me)
    (λ d. record { entry = record { promised = fits; vote = fits }; out = (other, fits, tt) }))

on_commit_fits : (i me : ℕ) (x : Decree) (r : Record) → leader_of i < 256 → RecordFits i r → ChangeFits i me (on_commit i x r)
on_commit_fits i me x r small record_fits =
    split i me (is_committed r.vote) nothing _ (λ e. nothing_fits i me)
    (λ e. record { entry = commit_record_fits i r x small record_fits; out = tt })

slow_fits : (f i me b : ℕ) (answers : Answers Attrs) (v : Option Vote) → BallotFits i b → ChangeFits i me (slow_path f i me b answers v)
slow_fits f i me b answers None fits = nothing_fits i me
slow_fits f i me b answers (Some v) fits = accept_fits f i me b _ fits

fast_fits : (f i me : ℕ) (a : Attrs) (r : Record) (v : Option Vote) → leader_of i < 256 → RecordFits i r → ChangeFits i me (fast_path f i me a r v)
fast_fits f i me a r None small fits = nothing_fits i me
fast_fits f i me a r (Some v) small fits = commit_fits f i me _ r small fits

kept_fits : (i me : ℕ) (l : LedInstance) → ChangeFits i me (record { entry = None; led = Some (Some l); reported = None; out = [] })
kept_fits i me l = record { entry = tt; out = tt }

count_fits : (f i me b s : ℕ) (a : Attrs) (answers : Answers Attrs) (r : Record) → leader_of i < 256 → BallotFits i b → RecordFits i r → ChangeFits i me (count_pre_accept_ok f i me b s a answers r)
count_fits f i me b s a answers r small fits record_fits =
    split i me (eqb b (leader_of i)) _ _
    (λ e. split i me (fast_answered f (leader_of i) s answers) (cond (all_equal f a answers) (fast_path f i me a r r.vote) (slow_path f i me b answers r.vote)) (kept (Proposing b s answers))
    (λ g. split i me (all_equal f a answers) (fast_path f i me a r r.vote) (slow_path f i me b answers r.vote) (λ h. fast_fits f i me a r r.vote small record_fits) (λ h. slow_fits f i me b answers r.vote fits))
    (λ g. kept_fits i me (Proposing b s answers)))
    (λ e. split i me (leb f (others f me answers)) (slow_path f i me b answers r.vote) (kept (Proposing b s answers)) (λ g. slow_fits f i me b answers r.vote fits) (λ g. kept_fits i me (Proposing b s answers)))

use_fits : (f i me b : ℕ) (a : Attrs) (r : Record) (more : Option (ℕ × ℕ × Answers Attrs)) → leader_of i < 256 → BallotFits i b → RecordFits i r → ChangeFits i me (use_pre_accept_ok f i me b a r more)
use_fits f i me b a r None small fits record_fits = nothing_fits i me
use_fits f i me b a r (Some more) small fits record_fits =
    split i me (is_usable b r more.0) _ nothing (λ e. count_fits f i me b more.1 a more.2 r small fits record_fits) (λ e. nothing_fits i me)

pre_accept_ok_fits : (f i me from b : ℕ) (a : Attrs) (r : Record) (led : Option LedInstance) → leader_of i < 256 → BallotFits i b → RecordFits i r → ChangeFits i me (on_pre_accept_ok f i me from b a r led)
pre_accept_ok_fits f i me from b a r led small fits record_fits = use_fits f i me b a r (more_proposing from a led) small fits record_fits

give_up_with_fits : (f i me b : ℕ) (answers : Answers Attrs) (r : Record) → leader_of i < 256 → OutcomeFits i me (give_up_with f i me b answers r)
give_up_with_fits f i me b answers r small =
    split_outcome i me (is_usable (leader_of i) r b) _ _
    (λ e. split_outcome i me (leb f (others f me answers)) (Ok (slow_path f i me b answers r.vote)) (Err TooFewAnswers)
    (λ g. slow_fits f i me b answers r.vote (subst (BallotFits i) (sym (eqb-true b (leader_of i) (and_parts _ _ e).0)) (default_fits i small)))
    (λ g. tt))
    (λ e. tt)

give_up_fits : (f i me : ℕ) (r : Record) (led : Option LedInstance) → leader_of i < 256 → OutcomeFits i me (give_up f i me r led)
give_up_fits f i me r None small = tt
give_up_fits f i me r (Some (Proposing b s answers)) small = give_up_with_fits f i me b answers r small
give_up_fits f i me r (Some (Accepting b answers)) small = tt
give_up_fits f i me r (Some (Preparing b answers)) small = tt

commit_own_fits : (f i me : ℕ) (r : Record) (v : Option Vote) → leader_of i < 256 → RecordFits i r → ChangeFits i me (commit_own f i me r v)
commit_own_fits f i me r None small fits = nothing_fits i me
commit_own_fits f i me r (Some v) small fits = commit_fits f i me v.decree r small fits

use_accept_fits : (f i me b : ℕ) (r : Record) (more : Option (ℕ × Answers (Unit {0}))) → leader_of i < 256 → RecordFits i r → ChangeFits i me (use_accept_ok f i me b r more)
use_accept_fits f i me b r None small fits = nothing_fits i me
use_accept_fits f i me b r (Some more) small fits =
    split i me (is_usable b r more.0) _ nothing
    (λ e. split i me (leb f (others f me more.1)) (commit_own f i me r r.vote) (kept (Accepting b more.1)) (λ g. commit_own_fits f i me r r.vote small fits) (λ g. kept_fits i me (Accepting b more.1)))
    (λ e. nothing_fits i me)

accept_ok_fits : (f i me from b : ℕ) (r : Record) (led : Option LedInstance) → leader_of i < 256 → RecordFits i r → ChangeFits i me (on_accept_ok f i me from b r led)
accept_ok_fits f i me from b r led small fits = use_accept_fits f i me b r (more_accepting from led) small fits

-- Explicit prepare.

recover_with_fits : (f i me b : ℕ) (c : Command) (own : Attrs) → BallotFits i b → OutcomeFits i me (recover_with f i me b c own)
recover_with_fits f i me b c own fits = limited_fits i me own _ (first_fits (is_other me) f i me b me _ (other_is me) fits)

act_fits : (f i me b : ℕ) (own : Command → Attrs) (r : Record) (choice : Choice) → leader_of i < 256 → BallotFits i b → RecordFits i r → OutcomeFits i me (act_on f i me b own r choice)
act_fits f i me b own r (CommitIt x) small fits record_fits = commit_fits f i me x r small record_fits
act_fits f i me b own r (AcceptIt x) small fits record_fits = accept_fits f i me b x fits
act_fits f i me b own r (AcceptFast x) small fits record_fits = accept_fits f i me b x fits
act_fits f i me b own r (ProposeIt c) small fits record_fits = recover_with_fits f i me b c (own c) fits
act_fits f i me b own r ProposeNoop small fits record_fits = recover_with_fits f i me b _ _ fits

use_prepare_fits : (f i me b : ℕ) (own : Command → Attrs) (r : Record) (more : Option (ℕ × Answers (Option Vote))) → leader_of i < 256 → BallotFits i b → RecordFits i r →
    OutcomeFits i me (use_prepare_ok f i me b own r more)
use_prepare_fits f i me b own r None small fits record_fits = nothing_fits i me
use_prepare_fits f i me b own r (Some more) small fits record_fits =
    split_outcome i me (is_usable b r more.0) _ (Ok nothing)
    (λ e. split_outcome i me (leb (f + 1) (answered_all f more.1)) (act_on f i me b own r (choose f (leader_of i) (λ q. answer more.1 q))) (Ok (kept (Preparing b more.1))) (λ g. act_fits f i me b own r (choose f (leader_of i) (λ q. answer more.1 q)) small fits record_fits) (λ g. kept_fits i me (Preparing b more.1)))
    (λ e. nothing_fits i me)

prepare_ok_fits : (f i me from b : ℕ) (v : Option Vote) (own : Command → Attrs) (r : Record) (led : Option LedInstance) → leader_of i < 256 → BallotFits i b → RecordFits i r →
    OutcomeFits i me (on_prepare_ok f i me from b v own r led)
prepare_ok_fits f i me from b v own r led small fits record_fits = use_prepare_fits f i me b own r (more_preparing from v led) small fits record_fits

prepare_fits : (i me from b : ℕ) (r : Record) → leader_of i < 256 → from ≢ me → 1 ≤ counter_of b → RecordFits i r → ChangeFits i me (on_prepare i from b r)
prepare_fits i me from b r small other counter fits =
    let ballot : BallotFits i b = λ e. absurd (omega arith) in
    split i me (ltb b r.promised) _ _ (λ e. record { entry = tt; out = nack_fits i me from b r small other ballot fits e })
    (λ e. split i me (eqb b r.promised) nothing (recorded (record { promised = b; vote = r.vote }) from (PrepareOk i b r.vote)) (λ g. nothing_fits i me)
    (λ g. record { entry = record { promised = ballot; vote = fits.vote }; out = (other, (counter, fits.vote), tt) }))

recover_fits : (f i me : ℕ) (r : Record) (reported : ℕ) → me < 256 → RecordFits i r → OutcomeFits i me (recover f i me r reported)
recover_fits f i me r reported small fits =
    let n : ℕ = next_counter r reported in
    let is : counter_of (ballot_of n me) ≡ n = div-mul-add n 256 me small in
    let some : 1 ≤ counter_of (ballot_of n me) = subst (λ k. 1 ≤ k) (sym is) (omega arith) in
    let ballot : BallotFits i (ballot_of n me) = λ e. absurd (omega arith) in
    split_outcome i me (is_committed r.vote) _ _ (λ e. tt)
    (λ e. split_outcome i me (leb n highest_counter) (Ok (prepare_phase f i me (ballot_of n me) r)) (Err BallotsExhausted)
    (λ g. record { entry = record { promised = ballot; vote = fits.vote }; out = those_fit me (size f) (is_other me) (Prepare i (ballot_of n me)) (other_is me) some })
    (λ g. tt))

-- A whole step.

abbrev pub PlacedFits : ℕ → Result (ℕ × Change) Refusal → Type 0
PlacedFits me (Ok p) = ChangeFits p.0 me p.1
PlacedFits me (Err e) = Unit {0}

placed_fits : (i me : ℕ) (o : Outcome) → OutcomeFits i me o → PlacedFits me (at i o)
placed_fits i me (Ok ch) fits = fits
placed_fits i me (Err e) fits = tt

found_fits : (i : ℕ) (o : Option Record) → leader_of i < 256 → ((r : Record) → o ≡ Some r → RecordFits i r) → RecordFits i (record_or_fresh i o)
found_fits i None small fits = record { promised = default_fits i small; vote = tt }
found_fits i (Some r) small fits = fits r refl

below : (i n : ℕ) (rest : Bool) → n ≤ 256 → (ltb (leader_of i) n && rest) ≡ true → leader_of i < 256
below i n rest few e = let less : leader_of i < n = ltb-true (leader_of i) n (and_parts (ltb (leader_of i) n) rest e).0 in omega arith

alone : (b : Bool) → b ≡ true → (b && true) ≡ true
alone true e = refl
alone false e = e

handled_fits : (f me from : ℕ) (s : State) (m : Message) → size f ≤ 256 → from ≢ me → StateFits s → BallotsFit m → message_within (size f) m ≡ true → OutcomeFits (instance_of_message m) me (handled f me from s m)
handled_fits f me from s (PreAccept i b x) few other fits ballots w =
    let small : leader_of i < 256 = below i (size f) _ few w in pre_accept_fits i me from b x _ (record_in s i) small other ballots (found_fits i (get s.records i) small (fits i))
handled_fits f me from s (PreAcceptOk i b a) few other fits ballots w =
    let small : leader_of i < 256 = below i (size f) _ few w in pre_accept_ok_fits f i me from b a (record_in s i) (get s.leads i) small ballots (found_fits i (get s.records i) small (fits i))
handled_fits f me from s (Accept i b x) few other fits ballots w =
    let small : leader_of i < 256 = below i (size f) _ few w in on_accept_fits i me from b x (record_in s i) small other ballots (found_fits i (get s.records i) small (fits i))
handled_fits f me from s (AcceptOk i b) few other fits ballots w =
    let small : leader_of i < 256 = below i (size f) _ few w in accept_ok_fits f i me from b (record_in s i) (get s.leads i) small (found_fits i (get s.records i) small (fits i))
handled_fits f me from s (Commit i x) few other fits ballots w =
    let small : leader_of i < 256 = below i (size f) _ few w in on_commit_fits i me x (record_in s i) small (found_fits i (get s.records i) small (fits i))
handled_fits f me from s (Prepare i b) few other fits ballots w =
    let small : leader_of i < 256 = below i (size f) _ few w in prepare_fits i me from b (record_in s i) small other ballots (found_fits i (get s.records i) small (fits i))
handled_fits f me from s (PrepareOk i b v) few other fits ballots w =
    let small : leader_of i < 256 = below i (size f) _ few w in
    let ballot : BallotFits i b = λ e. absurd (let k : 1 ≤ counter_of b = ballots.0 in omega arith) in
    prepare_ok_fits f i me from b v (interference s.records i) (record_in s i) (get s.leads i) small ballot (found_fits i (get s.records i) small (fits i))
handled_fits f me from s (Nack i b p) few other fits ballots w = record { entry = tt; out = tt }

proposed_fits : (f me q : ℕ) (s : State) (c : Command) (n : Option ℕ) → me < 256 → ((k : ℕ) → n ≡ Some k → k < highest_number) → PlacedFits me (proposed f me q s c n)
proposed_fits f me q s c None small low = tt
proposed_fits f me q s c (Some n) small low =
    let less : n < highest_number = low n refl in
    let i : ℕ = instance_of me (n + 1) in
    let is : leader_of i ≡ me = div-mul-add me 65536 (n + 1) (omega arith) in
    placed_fits i me (propose f i q c (interference s.records i c))
    (subst (λ l. OutcomeFits i l (propose f i q c (interference s.records i c))) is (propose_fits f i q c (interference s.records i c) (subst (λ l. l < 256) (sym is) small)))

pub screened_within : (f me : ℕ) (e : Event) (b : Bool) → cond b (cond (is_for me e) None (Some NotMine)) (Some OutOfRange) ≡ None → b ≡ true
screened_within f me e true h = refl
screened_within f me e false h = absurd (cc)

screened_for : (b c : Bool) → cond b (cond c None (Some NotMine)) (Some OutOfRange) ≡ None → c ≡ true
screened_for true true h = refl
screened_for true false h = absurd (cc)
screened_for false c h = absurd (cc)

-- what a replica's event records fits, and what it sends has a spelling
pub acts_fit : (f me : ℕ) (s : State) (e : Event) → size f ≤ 256 → me < size f → StateFits s → EventFits e → screened f me e ≡ None → PlacedFits me (acts f me s e)
unfolding free_number
acts_fit f me s (Propose client request c seen named) few here fits event sc =
    proposed_fits f me (spared f me named) s c (free_number s.records me) (omega arith) (λ k e. (least_some highest_number (is_free s.records me) k e).0)
acts_fit f me s (Handle m) few here fits event sc =
    let w : is_within f me (Handle m) ≡ true = screened_within f me (Handle m) _ sc in
    let mine : m.sent.to ≡ me = eqb-true m.sent.to me (screened_for _ _ sc) in
    let named : message_within (size f) m.sent.message ≡ true = (and_parts _ _ (and_parts _ _ w).1).1 in
    placed_fits _ me _ (handled_fits f me m.sent.from s m.sent.message few (λ same. event.1 (same ∙ sym mine)) fits event.0 named)
acts_fit f me s (GiveUp i) few here fits event sc =
    let small : leader_of i < 256 = below i (size f) true few (alone _ (screened_within f me (GiveUp i) _ sc)) in
    placed_fits i me _ (give_up_fits f i me (record_in s i) (get s.leads i) small)
acts_fit f me s (Recover i) few here fits event sc =
    let small : leader_of i < 256 = below i (size f) true few (alone _ (screened_within f me (Recover i) _ sc)) in
    placed_fits i me _ (recover_fits f i me (record_in s i) (cell_in s i).reported (omega arith) (found_fits i (get s.records i) small (fits i)))
acts_fit f me s (Execute root) few here fits event sc = nothing_fits root me

all_sent : (me : ℕ) (out : List (ℕ × Message)) → AllFit me out → AllSpellable me (sent_from me out)
all_sent me [] fits = tt
all_sent me (m ∷ ms) fits = (fits.0, fits.1, all_sent me ms fits.2)

written_fits : (m : Map Record) (i : ℕ) (x : Record) → RecordFits i x → ((j : ℕ) (r : Record) → get m j ≡ Some r → RecordFits j r) → (j : ℕ) (r : Record) (b : Bool) → eqb j i ≡ b →
    get (insert m i x) j ≡ Some r → RecordFits j r
written_fits m i x fits all j r true e h =
    let is : j ≡ i = eqb-true j i e in
    let here : get (insert m i x) j ≡ Some x = subst (λ k. get (insert m i x) k ≡ Some x) (sym is) (insert_same m i x) in
    let same : x ≡ r = cc in
    subst (λ k. RecordFits k r) (sym is) (subst (RecordFits i) same fits)
written_fits m i x fits all j r false e h =
    all j r (sym (insert_other m i x j (λ is. absurd (let t : eqb j i ≡ true = eq-eqb j i is in cc))) ∙ h)

entry_fits : (m : Map Record) (i : ℕ) (o : Option Record) → EntryFits i o → ((j : ℕ) (r : Record) → get m j ≡ Some r → RecordFits j r) → (j : ℕ) (r : Record) → get (with_entry m i o) j ≡ Some r → RecordFits j r
entry_fits m i None fits all j r h = all j r h
entry_fits m i (Some x) fits all j r h = written_fits m i x fits all j r (eqb j i) refl h

changed_fits : (me : ℕ) (s : State) (o : Result (ℕ × Change) Refusal) → PlacedFits me o → StateFits s → StateFits (changed_by s o)
changed_fits me s (Ok p) fits all = entry_fits s.records p.0 p.1.entry fits.entry all
changed_fits me s (Err e) fits all = all

sent_fits : (me : ℕ) (o : Result (ℕ × Change) Refusal) → PlacedFits me o → AllSpellable me (sent_by me o)
sent_fits me (Ok p) fits = all_sent me p.1.out fits.out
sent_fits me (Err e) fits = tt

-- the state after a step fits, and so does the one at first
pub leaves_fit : (f me : ℕ) (s : State) (e : Event) (done : List (ℕ × Answer)) → size f ≤ 256 → me < size f → StateFits s → EventFits e → screened f me e ≡ None → StateFits (leaves f me s e done)
leaves_fit f me s e done few here fits event sc = changed_fits me s (acts f me s e) (acts_fit f me s e few here fits event sc) fits

pub sends_fit : (f me : ℕ) (s : State) (e : Event) → size f ≤ 256 → me < size f → StateFits s → EventFits e → screened f me e ≡ None → AllSpellable me (sends f me s e)
sends_fit f me s e few here fits event sc = sent_fits me (acts f me s e) (acts_fit f me s e few here fits event sc)

pub fresh_fits : (base : Store) → StateFits (fresh_state base)
fresh_fits base i r h = absurd (let n : get (none {X = Record}) i ≡ None = none_there i in cc)
