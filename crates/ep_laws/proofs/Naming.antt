-- What replicas know of is a finite list.
use Rattle.std.proofs.Common.{◌≡◌, ℕ, zero, suc, ◌<◌, ◌≤◌, max, Bool, true, false, cond, eqb, ltb, Option, Some, None, List, [], ◌∷◌, ◌++◌, sym, subst, inl, inr, ◌⊎◌, arith}
use Rattle.std.proofs.lemmas.Bool.{and_parts, lt-ltb, ltb-true}
use Rattle.std.specs.List.{filter}
use Rattle.ep_base.specs.Ballots.{owner_of}
use Rattle.ep_base.specs.Instances.{leader_of}
use Rattle.ep_base.specs.Places.{Has}
use Rattle.ep_base.specs.Quorums.{size}
use Rattle.ep_base.specs.declared.attrs.Attrs.{Attrs}
use Rattle.ep_base.specs.declared.vote.Vote.{Vote}
use Rattle.ep_base.proofs.Places.{Has-first}
use Rattle.ep_rules.specs.Answers.{Answers, answer}
use Rattle.ep_rules.specs.Maps.{entries}
use Rattle.ep_rules.specs.States.{State}
use Rattle.ep_rules.specs.Steps.{are_within, vote_within}
use Rattle.ep_rules.specs.Worlds.{World, opening, ends}
use Rattle.ep_rules.specs.declared.led_instance.LedInstance.{LedInstance}
use Rattle.ep_rules.specs.declared.led_instance.LedInstance.TheVariants.{Proposing, Accepting, Preparing}
use Rattle.ep_rules.specs.declared.record.Record.{Record}
use Rattle.ep_rules.proofs.Places.{has_cons, has_tail, has_left, has_right, has_filter, filter_has}
use Rattle.ep_laws.specs.Finishing.{CanSurvey}
use Rattle.ep_laws.specs.Known.{VoteHas, LedHas, Within, KnowsWithin}
use Rattle.ep_laws.proofs.Entries.{AllEntries, all_get}
use Rattle.ep_laws.proofs.Sound.{RecordSound, LedSound, StateSound, WorldSound, run_sound, opening_sound}
use Rattle.ep_laws.proofs.Spreading.{EntryWithin, in_all}

-- Instances and a bound for which it holds, and for any more of them.
record Bound (H : List ℕ → ℕ → Type 0) : Type 0 where
  is : List ℕ
  most : ℕ
  holds : (js : List ℕ) (n : ℕ) → ((j : ℕ) → Has is j → Has js j) → most ≤ n → H js n

both : (H K : List ℕ → ℕ → Type 0) → Bound H → Bound K → Bound (λ is m. H is m × K is m)
both H K a b = record {
  is = a.is ++ b.is;
  most = max a.most b.most;
  holds = λ js n up le. (a.holds js n (λ j h. up j (has_left a.is b.is j h)) (omega arith), b.holds js n (λ j h. up j (has_right a.is b.is j h)) (omega arith));
}

changed : (H K : List ℕ → ℕ → Type 0) → ((is : List ℕ) (m : ℕ) → H is m → K is m) → Bound H → Bound K
changed H K f a = record { is = a.is; most = a.most; holds = λ js n up le. f js n (a.holds js n up le) }

always : (H : List ℕ → ℕ → Type 0) → ((is : List ℕ) (m : ℕ) → H is m) → Bound H
always H f = record { is = []; most = 0; holds = λ js n up le. f js n }

attrs_bound : (a : Attrs) → Bound (λ is m. Within is m a)
attrs_bound a = record { is = a.deps; most = a.seq; holds = λ js n up le. record { deps = up; seq = le } }

vote_bound : (v : Option Vote) → Bound (λ is m. VoteHas (Within is m) v)
vote_bound None = always _ (λ is m. tt)
vote_bound (Some v) = attrs_bound v.decree.attrs

-- all answers have it
abbrev Each : {X : Type 0} → (X → Type 0) → Answers X → Type 0
Each {X} P answers = (r : ℕ) (x : X) → answer answers r ≡ Some x → P x

each_one : {X : Type 0} (P : X → Type 0) (y : ℕ × X) (answers : Answers X) → P y.1 → Each P answers → Each P (y ∷ answers)
each_one {X} P y answers p all r x e = go (eqb y.0 r) e
  where
    go : (b : Bool) → cond b (Some y.1) (answer answers r) ≡ Some x → P x
    go true e = let same : y.1 ≡ x = cc in subst P same p
    go false e = all r x e

answers_bound : {X : Type 0} (P : List ℕ → ℕ → X → Type 0) → ((x : X) → Bound (λ is m. P is m x)) → (answers : Answers X) → Bound (λ is m. Each (P is m) answers)
answers_bound P one [] = always _ (λ is m r x e. absurd (cc))
answers_bound P one (y ∷ answers) =
    changed (λ is m. P is m y.1 × Each (P is m) answers) (λ is m. Each (P is m) (y ∷ answers)) (λ is m h. each_one (P is m) y answers h.0 h.1)
    (both (λ is m. P is m y.1) (λ is m. Each (P is m) answers) (one y.1) (answers_bound P one answers))

led_bound : (l : LedInstance) → Bound (λ is m. LedHas (Within is m) l)
led_bound (Proposing b s answers) = answers_bound (λ is m a. Within is m a) attrs_bound answers
led_bound (Accepting b answers) = always _ (λ is m. tt)
led_bound (Preparing b answers) = answers_bound (λ is m v. VoteHas (Within is m) v) vote_bound answers

entries_bound : {X : Type 0} (P : List ℕ → ℕ → ℕ → X → Type 0) → ((j : ℕ) (x : X) → Bound (λ is m. P is m j x)) → (es : List (ℕ × X)) → Bound (λ is m. AllEntries (P is m) es)
entries_bound P one [] = always _ (λ is m. tt)
entries_bound P one (e ∷ es) = both (λ is m. P is m e.0 e.1) (λ is m. AllEntries (P is m) es) (one e.0 e.1) (entries_bound P one es)

named_bound : (j : ℕ) → Bound (λ is m. Has is j)
named_bound j = record { is = j ∷ []; most = 0; holds = λ js n up le. up j (Has-first j []) }

entry_bound : (j : ℕ) (x : Record) → Bound (λ is m. EntryWithin is m j x)
entry_bound j x = both (λ is m. Has is j) (λ is m. VoteHas (Within is m) x.vote) (named_bound j) (vote_bound x.vote)

abbrev StateWithin : List ℕ → ℕ → State → Type 0
StateWithin is m s = AllEntries (EntryWithin is m) (entries s.records) × AllEntries (λ (j : ℕ) (l : LedInstance). LedHas (Within is m) l) (entries s.leads)

state_bound : (s : State) → Bound (λ is m. StateWithin is m s)
state_bound s =
    both (λ is m. AllEntries (EntryWithin is m) (entries s.records)) (λ is m. AllEntries (λ (j : ℕ) (l : LedInstance). LedHas (Within is m) l) (entries s.leads))
    (entries_bound (λ is m j x. EntryWithin is m j x) entry_bound (entries s.records))
    (entries_bound (λ is m j l. LedHas (Within is m) l) (λ j l. led_bound l) (entries s.leads))

below_suc : (n r : ℕ) → r < suc n → (r ≡ n) ⊎ (r < n)
below_suc n r h = grind arith

states_bound : (n : ℕ) (states : ℕ → State) → Bound (λ is m. (r : ℕ) → r < n → StateWithin is m (states r))
states_bound zero states = always _ (λ is m r lt. absurd (omega arith))
states_bound (suc n) states =
    changed (λ is m. StateWithin is m (states n) × ((r : ℕ) → r < n → StateWithin is m (states r))) (λ is m. (r : ℕ) → r < suc n → StateWithin is m (states r))
    (λ is m h r lt. elim (below_suc n r lt) [ inl e ↦ subst (λ k. StateWithin is m (states k)) (sym e) h.0 | inr less ↦ h.1 r less ])
    (both (λ is m. StateWithin is m (states n)) (λ is m. (r : ℕ) → r < n → StateWithin is m (states r)) (state_bound (states n)) (states_bound n states))

-- Those of the cluster: no other is named.
module _ (n root : ℕ) (is : List ℕ) (m : ℕ) where
  abbrev of_cluster : List ℕ
  of_cluster = root ∷ filter (λ j. ltb (leader_of j) n) is

  stays : (j : ℕ) → leader_of j < n → Has is j → Has of_cluster j
  stays j lead h = has_tail root j (filter (λ k. ltb (leader_of k) n) is) (filter_has (λ k. ltb (leader_of k) n) is j (lt-ltb (leader_of j) n lead) h)

  leaders : leader_of root < n → (j : ℕ) → Has of_cluster j → leader_of j < n
  leaders lead j h = elim (has_cons root j (filter (λ k. ltb (leader_of k) n) is) h) [
    | inl e ↦ subst (λ k. leader_of k < n) e lead
    | inr k ↦ ltb-true _ _ (has_filter (λ k. ltb (leader_of k) n) is j k).1
  ]

  lead_of : (js : List ℕ) → are_within n js ≡ true → (j : ℕ) → Has js j → leader_of j < n
  lead_of [] w j h = absurd (omega arith)
  lead_of (x ∷ js) w j h =
      let t = and_parts (ltb (leader_of x) n) (are_within n js) w in
      elim (has_cons x j js h) [ inl e ↦ subst (λ k. leader_of k < n) e (ltb-true _ _ t.0) | inr k ↦ lead_of js t.1 j k ]

  in_cluster : (a : Attrs) → are_within n a.deps ≡ true → Within is m a → Within of_cluster m a
  in_cluster a w h = record { deps = λ j k. stays j (lead_of a.deps w j k) (h.deps j k); seq = h.seq }

  vote_in : (v : Option Vote) → vote_within n v ≡ true → VoteHas (Within is m) v → VoteHas (Within of_cluster m) v
  vote_in None w h = tt
  vote_in (Some v) w h = in_cluster v.decree.attrs (and_parts (ltb (owner_of v.ballot) n) _ w).1 h

  led_in : (l : LedInstance) → LedSound n l → LedHas (Within is m) l → LedHas (Within of_cluster m) l
  led_in (Proposing b s answers) w h = λ r a e. in_cluster a (w r a e) (h r a e)
  led_in (Accepting b answers) w h = tt
  led_in (Preparing b answers) w h = λ r v e. vote_in v (w r v e) (h r v e)

  entries_in : (es : List (ℕ × Record)) → AllEntries (λ (j : ℕ) (x : Record). leader_of j < n) es → AllEntries (λ (j : ℕ) (x : Record). RecordSound n j x) es → AllEntries (EntryWithin is m) es → AllEntries (EntryWithin of_cluster m) es
  entries_in [] a b c = tt
  entries_in (e ∷ es) a b c = ((stays e.0 a.0 c.0.0, vote_in e.1.vote (b.0).vote c.0.1), entries_in es a.1 b.1 c.1)

  state_in : (s : State) → StateSound n s → StateWithin is m s → KnowsWithin of_cluster m s
  state_in s ok h = record {
    recorded = in_all (EntryWithin of_cluster m) (entries s.records) (entries_in (entries s.records) ok.ranged ok.records h.0);
    led = λ j l e. led_in l (ok.leads j l e) (all_get (λ (k : ℕ) (y : LedInstance). LedHas (Within is m) y) s.leads j l h.1 e);
  }

pub can_survey_lem : CanSurvey
can_survey_lem base f few acts run live root lead =
    let w : World = ends f (opening base) acts in
    let sound : WorldSound f w = run_sound f few acts (opening base) run (opening_sound f base) in
    let t = states_bound (size f) w.states in
    record {
      is = of_cluster (size f) root t.is t.most;
      most = t.most;
      rooted = Has-first root (filter (λ j. ltb (leader_of j) (size f)) t.is);
      led = leaders (size f) root t.is t.most lead;
      known = λ r low lives. state_in (size f) root t.is t.most (w.states r) (sound.states r) (t.holds t.is t.most (λ j h. h) (omega arith) r low);
    }
