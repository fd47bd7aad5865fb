-- What a replica remembers stays true as its journal grows.
use Rattle.std.proofs.Common.{◌≡◌, ◌≢◌, ◌⊎◌, inl, inr, ℕ, ◌+◌, ◌≤◌, Bool, true, Option, Some, None, Ok, Err, List, [], length, IfSome, IsSome, refl, sym, ap, subst, ◌∙◌, arith}
use Rattle.std.proofs.lemmas.Bool.{cases_eq}
use Rattle.ep_base.specs.Instances.{instance_of, leader_of, number_of, highest_number}
use Rattle.ep_base.specs.Messages.{instance_of_message}
use Rattle.ep_base.specs.Places.{Has}
use Rattle.ep_base.specs.declared.attrs.Attrs.{Attrs}
use Rattle.ep_base.specs.Commands.{Command}
use Rattle.ep_base.specs.declared.decree.Decree.{Decree}
use Rattle.ep_base.specs.declared.reply.Answer.{Answer}
use Rattle.ep_base.specs.declared.vote.VoteStatus.TheVariants.{PreAccepted}
use Rattle.ep_base.specs.Quorums.{spared, is_fast}
use Rattle.ep_rules.specs.Cells.{SeqExhausted, committed_decree, record_or_fresh, voted}
use Rattle.ep_rules.specs.Graph.{Graph, Reaches}
use Rattle.ep_rules.specs.Graph.Reaches.{itself, onward}
use Rattle.ep_rules.specs.InterferenceSet.{interference}
use Rattle.ep_rules.specs.Maps.{get}
use Rattle.ep_rules.specs.Phases.{Outcome, first_phase, propose}
use Rattle.ep_rules.specs.States.{State, fresh_state, with_entry, committed_in, attrs_of, graph_in, free_number}
use Rattle.ep_rules.specs.Steps.{Event, Propose, Handle, GiveUp, Recover, Execute, at, proposed, changed_by, leaves, order_of}
use Rattle.ep_rules.specs.declared.record.Record.{Record}
use Rattle.ep_rules.proofs.JournalsKeep.{leaves_stays}
use Rattle.ep_rules.proofs.Keeping.{split}
use Rattle.ep_rules.proofs.Local.{free_found}
use Rattle.ep_rules.proofs.Lookups.{insert_same, insert_other, none_there}
use Rattle.ep_rules.proofs.Places.{has_left}
use Rattle.ep_journal.specs.Events.{event_of}
use Rattle.ep_journal.specs.declared.entry.Entry.{Entry}
use Rattle.ep_journal.specs.declared.event.Event.{Event as Happening}
use Rattle.ep_journal.specs.Leaving.{state_left}
use Rattle.ep_journal.specs.Openings.{opens}
use Rattle.ep_journal.proofs.Growing.{state_grows}
use Rattle.ep_replica.specs.Applied.{Applied}
use Rattle.ep_replica.specs.Blockers.{is_due, blocker_of, IsBlockedBy, Remembers, about, Grows, Wakes, MayBeSetAside}
use Rattle.ep_replica.specs.Kept.{Kept}
use Rattle.ep_replica.specs.Pending.{state_of, IsPending, IsWaiting}
use Rattle.ep_replica.proofs.Waking.{wakes_more}

-- Which instance a step may commit.

-- a change of one instance leaves the others
at_other : (s : State) (i : ℕ) (o : Outcome) (j : ℕ) → j ≢ i → committed_in (changed_by s (at i o)).records j ≡ committed_in s.records j
at_other s i (Ok ch) j ne = go ch.entry
  where
    go : (e : Option Record) → committed_in (with_entry s.records i e) j ≡ committed_in s.records j
    go None = refl
    go (Some r) = ap (λ o. committed_decree (record_or_fresh j o).vote) (insert_other s.records i r j ne)
at_other s i (Err e) j ne = refl

-- a command that is proposed isn't committed by that
first_none : (s : State) (f i q : ℕ) (c : Command) (own : Attrs) → get s.records i ≡ None → committed_in (changed_by s (at i (propose f i q c own))).records i ≡ committed_in s.records i
first_none s f i q c own free =
    let x : Decree = record { command = c; attrs = own } in
    let r : Record = voted (leader_of i) PreAccepted x in
    split (λ o. committed_in (changed_by s (at i o)).records i ≡ committed_in s.records i) _ (Ok (first_phase (is_fast (leader_of i) q) f i (leader_of i) q x)) (Err SeqExhausted)
    (λ t. ap (λ o. committed_decree (record_or_fresh i o).vote) (insert_same s.records i r) ∙ sym (ap (λ o. committed_decree (record_or_fresh i o).vote) free))
    (λ t. refl)

proposed_none : (f me q : ℕ) (s : State) (c : Command) (o : Option ℕ) → free_number s.records me ≡ o → (j : ℕ) → committed_in (changed_by s (proposed f me q s c o)).records j ≡ committed_in s.records j
proposed_none f me q s c None e j = refl
proposed_none f me q s c (Some n) e j =
    let i : ℕ = instance_of me (n + 1) in
    let own : Attrs = interference s.records i c in
    elim (cases_eq j i) [
      | inl is ↦ subst (λ z. committed_in (changed_by s (at i (propose f i q c own))).records z ≡ committed_in s.records z) (sym is) (first_none s f i q c own (free_found s.records me n e).1)
      | inr ne ↦ at_other s i (propose f i q c own) j ne
    ]

at_about : (s : State) (i : ℕ) (o : Outcome) (j : ℕ) → (Some i ≡ Some j) ⊎ (committed_in (changed_by s (at i o)).records j ≡ committed_in s.records j)
at_about s i o j = elim (cases_eq j i) [
  | inl is ↦ inl (ap (λ z. Some z) (sym is))
  | inr ne ↦ inr (at_other s i o j ne)
]

pub commits_about : (f me : ℕ) (s : State) (e : Event) (done : List (ℕ × Answer)) (j : ℕ) → (about e ≡ Some j) ⊎ (committed_in (leaves f me s e done).records j ≡ committed_in s.records j)
commits_about f me s (Propose client request c seen named) done j = inr (proposed_none f me (spared f me named) s c (free_number s.records me) refl j)
commits_about f me s (Handle m) done j = at_about s (instance_of_message m.sent.message) _ j
commits_about f me s (GiveUp i) done j = at_about s i _ j
commits_about f me s (Recover i) done j = at_about s i _ j
commits_about f me s (Execute root) done j = inr refl

-- One entry more.

-- the state that the entry leaves
after : (k : Kept) (taken : Happening) (e : Entry) (k' : Kept) → Applied k taken e k' → state_of k' ≡ leaves k.faults k.me (state_of k) (event_of taken) e.done
after k taken e k' a =
    ap state_of a.appended ∙ state_grows k.opening k.faults k.me k.entries e ∙ ap (λ (h : Happening). leaves k.faults k.me (state_of k) (event_of h) e.done) a.event

pub grown : (k : Kept) (taken : Happening) (e : Entry) (k' : Kept) (subject : Option ℕ) → Applied k taken e k' → ((i : ℕ) → about (event_of taken) ≡ Some i → committed_in (state_of k).records i ≡ None → subject ≡ Some i) → Grows k k' subject
grown k taken e k' subject a named =
    let is : state_of k' ≡ leaves k.faults k.me (state_of k) (event_of taken) e.done = after k taken e k' a in
    let keeps : (i : ℕ) (x : Decree) → committed_in (state_of k).records i ≡ Some x → committed_in (state_of k').records i ≡ Some x =
    (λ i x h. ap (λ (s : State). committed_in s.records i) is ∙ leaves_stays k.faults k.me (state_of k) (event_of taken) e.done i x h) in
    record {
      me = ap (λ (z : Kept). z.me) a.appended;
      stays = keeps;
      others = λ i. elim (commits_about k.faults k.me (state_of k) (event_of taken) e.done i) [
        | inl here ↦ open_or_kept i here (committed_in (state_of k).records i) refl keeps
        | inr same ↦ inr (ap (λ (s : State). committed_in s.records i) is ∙ same)
      ];
      executed = λ i h. subst (λ (s : State). Has s.executed i) (sym is) (has_left (state_of k).executed (order_of e.done) i h);
    }
  where
    open_or_kept : (i : ℕ) → about (event_of taken) ≡ Some i → (o : Option Decree) → committed_in (state_of k).records i ≡ o
        → ((i : ℕ) (x : Decree) → committed_in (state_of k).records i ≡ Some x → committed_in (state_of k').records i ≡ Some x)
        → (subject ≡ Some i) ⊎ (committed_in (state_of k').records i ≡ committed_in (state_of k).records i)
    open_or_kept i here None was keeps = inl (named i here was)
    open_or_kept i here (Some x) was keeps = inr (keeps i x was ∙ sym was)

-- What was reached and what was pending.

reach_grows : {g g' : Graph} {i j : ℕ} → ((k : ℕ) (a : Attrs) → g k ≡ Some a → g' k ≡ Some a) → Reaches g i j → Reaches g' i j
reach_grows grows itself = itself
reach_grows grows (onward a r is has) = onward a (reach_grows grows r) (grows _ a is) has

attrs_stay : (o o' : Option Decree) (a : Attrs) → ((x : Decree) → o ≡ Some x → o' ≡ Some x) → attrs_of o ≡ Some a → attrs_of o' ≡ Some a
attrs_stay None o' a keeps is = absurd (cc)
attrs_stay (Some x) o' a keeps is = ap attrs_of (keeps x refl) ∙ is

graph_stays : (k k' : Kept) (subject : Option ℕ) → Grows k k' subject → (i : ℕ) (a : Attrs) → graph_in (state_of k).records i ≡ Some a → graph_in (state_of k').records i ≡ Some a
graph_stays k k' subject g i a is = attrs_stay (committed_in (state_of k).records i) (committed_in (state_of k').records i) a (λ x was. g.stays i x was) is

-- what blocked blocks still, where it isn't committed
blocks_still : (k k' : Kept) (subject : Option ℕ) → Grows k k' subject → (i j : ℕ) → committed_in (state_of k').records j ≡ None → IsBlockedBy k i j → IsBlockedBy k' i j
blocks_still k k' subject g i j none b = (reach_grows (graph_stays k k' subject g) b.0, ap attrs_of none)

attrs_none : (o : Option Decree) → attrs_of o ≡ None → o ≡ None
attrs_none None is = refl
attrs_none (Some x) is = absurd (cc)

other_blocks : (k k' : Kept) (subject : Option ℕ) → Grows k k' subject → (i j : ℕ) → subject ≢ Some j → IsBlockedBy k i j → IsBlockedBy k' i j
other_blocks k k' subject g i j ne b = elim (g.others j) [
  | inl is ↦ absurd (ne is)
  | inr same ↦ blocks_still k k' subject g i j (same ∙ attrs_none (committed_in (state_of k).records j) b.1) b
]

-- an instance that is pending was so, unless it is the one that was committed
pending_before : (k k' : Kept) (subject : Option ℕ) → Grows k k' subject → (i : ℕ) → IsPending k' i → IsPending k i ⊎ (subject ≡ Some i)
pending_before k k' subject g i p = go (committed_in (state_of k).records i) refl
  where
    go : (o : Option Decree) → committed_in (state_of k).records i ≡ o → IsPending k i ⊎ (subject ≡ Some i)
    go (Some x) was = inl (record { named = p.named; own = p.own ∙ g.me; decree = x; committed = was; left = λ h. p.left (g.executed i h) })
    go None was = elim (g.others i) [
      | inl is ↦ inr is
      | inr same ↦ absurd (let e : None ≡ Some p.decree = sym was ∙ sym same ∙ p.committed in cc)
    ]

-- What is remembered.

if_some : {A : Type 0} (P Q : A → Type 0) (o : Option A) → ((x : A) → o ≡ Some x → P x → Q x) → IfSome o P → IfSome o Q
if_some P Q None go h = tt
if_some P Q (Some x) go h = go x refl h

-- nothing was committed
pub still : (k k' : Kept) (subject : Option ℕ) (due : List Bool) (blockers : List (Option ℕ)) → Grows k k' subject → ((i : ℕ) → subject ≡ Some i → committed_in (state_of k').records i ≡ None)
    → Remembers k due blockers → Remembers k' due blockers
still k k' subject due blockers g open_still h = record {
  blocked = λ n le.
      subst (λ m. IfSome (blocker_of blockers n) (IsBlockedBy k' (instance_of m n))) (sym g.me)
      (if_some (IsBlockedBy k (instance_of k.me n)) (IsBlockedBy k' (instance_of k.me n)) (blocker_of blockers n) (λ j is b. each (instance_of k.me n) j b) (h.blocked n le));
  found = λ n some le p.
      elim (pending_before k k' subject g (instance_of k'.me n) p) [
        | inl was ↦ h.found n some le (subst (λ m. IsPending k (instance_of m n)) g.me was)
        | inr is ↦ absurd (let e : None ≡ Some p.decree = sym (open_still (instance_of k'.me n) is) ∙ p.committed in cc)
      ];
}
  where
    each : (i j : ℕ) → IsBlockedBy k i j → IsBlockedBy k' i j
    each i j b = elim (g.others j) [
      | inl is ↦ blocks_still k k' subject g i j (open_still j is) b
      | inr same ↦ blocks_still k k' subject g i j (same ∙ attrs_none (committed_in (state_of k).records j) b.1) b
    ]

-- this instance was committed
pub woken : (k k' : Kept) (c : ℕ) (due due' : List Bool) (blockers blockers' : List (Option ℕ)) → Grows k k' (Some c) → ((n : ℕ) → Wakes c (blocker_of blockers n) (blocker_of blockers' n) (is_due due' n))
    → ((n : ℕ) → is_due due n ≡ true → is_due due' n ≡ true) → (leader_of c ≡ k'.me → is_due due' (number_of c) ≡ true) → Remembers k due blockers → Remembers k' due' blockers'
woken k k' c due due' blockers blockers' g wakes more own h = record {
  blocked = λ n le. elim (wakes n) [
    | inl w ↦ subst (λ o. IfSome o (IsBlockedBy k' (instance_of k'.me n))) (sym w.0)
        (subst (λ m. IfSome (blocker_of blockers n) (IsBlockedBy k' (instance_of m n))) (sym g.me)
        (if_some (IsBlockedBy k (instance_of k.me n)) (IsBlockedBy k' (instance_of k.me n)) (blocker_of blockers n)
        (λ j is b. other_blocks k k' (Some c) g (instance_of k.me n) j (λ same. w.1 (is ∙ sym same)) b) (h.blocked n le)))
    | inr w ↦ subst (λ o. IfSome o (IsBlockedBy k' (instance_of k'.me n))) (sym w.0) tt
  ];
  found = λ n some le p.
      elim (pending_before k k' (Some c) g (instance_of k'.me n) p) [
        | inl was ↦ elim (h.found n some le (subst (λ m. IsPending k (instance_of m n)) g.me was)) [
          | inl is ↦ inl (more n is)
          | inr has ↦ elim (wakes n) [
            | inl w ↦ inr (subst (λ o. IsSome o) (sym w.0) has)
            | inr w ↦ inl w.1
          ]
        ]
        | inr is ↦ (
            let here : c ≡ instance_of k'.me n = (cc) in
            let number : number_of c ≡ n = omega arith in
            let lead : leader_of c ≡ k'.me = omega arith in
            inl (subst (λ m. is_due due' m ≡ true) number (own lead)))
      ];
}

-- the same, where an own one is added to what was woken
pub woken_own : (k k' : Kept) (subject : Option ℕ) (c : ℕ) (due mid due' : List Bool) (blockers blockers' : List (Option ℕ)) → subject ≡ Some c → Grows k k' subject
    → ((n : ℕ) → Wakes c (blocker_of blockers n) (blocker_of blockers' n) (is_due mid n)) → ((n : ℕ) → is_due due n ≡ true → is_due mid n ≡ true) → ((n : ℕ) → is_due mid n ≡ true → is_due due' n ≡ true)
    → is_due due' (number_of c) ≡ true → Remembers k due blockers → Remembers k' due' blockers'
woken_own k k' subject c due mid due' blockers blockers' is g wakes more added own h =
    woken k k' c due due' blockers blockers' (subst (λ s. Grows k k' s) is g) (λ n. wakes_more c (blocker_of blockers n) (blocker_of blockers' n) (is_due mid n) (is_due due' n) (added n) (wakes n))
    (λ n due_there. added n (more n due_there)) (λ lead. own) h

pub woken_other : (k k' : Kept) (subject : Option ℕ) (c : ℕ) (due due' : List Bool) (blockers blockers' : List (Option ℕ)) → subject ≡ Some c → Grows k k' subject
    → ((n : ℕ) → Wakes c (blocker_of blockers n) (blocker_of blockers' n) (is_due due' n)) → ((n : ℕ) → is_due due n ≡ true → is_due due' n ≡ true) → leader_of c ≢ k'.me → Remembers k due blockers
    → Remembers k' due' blockers'
woken_other k k' subject c due due' blockers blockers' is g wakes more other h = woken k k' c due due' blockers blockers' (subst (λ s. Grows k k' s) is g) wakes more (λ lead. absurd (other lead)) h

-- the instance that may have been committed wasn't
pub not_committed : (k k' : Kept) (subject : Option ℕ) (c : ℕ) (due : List Bool) (blockers : List (Option ℕ)) → subject ≡ Some c → committed_in (state_of k').records c ≡ None → Grows k k' subject → Remembers k due blockers
    → Remembers k' due blockers
not_committed k k' subject c due blockers is none g h =
    still k k' subject due blockers g (λ i named. (let same : c ≡ i = (let e : Some c ≡ Some i = sym is ∙ named in cc) in subst (λ z. committed_in (state_of k').records z ≡ None) same none)) h

pub no_subject : (k k' : Kept) (subject : Option ℕ) (due : List Bool) (blockers : List (Option ℕ)) → subject ≡ None → Grows k k' subject → Remembers k due blockers → Remembers k' due blockers
no_subject k k' subject due blockers is g h = still k k' subject due blockers g (λ i named. absurd (let e : None ≡ Some i = sym is ∙ named in cc)) h

-- an own instance is set aside
pub set_aside : (k : Kept) (m : ℕ) (blocker : Option ℕ) (due due' : List Bool) (blockers blockers' : List (Option ℕ)) → MayBeSetAside k (instance_of k.me m) blocker → blocker_of blockers' m ≡ blocker
    → ((n : ℕ) → n ≢ m → blocker_of blockers' n ≡ blocker_of blockers n) → ((n : ℕ) → n ≢ m → is_due due n ≡ true → is_due due' n ≡ true) → Remembers k due blockers → Remembers k due' blockers'
set_aside k m blocker due due' blockers blockers' may here others more h = record {
  blocked = λ n le. elim (cases_eq n m) [
    | inl is ↦ subst (λ z. IfSome (blocker_of blockers' z) (IsBlockedBy k (instance_of k.me z))) (sym is) (subst (λ o. IfSome o (IsBlockedBy k (instance_of k.me m))) (sym here) (blocks blocker may))
    | inr ne ↦ subst (λ o. IfSome o (IsBlockedBy k (instance_of k.me n))) (sym (others n ne)) (h.blocked n le)
  ];
  found = λ n some le p. elim (cases_eq n m) [
    | inl is ↦ inr (subst (λ z. IsSome (blocker_of blockers' z)) (sym is) (subst (λ o. IsSome o) (sym here) (has blocker may (subst (λ z. IsPending k (instance_of k.me z)) is p))))
    | inr ne ↦ elim (h.found n some le p) [
      | inl due_there ↦ inl (more n ne due_there)
      | inr there ↦ inr (subst (λ o. IsSome o) (sym (others n ne)) there)
    ]
  ];
}
  where
    blocks : (o : Option ℕ) → MayBeSetAside k (instance_of k.me m) o → IfSome o (IsBlockedBy k (instance_of k.me m))
    blocks None may = tt
    blocks (Some j) may = may

    has : (o : Option ℕ) → MayBeSetAside k (instance_of k.me m) o → IsPending k (instance_of k.me m) → IsSome o
    has None may p = absurd (may p)
    has (Some j) may p = refl

-- same tables under other places
pub same_tables : (k : Kept) (due due' : List Bool) (blockers blockers' : List (Option ℕ)) → ((n : ℕ) → is_due due' n ≡ is_due due n) → ((n : ℕ) → blocker_of blockers' n ≡ blocker_of blockers n) → Remembers k due blockers
    → Remembers k due' blockers'
same_tables k due due' blockers blockers' same_due same_blockers h = record {
  blocked = λ n le. subst (λ o. IfSome o (IsBlockedBy k (instance_of k.me n))) (sym (same_blockers n)) (h.blocked n le);
  found = λ n some le p. elim (h.found n some le p) [
    | inl is ↦ inl (same_due n ∙ is)
    | inr has ↦ inr (subst (λ o. IsSome o) (sym (same_blockers n)) has)
  ];
}

-- A new replica remembers nothing.

pub nothing_fits : (due : List Bool) (blockers : List (Option ℕ)) → blockers ≡ [] → length blockers ≤ length due
nothing_fits due blockers none = subst (λ (bs : List (Option ℕ)). length bs ≤ length due) (sym none) (omega arith)

-- all own instances up to a number above which nothing is recorded are due
pub all_due : (k : Kept) (due : List Bool) (blockers : List (Option ℕ)) (top : ℕ) → blockers ≡ [] → ((n : ℕ) → 1 ≤ n → n ≤ top → is_due due n ≡ true) → ((i : ℕ) (r : Record) → get (state_of k).records i ≡ Some r → number_of i ≤ top) → Remembers k due blockers
all_due k due blockers top none due_there all = record {
  blocked = λ n le. subst (λ bs. IfSome (blocker_of bs n) (IsBlockedBy k (instance_of k.me n))) (sym none) tt;
  found = λ n some le p. inl (due_there n some (let low = recorded n le p (get (state_of k).records (instance_of k.me n)) refl in low));
}
  where
    recorded : (n : ℕ) → n ≤ highest_number → IsPending k (instance_of k.me n) → (o : Option Record) → get (state_of k).records (instance_of k.me n) ≡ o → n ≤ top
    recorded n le p None e = absurd (let nothing : committed_in (state_of k).records (instance_of k.me n) ≡ None = ap (λ z. committed_decree (record_or_fresh (instance_of k.me n) z).vote) e in let z : None ≡ Some p.decree = sym nothing ∙ p.committed in cc)
    recorded n le p (Some r) e = (let low = all (instance_of k.me n) r e in omega (arith, low, le))

pub nothing_yet : (k : Kept) (due : List Bool) (blockers : List (Option ℕ)) → k.entries ≡ [] → due ≡ [] → blockers ≡ [] → Remembers k due blockers
nothing_yet k due blockers new no_due no_blockers = record {
  blocked = λ n le. subst (λ bs. IfSome (blocker_of bs n) (IsBlockedBy k (instance_of k.me n))) (sym no_blockers) tt;
  found = λ n some le p. absurd (
      let i : ℕ = instance_of k.me n in
      let fresh : committed_in (state_of k).records i ≡ committed_in (fresh_state (opens k.opening)).records i = ap (λ es. committed_in (state_left k.opening k.faults k.me es).records i) new in
      let nothing : committed_in (fresh_state (opens k.opening)).records i ≡ None = ap (λ o. committed_decree (record_or_fresh i o).vote) (none_there i) in
      let e : None ≡ Some p.decree = sym (fresh ∙ nothing) ∙ p.committed in
      cc);
}

-- What is waited for.

-- a blocked instance waits
blocked_waits : (k : Kept) (i : ℕ) (o : Option ℕ) → IfSome o (IsBlockedBy k i) → IsSome o → IsWaiting k i
blocked_waits k i None b has = absurd (cc)
blocked_waits k i (Some j) b has = (j, b.0, b.1)

pub undue_waits : (k : Kept) (due : List Bool) (blockers : List (Option ℕ)) (n : ℕ) → Remembers k due blockers → 1 ≤ n → n ≤ highest_number → is_due due n ≢ true → IsPending k (instance_of k.me n) → IsWaiting k (instance_of k.me n)
undue_waits k due blockers n h some le ne p = elim (h.found n some le p) [
  | inl is ↦ absurd (ne is)
  | inr has ↦ blocked_waits k (instance_of k.me n) (blocker_of blockers n) (h.blocked n le) has
]
