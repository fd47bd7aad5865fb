-- An execution commits nothing: what waits for an instance that isn't committed waits still, and one try of each instance leaves none that is ready.
use Rattle.std.proofs.Common.{◌≡◌, ℕ, ◌+◌, ◌≤◌, ◌<◌, Bool, true, false, length, List, [], ◌∷◌, ◌++◌, append_assoc, Option, Some, None, inl, inr, refl, sym, ap, ◌∙◌, subst, arith}
use Rattle.std.specs.List.{flat_map}
use Rattle.std.specs.Prelude.{OnErr, Result, Ok, Err}
use Rattle.std.proofs.lemmas.Bool.{cases_lt}
use Rattle.ep_base.specs.Instances.{instance_of, leader_of, number_of}
use Rattle.ep_base.specs.Places.{Has}
use Rattle.ep_journal.proofs.Growing.{state_grows}
use Rattle.ep_journal.specs.Events.{event_of}
use Rattle.ep_journal.specs.declared.entry.Entry.{Entry}
use Rattle.ep_journal.specs.declared.event.Event.{Event as Happening}
use Rattle.ep_journal.specs.declared.event.Event.TheVariants.{Execute}
use Rattle.ep_node.specs.Executing.{IsOutstanding, IsTried}
use Rattle.ep_node.specs.Nodes.{Takes}
use Rattle.ep_replica.proofs.Remembering.{grown}
use Rattle.ep_replica.specs.Applied.{Applied}
use Rattle.ep_replica.specs.Blockers.{Grows}
use Rattle.ep_replica.specs.Kept.{Kept}
use Rattle.ep_replica.specs.Pending.{IsWaiting, state_of}
use Rattle.ep_rules.proofs.Places.{has_left}
use Rattle.ep_rules.specs.Cells.{committed_decree, record_or_fresh}
use Rattle.ep_rules.specs.Graph.{Graph, Reaches}
use Rattle.ep_rules.specs.Graph.Reaches.{itself, onward}
use Rattle.ep_rules.specs.Maps.{get}
use Rattle.ep_rules.specs.Order.{InBlocks, IsPlan}
use Rattle.ep_rules.specs.States.{State, attrs_of, committed_in, graph_in}
use Rattle.ep_rules.specs.Steps.{Executes as Executed, leaves, order_of}
use Rattle.ep_rules.specs.declared.record.Record.{Record}
use Rattle.ep_base.specs.declared.decree.Decree.{Decree}
use Rattle.ep_serve.specs.Acting.{made_since, stopped_since, AreSwept, ExecutesAll, ExecutesEach, IsStampless, IsSwept, LedWantsMemory, NoneIsReady, StopsShort, TriesOne}
use Rattle.ep_serve.specs.declared.pending_answer.PendingAnswer.{PendingAnswer}

-- One execution.

grows : (k k' : Kept) (root : ℕ) → Takes k (Execute root) k' → Grows k k' None
grows k k' root t = grown k (Execute root) t.0 k' None t.1 (λ i named open_. absurd (let e : None ≡ Some i = named in cc))

-- nothing more is committed
same_committed : (k k' : Kept) → Grows k k' None → (i : ℕ) → committed_in (state_of k').records i ≡ committed_in (state_of k).records i
same_committed k k' g i = elim (g.others i) [
  | inl named ↦ absurd (let e : None ≡ Some i = named in cc)
  | inr same ↦ same
]

reach_same : {g g' : Graph} {i j : ℕ} → ((k : ℕ) → g' k ≡ g k) → Reaches g i j → Reaches g' i j
reach_same same itself = itself
reach_same same (onward a r is has) = onward a (reach_same same r) (same _ ∙ is) has

waits_still : (k k' : Kept) (i : ℕ) → Grows k k' None → IsWaiting k i → IsWaiting k' i
waits_still k k' i g w =
    let same : (j : ℕ) → graph_in (state_of k').records j ≡ graph_in (state_of k).records j = (λ j. ap attrs_of (same_committed k k' g j)) in
    (w.0, reach_same same w.1, same w.0 ∙ w.2)

-- each that is left waits, or it waits for none and is still to be tried
abbrev pub Waits : Kept → ℕ → Type 0
Waits k i = IsOutstanding k i → IsWaiting k i

taken_still : (k k' : Kept) (root i : ℕ) → Takes k (Execute root) k' → Waits k i → Waits k' i
taken_still k k' root i t h p =
    let g : Grows k k' None = grows k k' root t in
    waits_still k k' i g (h (record {
      named = p.named;
      decree = p.decree;
      committed = sym (same_committed k k' g i) ∙ p.committed;
      left = λ has. p.left (g.executed i has);
    }))

-- What was executed.

-- the root is among what its execution lists, or was executed before
listed : (g : Graph) (done : List ℕ) (root : ℕ) (blocks : List (List ℕ)) → InBlocks g done root blocks → Has (done ++ flat_map (λ b. b) blocks) root
listed g done root [] h = has_left done [] root (h root itself)
listed g done root (block ∷ blocks) h = subst (λ xs. Has xs root) (append_assoc done block (flat_map (λ b. b) blocks)) (listed g (done ++ block) root blocks h.1)

planned : (g : Graph) (done : List ℕ) (root : ℕ) (order : List ℕ) → IsPlan g done root order → Has (done ++ order) root
planned g done root order (inl p) = has_left done order root p.0
planned g done root order (inr p) = subst (λ xs. Has (done ++ xs) root) (sym p.1.1.1) (listed g done root p.1.1.0 p.1.1.2)

-- the state that the entry leaves
after : (k k' : Kept) (root : ℕ) (e : Entry) → Applied k (Execute root) e k' → state_of k' ≡ leaves k.faults k.me (state_of k) (event_of (Execute root)) e.done
after k k' root e a =
    ap state_of a.appended ∙ state_grows k.opening k.faults k.me k.entries e ∙ ap (λ (h : Happening). leaves k.faults k.me (state_of k) (event_of h) e.done) a.event

executed : (k k' : Kept) (root : ℕ) → Takes k (Execute root) k' → Has (state_of k').executed root
executed k k' root t =
    let e : Entry = t.0 in
    let run : Executed (state_of k) (event_of (Execute root)) e.done = subst (λ (h : Happening). Executed (state_of k) (event_of h) e.done) t.1.event t.1.step.step.executes in
    subst (λ (s : State). Has s.executed root) (sym (after k k' root e t.1)) (planned (graph_in (state_of k).records) (state_of k).executed root (order_of e.done) run.0)

-- One try.

-- the instance that was tried isn't ready any more
tried_waits : (k k' : Kept) (i : ℕ) (done : Bool) → IsTried k i done k' → Waits k' i
tried_waits k k' i true h p = absurd (p.left (executed k k' i h.1))
tried_waits k k' i false h p = subst (λ (x : Kept). Waits x i) (sym h.1) h.0 p

-- neither are others
tried_still : (k k' : Kept) (i j : ℕ) (done : Bool) → IsTried k i done k' → Waits k j → Waits k' j
tried_still k k' i j true h w = taken_still k k' i j h.1 w
tried_still k k' i j false h w = subst (λ (x : Kept). Waits x j) (sym h.1) w

-- what holds at an error holds of what is returned
pub at_error : {A E P : Type 0} (result : Result A E) → P → OnErr result P
at_error (Ok x) p = tt
at_error (Err fault) p = p

-- Several.

abbrev pub ExecutesSome : Kept → Kept → Type 0
ExecutesSome k k' = (roots : List ℕ) × ExecutesEach k roots k'

each_both : (k m k' : Kept) (is js : List ℕ) → ExecutesEach k is m → ExecutesEach m js k' → ExecutesEach k (is ++ js) k'
each_both k m k' [] js h more = subst (λ (x : Kept). ExecutesEach x js k') h more
each_both k m k' (i ∷ is) js h more = (h.0, h.1, h.2, each_both h.0 m k' is js h.3 more)

pub some_none : (k : Kept) → ExecutesSome k k
some_none k = ([], refl)

pub some_both : (k m k' : Kept) → ExecutesSome k m → ExecutesSome m k' → ExecutesSome k k'
some_both k m k' a b = (a.0 ++ b.0, each_both k m k' a.0 b.0 a.1 b.1)

some_tried : (k k' : Kept) (i : ℕ) (done : Bool) → IsTried k i done k' → ExecutesSome k k'
some_tried k k' i true h = (i ∷ [], (k', h.0, h.1, refl))
some_tried k k' i false h = ([], h.1)

each_still : (k k' : Kept) (is : List ℕ) (j : ℕ) → ExecutesEach k is k' → Waits k j → Waits k' j
each_still k k' [] j h w = subst (λ (x : Kept). Waits x j) (sym h) w
each_still k k' (i ∷ is) j h w = each_still h.0 k' is j h.3 (taken_still k h.0 i j h.2 w)

-- one try more of a leader's instances
abbrev pub LedWait : ℕ → ℕ → Kept → Type 0
LedWait r n k = (i : ℕ) → leader_of i ≡ r → number_of i < n → Waits k i

pub led_none : (r : ℕ) (k : Kept) → LedWait r 1 k
led_none r k i led low p = absurd (let some = p.named.1 in omega arith)

led_tried : (r n i : ℕ) (k k' : Kept) (done : Bool) → i ≡ instance_of r n → IsTried k i done k' → LedWait r n k → LedWait r (n + 1) k'
led_tried r n i k k' done is h w j led low = elim (cases_lt (number_of j) n) [
  | inl lt ↦ tried_still k k' i j done h (w j led lt)
  | inr le ↦ (
      let here : i ≡ j = is ∙ (let at : number_of j ≡ n = omega arith in omega arith) in
      subst (λ (x : ℕ). Waits k' x) here (tried_waits k k' i done h))
]

-- a leader's number was tried: the tried one's
pub led_next : (r n i : ℕ) (k k' : Kept) (tried : Bool) → tried ≡ true → i ≡ instance_of r n → TriesOne k i tried k' → LedWait r n k → LedWait r (n + 1) k'
led_next r n i k k' true reported is h w = led_tried r n i k k' h.0 is h.1 w
led_next r n i k k' false reported is h w = absurd (let e : false ≡ true = reported in cc)

pub some_next : (start k k' : Kept) (i : ℕ) (tried : Bool) → ExecutesSome start k → TriesOne k i tried k' → ExecutesSome start k'
some_next start k k' i true s h = some_both start k k' s (some_tried k k' i h.0 h.1)
some_next start k k' i false s h = subst (λ (x : Kept). ExecutesSome start x) (sym h.1) s

-- no stamp is left for one
pub led_stops : (start k k' : Kept) (r i : ℕ) (tried : Bool) → tried ≡ false → ExecutesSome start k → TriesOne k i tried k' → (roots : List ℕ) × ExecutesEach start roots k' × IsSwept r false k'
led_stops start k k' r i true reported s h = absurd (let e : true ≡ false = reported in cc)
led_stops start k k' r i false reported s h = subst (λ (x : Kept). (roots : List ℕ) × ExecutesEach start roots x × IsStampless x) (sym h.1) (s.0, s.1, (i, h.0.0, h.0.1))

each_committed : (k k' : Kept) (is : List ℕ) → ExecutesEach k is k' → (i : ℕ) → committed_in (state_of k').records i ≡ committed_in (state_of k).records i
each_committed k k' [] h i = ap (λ (x : Kept). committed_in (state_of x).records i) h
each_committed k k' (j ∷ js) h i = each_committed h.0 k' js h.3 i ∙ same_committed k h.0 (grows k h.0 j h.2) i

-- all numbers of a leader were tried up to one above which nothing is recorded
pub led_all : (start k : Kept) (r n : ℕ) → ((i : ℕ) (r : Record) → get (state_of start).records i ≡ Some r → number_of i < n) → ExecutesSome start k → LedWait r n k → (roots : List ℕ) × ExecutesEach start roots k × IsSwept r true k
led_all start k r n all s w = (
  s.0,
  s.1,
  λ i led p. elim (cases_lt (number_of i) n) [
    | inl lt ↦ w i led lt p
    | inr le ↦ absurd (
        let was : committed_in (state_of start).records i ≡ Some p.decree = sym (each_committed start k s.0 s.1 i) ∙ p.committed in
        recorded i p.decree (get (state_of start).records i) refl was le)
  ],
)
  where
    recorded : (i : ℕ) (x : Decree) (o : Option Record) → get (state_of start).records i ≡ o → committed_in (state_of start).records i ≡ Some x → n ≤ number_of i → ⊥
    recorded i x None e was le = (let nothing : committed_in (state_of start).records i ≡ None = ap (λ o. committed_decree (record_or_fresh i o).vote) e in let z : None ≡ Some x = sym nothing ∙ was in cc)
    recorded i x (Some q) e was le = (let lt = all i q e in omega (arith, lt, le))

-- memory was wanted for one
pub led_short : (start k k' : Kept) (r n i : ℕ) → i ≡ instance_of r n → ExecutesSome start k → LedWait r n k → IsOutstanding k i × (k' ≡ k) → n < 65536 → (roots : List ℕ) × ExecutesEach start roots k' × LedWantsMemory r k'
led_short start k k' r n i is s w h low = subst (λ (x : Kept). (roots : List ℕ) × ExecutesEach start roots x × LedWantsMemory r x) (sym h.1) (
  s.0,
  s.1,
  record {
    next = i;
    led = omega arith;
    outstanding = h.0;
    lesser = λ j led out less. w j led (omega arith) out;
  },
)

-- Leader by leader.

abbrev pub AllWait : ℕ → Kept → Type 0
AllWait n k = (i : ℕ) → leader_of i < n → Waits k i

pub all_none : (k : Kept) → AllWait 0 k
all_none k i low = absurd (omega arith)

pub every_next : (start k k' : Kept) (n r : ℕ) (swept : Bool) → swept ≡ true → r ≡ n → ExecutesSome start k → AllWait n k → (roots : List ℕ) × ExecutesEach k roots k' × IsSwept r swept k' → ExecutesSome start k' × AllWait (n + 1) k'
every_next start k k' n r false reported is s w h = absurd (let e : false ≡ true = reported in cc)
every_next start k k' n r true reported is s w h = (
  some_both start k k' s (h.0, h.1),
  λ i low. elim (cases_lt (leader_of i) n) [
    | inl lt ↦ each_still k k' h.0 i h.1 (w i lt)
    | inr le ↦ h.2 i (let at : leader_of i ≡ n = omega arith in at ∙ sym is)
  ],
)

pub every_stops : (start k k' : Kept) (r : ℕ) (swept : Bool) → swept ≡ false → ExecutesSome start k → (roots : List ℕ) × ExecutesEach k roots k' × IsSwept r swept k' → (roots : List ℕ) × ExecutesEach start roots k' × IsStampless k'
every_stops start k k' r true reported s h = absurd (let e : true ≡ false = reported in cc)
every_stops start k k' r false reported s h = let all : ExecutesSome start k' = some_both start k k' s (h.0, h.1) in (all.0, all.1, h.2)

pub every_all : (start k : Kept) (n : ℕ) → 7 ≤ n → ExecutesSome start k → AllWait n k → (roots : List ℕ) × ExecutesEach start roots k × NoneIsReady k
every_all start k n past s w = (s.0, s.1, λ i p. w i (let le = p.named.0 in omega arith) p)

pub every_short : (start k k' : Kept) (n r : ℕ) → r ≡ n → ExecutesSome start k → AllWait n k → (roots : List ℕ) × ExecutesEach k roots k' × LedWantsMemory r k' → StopsShort start k'
every_short start k k' n r is s w h =
    let all : ExecutesSome start k' = some_both start k k' s (h.0, h.1) in
    let led : leader_of h.2.next ≡ r = h.2.led in (
      all.0,
      all.1,
      record {
        next = h.2.next;
        outstanding = h.2.outstanding;
        lesser = λ j out less. elim (cases_lt (leader_of j) n) [
          | inl lt ↦ each_still k k' h.0 j h.1 (w j lt) out
          | inr le ↦ h.2.lesser j (omega arith) out less
        ];
      },
    )

-- What is reported.

pub all_swept : (k k' : Kept) (swept : Bool) (from : ℕ) (due : PendingAnswer) → swept ≡ true → (roots : List ℕ) × ExecutesEach k roots k' × AreSwept swept k' → from ≡ length k.entries → due ≡ made_since from k' → ExecutesAll k due k'
all_swept k k' false from due is all starts reported = absurd (let e : false ≡ true = is in cc)
all_swept k k' true from due is all starts reported = (all.0, all.1, inl (all.2, reported ∙ ap (λ n. made_since n k') starts))

pub stopped_sweep : (k k' : Kept) (swept : Bool) (from : ℕ) (due : PendingAnswer) → swept ≡ false → (roots : List ℕ) × ExecutesEach k roots k' × AreSwept swept k' → from ≡ length k.entries → due ≡ stopped_since from k' → ExecutesAll k due k'
stopped_sweep k k' true from due is all starts reported = absurd (let e : true ≡ false = is in cc)
stopped_sweep k k' false from due is all starts reported = (all.0, all.1, inr (all.2, reported ∙ ap (λ n. stopped_since n k') starts))
