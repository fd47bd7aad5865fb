-- What an act does to a world, said of cells and messages.
use Rattle.std.proofs.Common.{◌≡◌, ◌≢◌, ℕ, ◌+◌, ◌<◌, Bool, true, false, cond, ◌&&◌, ltb, Option, Some, None, Result, Ok, Err, ◌++◌, refl, sym, ap, subst, ◌∙◌, inl, inr, arith}
use Rattle.std.proofs.lemmas.Bool.{and_parts, eq-eqb, ne_eqb, ltb-true, cases_eq}
use Rattle.ep_base.specs.Instances.{instance_of, leader_of, highest_number}
use Rattle.ep_base.specs.Messages.{instance_of_message}
use Rattle.ep_base.specs.Quorums.{size, spared}
use Rattle.ep_base.specs.Commands.{Command}
use Rattle.ep_base.specs.declared.message.Message.{Message}
use Rattle.ep_base.specs.declared.message.Message.TheVariants.{PreAccept, PreAcceptOk, Accept, AcceptOk, Commit, Prepare, PrepareOk, Nack}
use Rattle.ep_rules.specs.Cells.{Change, Refusal}
use Rattle.ep_rules.specs.Maps.{Map, get}
use Rattle.ep_rules.specs.Phases.{Outcome}
use Rattle.ep_rules.specs.States.{State, cell_in, or_zero, with_entry, with_led, changed, free_number}
use Rattle.ep_rules.specs.Steps.{Sent, Event, Propose, Handle, GiveUp, Recover, Execute, message_within, is_within, is_for, screened, at, proposed, acts, changed_by, sent_from, sent_by, leaves, IsTaken}
use Rattle.ep_rules.specs.Worlds.{World, Act, moved}
use Rattle.ep_rules.specs.declared.led_instance.LedInstance.{LedInstance}
use Rattle.ep_rules.specs.declared.record.Record.{Record}
use Rattle.ep_rules.proofs.Keeping.{newer, newer_entry, applied}
use Rattle.ep_rules.proofs.Local.{free_found}
use Rattle.ep_rules.proofs.Lookups.{insert_same, insert_other, remove_same, remove_other}

-- One state.

entry_here : (m : Map Record) (i : ℕ) (o : Option Record) → get (with_entry m i o) i ≡ newer_entry o (get m i)
entry_here m i None = refl
entry_here m i (Some x) = insert_same m i x

led_here : (m : Map LedInstance) (i : ℕ) (o : Option (Option LedInstance)) → get (with_led m i o) i ≡ newer o (get m i)
led_here m i None = refl
led_here m i (Some None) = remove_same m i
led_here m i (Some (Some x)) = insert_same m i x

reported_here : (m : Map ℕ) (i : ℕ) (o : Option ℕ) → or_zero (get (with_entry m i o) i) ≡ newer o (or_zero (get m i))
reported_here m i None = refl
reported_here m i (Some x) = ap or_zero (insert_same m i x)

entry_other : {X : Type 0} (m : Map X) (i : ℕ) (o : Option X) (j : ℕ) → j ≢ i → get (with_entry m i o) j ≡ get m j
entry_other m i None j ne = refl
entry_other m i (Some x) j ne = insert_other m i x j ne

led_other : (m : Map LedInstance) (i : ℕ) (o : Option (Option LedInstance)) (j : ℕ) → j ≢ i → get (with_led m i o) j ≡ get m j
led_other m i None j ne = refl
led_other m i (Some None) j ne = remove_other m i j ne
led_other m i (Some (Some x)) j ne = insert_other m i x j ne

pub cell_here : (s : State) (i : ℕ) (ch : Change) → cell_in (changed s i ch) i ≡ applied (cell_in s i) ch
cell_here s i ch = λ k. record { entry = entry_here s.records i ch.entry k; led = led_here s.leads i ch.led k; reported = reported_here s.reported i ch.reported k }

pub cell_other : (s : State) (i : ℕ) (ch : Change) (j : ℕ) → j ≢ i → cell_in (changed s i ch) j ≡ cell_in s j
cell_other s i ch j ne = λ k. record { entry = entry_other s.records i ch.entry j ne k; led = led_other s.leads i ch.led j ne k; reported = ap or_zero (entry_other s.reported i ch.reported j ne) k }

-- Worlds.

-- w' is w after r changed instance n
pub record Moved (w w' : World) (r n : ℕ) (ch : Change) : Type 0 where
  pub here : cell_in (w'.states r) n ≡ applied (cell_in (w.states r) n) ch
  pub apart : (k i : ℕ) → k ≢ r → cell_in (w'.states k) i ≡ cell_in (w.states k) i
  pub elsewhere : (k i : ℕ) → i ≢ n → cell_in (w'.states k) i ≡ cell_in (w.states k) i
  pub sent : w'.sent ≡ w.sent ++ sent_from r ch.out

state_apart : (f : ℕ) (w : World) (a : Act) (k : ℕ) → k ≢ a.replica → (moved f w a).states k ≡ w.states k
state_apart f w a k ne = ap (λ b. cond b (leaves f k (w.states k) a.event a.done) (w.states k)) (ne_eqb a.replica k (λ e. ne (sym e)))

state_here : (f : ℕ) (w : World) (a : Act) → (moved f w a).states a.replica ≡ leaves f a.replica (w.states a.replica) a.event a.done
state_here f w a = ap (λ b. cond b (leaves f a.replica (w.states a.replica) a.event a.done) (w.states a.replica)) (eq-eqb a.replica a.replica refl)

pub moves : (f : ℕ) (w : World) (a : Act) (p : ℕ × Change) → acts f a.replica (w.states a.replica) a.event ≡ Ok p → Moved w (moved f w a) a.replica p.0 p.1
moves f w a p e =
    let r = a.replica in
    let by : (i : ℕ) → cell_in ((moved f w a).states r) i ≡ cell_in (changed (w.states r) p.0 p.1) i = λ i. ap (λ s. cell_in s i) (state_here f w a) ∙ ap (λ o. cell_in (changed_by (w.states r) o) i) e in
    record {
      here = by p.0 ∙ cell_here (w.states r) p.0 p.1;
      apart = λ k i ne. ap (λ s. cell_in s i) (state_apart f w a k ne);
      elsewhere = λ k i ne. elim (cases_eq k r) [
        | inl at ↦ subst (λ q. cell_in ((moved f w a).states q) i ≡ cell_in (w.states q) i) (sym at) (by i ∙ cell_other (w.states r) p.0 p.1 i ne)
        | inr ne ↦ ap (λ s. cell_in s i) (state_apart f w a k ne)
      ];
      sent = ap (λ o. w.sent ++ sent_by r o) e;
    }

-- an event that is taken changes something
pub taken_of : (o : Result (ℕ × Change) Refusal) → IsTaken o → (p : ℕ × Change) × (o ≡ Ok p)
taken_of (Ok p) t = (p, refl)
taken_of (Err e) t = absurd t

-- What is screened.

screens : (a b : Bool) (x y : Refusal) → cond a (cond b None (Some x)) (Some y) ≡ None → (a ≡ true) × (b ≡ true)
screens true true x y e = (refl, refl)
screens true false x y e = absurd (cc)
screens false b x y e = absurd (cc)

pub unscreened : (f me : ℕ) (e : Event) → screened f me e ≡ None → (is_within f me e ≡ true) × (is_for me e ≡ true)
unscreened f me e none = screens (is_within f me e) (is_for me e) _ _ none

-- every act is in an instance that one of the replicas leads

abbrev pub IsIn : ℕ → Result (ℕ × Change) Refusal → Type 0
IsIn f (Ok p) = leader_of p.0 < size f
IsIn f (Err e) = Unit {0}

is_in_at : (f i : ℕ) (o : Outcome) → leader_of i < size f → IsIn f (at i o)
is_in_at f i (Ok ch) lt = lt
is_in_at f i (Err e) lt = tt

pub message_in : (n : ℕ) (m : Message) → message_within n m ≡ true → leader_of (instance_of_message m) < n
message_in n (PreAccept i b x) e = ltb-true _ _ (and_parts (ltb (leader_of i) n) _ e).0
message_in n (PreAcceptOk i b a) e = ltb-true _ _ (and_parts (ltb (leader_of i) n) _ e).0
message_in n (Accept i b x) e = ltb-true _ _ (and_parts (ltb (leader_of i) n) _ e).0
message_in n (AcceptOk i b) e = ltb-true _ _ (and_parts (ltb (leader_of i) n) _ e).0
message_in n (Commit i x) e = ltb-true _ _ (and_parts (ltb (leader_of i) n) _ e).0
message_in n (Prepare i b) e = ltb-true _ _ (and_parts (ltb (leader_of i) n) _ e).0
message_in n (PrepareOk i b v) e = ltb-true _ _ (and_parts (ltb (leader_of i) n) _ e).0
message_in n (Nack i b p) e = ltb-true _ _ (and_parts (ltb (leader_of i) n) _ e).0

pub handled_in : (n : ℕ) (s : Sent) → (ltb s.from n && (ltb s.to n && message_within n s.message)) ≡ true → leader_of (instance_of_message s.message) < n
handled_in n s e = message_in n s.message (and_parts (ltb s.to n) (message_within n s.message) (and_parts (ltb s.from n) _ e).1).1

own_leader : (me n : ℕ) → n < highest_number → leader_of (instance_of me (n + 1)) ≡ me
own_leader me n lt = omega arith

proposed_in : (f me k : ℕ) (s : State) (c : Command) → me < size f → (n : Option ℕ) → free_number s.records me ≡ n → IsIn f (proposed f me k s c n)
proposed_in f me k s c low None e = tt
proposed_in f me k s c low (Some n) e = is_in_at f (instance_of me (n + 1)) _ (subst (λ l. l < size f) (sym (own_leader me n (free_found s.records me n e).0)) low)

pub acts_in : (f me : ℕ) (s : State) (e : Event) → me < size f → is_within f me e ≡ true → IsIn f (acts f me s e)
acts_in f me s (Propose client request c seen named) low e = proposed_in f me (spared f me named) s c low (free_number s.records me) refl
acts_in f me s (Handle m) low e = is_in_at f _ _ (handled_in (size f) m.sent e)
acts_in f me s (GiveUp i) low e = is_in_at f i _ (ltb-true _ _ e)
acts_in f me s (Recover i) low e = is_in_at f i _ (ltb-true _ _ e)
acts_in f me s (Execute root) low e = ltb-true _ _ e
