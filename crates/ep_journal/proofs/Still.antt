-- A refusal that is remembered holds.
use Rattle.std.proofs.Common.{◌≡◌, inl, inr, ℕ, Bool, true, false, cond, leb, List, Option, Some, None, Result, Ok, Err, refl, sym, ap, subst, ◌∙◌}
use Rattle.ep_base.specs.declared.attrs.Attrs.{Attrs}
use Rattle.ep_base.specs.Instances.{number_of}
use Rattle.ep_base.specs.Places.{Has}
use Rattle.ep_base.specs.Versions.{highest_in}
use Rattle.ep_rules.specs.Cells as rules
use Rattle.ep_rules.specs.Cells.{Refusal}
use Rattle.ep_rules.specs.Graph.{Graph, Reaches}
use Rattle.ep_rules.specs.Graph.Reaches.{itself, onward}
use Rattle.ep_rules.specs.Order.{IsBlocked, IsClosed}
use Rattle.ep_rules.specs.States.{graph_in}
use Rattle.ep_rules.specs.Steps.{Refuses, screened, leaves, Execute as Executes}
use Rattle.ep_journal.specs.Blocks.{IsStill, root_of, IsKnown, kept_by, IsRemembered}
use Rattle.ep_journal.specs.Events.{event_of, numbered_in}
use Rattle.ep_journal.specs.Standing.{Standing, Advances, IsRefused, IsSound}
use Rattle.ep_journal.specs.Stepping.{Steps, entry_by}
use Rattle.ep_journal.specs.declared.blocked.Blocked.{Blocked}
use Rattle.ep_journal.specs.declared.entry.Entry.{Entry}
use Rattle.ep_journal.specs.declared.event.Event.{Event as Happening}
use Rattle.ep_journal.specs.declared.event.Event.TheVariants.{Propose, Handle, GiveUp, Recover, Execute}
use Rattle.ep_journal.specs.declared.mark.Mark.{Mark}
use Rattle.ep_journal.specs.declared.step_fault.StepFault.{StepFault}
use Rattle.ep_journal.specs.declared.step_fault.StepFault.TheVariants.{OutOfRange, NotCommitted}
use Rattle.ep_journal.specs.declared.taken.Taken.{Taken}

is_execute : (event : Happening) (r : ℕ) → root_of event ≡ Some r → event ≡ Execute r
is_execute (Propose client request c seen named) r e = absurd (cc)
is_execute (Handle b) r e = absurd (cc)
is_execute (GiveUp i) r e = absurd (cc)
is_execute (Recover i) r e = absurd (cc)
is_execute (Execute i) r e = let same : i ≡ r = cc in ap Execute same

-- Asked again.

refused_again : (s : Standing) (b : Blocked) (m : Mark) → IsStill s (Some b) → IsRefused s (Execute b.root) (Some m) (NotCommitted b.missing)
refused_again s b m h = inr (inr (inr (inr (rules.NotCommitted b.missing, record { readable = tt; versioned = h.0; room = λ _. tt; named = refl; refuses = h.1; marked = λ is. absurd (cc) }))))

pub known_refused : (s : Standing) (last : Option Blocked) (event : Happening) (mark : Option Mark) (i : ℕ) → IsStill s last → IsKnown last (root_of event) mark i → IsRefused s event mark (NotCommitted i)
known_refused s last event mark i h k =
    let b : Blocked = k.0 in
    let m : Mark = k.1 in
    let held : IsStill s (Some b) = subst (IsStill s) k.2 h in
    let again = refused_again s b m held in
    let one = subst (λ e. IsRefused s e (Some m) (NotCommitted b.missing)) (sym (is_execute event b.root k.3)) again in
    let two = subst (λ o. IsRefused s event o (NotCommitted b.missing)) (sym k.4) one in
    subst (λ j. IsRefused s event mark (NotCommitted j)) (sym k.5) two

-- Remembered.

-- a version lacks a number by another fault
numbered_by : (b : Bool) (i : ℕ) → cond {A = Option StepFault} b None (Some OutOfRange) ≡ Some (NotCommitted i) → ⊥
numbered_by true i e = absurd (cc)
numbered_by false i e = absurd (cc)

refused_then : (s : Standing) (b : Blocked) (mark : Option Mark) → IsRefused s (Execute b.root) mark (NotCommitted b.missing) → IsStill s (Some b)
refused_then s b mark (inl e) = absurd (cc)
refused_then s b mark (inr (inl h)) = absurd (numbered_by (leb (number_of b.root) (highest_in s.version)) b.missing h.1)
refused_then s b mark (inr (inr (inl h))) = let e = h.0 in absurd (cc)
refused_then s b mark (inr (inr (inr (inl h)))) = let e = h.0 in absurd (cc)
refused_then s b mark (inr (inr (inr (inr h)))) =
    let why : Refusal = h.0 in
    let e : Some (rules.NotCommitted b.missing) ≡ Some why = h.1.named in
    let same : rules.NotCommitted b.missing ≡ why = cc in
    (h.1.versioned, subst (Refuses s.faults s.me s.state (Executes b.root)) (sym same) h.1.refuses)

-- what is closed under dependencies is closed under reach
reached_done : (g : Graph) (done : List ℕ) → IsClosed g done → {i j : ℕ} → Has done i → Reaches g i j → Has done j
reached_done g done closed h itself = h
reached_done g done closed h (onward {j = j} {k = k} a r e d) =
    let c = closed j (reached_done g done closed h r) in
    let both : Some c.0 ≡ Some a = sym c.1 ∙ e in
    let same : c.0 ≡ a = cc in
    c.2 k (subst (λ (x : Attrs). Has x.deps k) (sym same) d)

-- a root waits as before, whatever else is executed
blocked_still : (g : Graph) (done done' : List ℕ) (root i : ℕ) → IsClosed g done' → IsBlocked g done root i → IsBlocked g done' root i
blocked_still g done done' root i closed b = record {
  left = λ h. (let c = closed i (reached_done g done' closed h b.reached) in let none : Some c.0 ≡ None = sym c.1 ∙ b.missing in absurd (cc));
  reached = b.reached;
  missing = b.missing;
  least = b.least;
}

-- the screen looks at the cluster's size alone
screened_same : (f f' me me' root : ℕ) → f' ≡ f → screened f' me' (Executes root) ≡ screened f me (Executes root)
screened_same f f' me me' root e = ap (λ x. screened x me (Executes root)) e

-- the refusal holds as long as the records are the same, whatever else is executed
still_after : (s s' : Standing) (last : Option Blocked) → IsSound s' → s'.version ≡ s.version → s'.faults ≡ s.faults → s'.state.records ≡ s.state.records → IsStill s last → IsStill s' last
still_after s s' None sound v f r h = tt
still_after s s' (Some b) sound v f r h = (
  ap (λ w. numbered_in w b.root) v ∙ h.0,
  elim h.1 [
    | inl e ↦ inl (screened_same s.faults s'.faults s.me s'.me b.root f ∙ e)
    | inr p ↦ inr (
      screened_same s.faults s'.faults s.me s'.me b.root f ∙ p.0,
      elim p.1 [
        | inl e ↦ let never : ⊥ = cc in absurd never
        | inr w ↦ inr (w.0, w.1, blocked_still (graph_in s'.state.records) s.state.executed s'.state.executed b.root w.0 sound.closed (subst (λ rs. IsBlocked (graph_in rs) s.state.executed b.root w.0) (sym r) w.2))
      ],
    )
  ],
)

still_taken : (s s' : Standing) (last : Option Blocked) (root : Option ℕ) (mark : Mark) (event : Happening) (e : Entry) → root_of event ≡ root → IsSound s' → Advances s mark event e s' → IsStill s last → IsStill s' (kept_by root last)
still_taken s s' last None mark event e is sound a h = tt
still_taken s s' last (Some r) mark event e is sound a h =
    let left : s' ≡ record s { state = leaves s.faults s.me s.state (Executes r) e.done } = a.leaves ∙ ap (λ x. record s { state = leaves s.faults s.me s.state (event_of x) e.done }) (is_execute event r is) in
    still_after s s' last sound (ap (λ (x : Standing). x.version) left) (ap (λ (x : Standing). x.faults) left) (ap (λ (x : Standing). x.state.records) left) h

-- The state after a step.

pub still : (s s' : Standing) (last now : Option Blocked) (event : Happening) (mark : Option Mark) (r : Result Taken StepFault) → IsSound s' → Steps s event mark r s' → IsStill s last → IsRemembered last (root_of event) r now → IsStill s' now
still s s' last now event None (Ok t) sound steps h is = absurd steps
still s s' last now event (Some m) (Ok t) sound steps h is = subst (IsStill s') (sym is) (still_taken s s' last (root_of event) m event (entry_by m event t) refl sound steps h)
still s s' last now event mark (Err fault) sound steps h (inl is) = rw (is, steps.1) h
still s s' last now event mark (Err fault) sound steps h (inr b) =
    let x : Blocked = b.0 in
    let one = subst (λ e. IsRefused s e mark fault) (is_execute event x.root b.1) steps.0 in
    let two = subst (λ f. IsRefused s (Execute x.root) mark f) b.2 one in
    rw (b.3, steps.1) (refused_then s x mark two)
