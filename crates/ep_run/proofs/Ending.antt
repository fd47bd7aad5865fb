-- What a run over rings leaves of its lines.
use Rattle.std.proofs.Common.{◌≡◌, ◌≢◌, ℕ, zero, suc, ◌<◌, ◌≤◌, eqb, cond, Bool, true, false, List, [], ◌∷◌, ◌++◌, length, get_or, refl, sym, ap, subst, ◌∙◌, arith, ⊎_elim, All, drop, Option, Some, None}
use Rattle.std.proofs.lemmas.List.{append-nil}
use Rattle.std.proofs.lemmas.Bool.{cases_lt}
use Rattle.std.proofs.lemmas.Bool.Decides.{eqb_tells}
use Rattle.ep_host.specs.Node.{Node}
use Rattle.ep_host.specs.RingFinishing.{replicas_in, entries_in}
use Rattle.ep_host.specs.Tasks.{Use, tasks_in, events_in, refusals_in, event_made as event_by}
use Rattle.ep_host.specs.declared.task.Task.{Task}
use Rattle.ep_host.proofs.Accepting.{none_after}
use Rattle.ep_journal.specs.declared.entry.Entry.{Entry}
use Rattle.ep_journal.specs.declared.step_fault.StepFault.{StepFault}
use Rattle.ep_journal.specs.Entries.{entries_of}
use Rattle.ep_rules.specs.Journals.{asked_in as asked_in_entries}
use Rattle.ep_rules.specs.Steps.{Event}
use Rattle.ep_journal.specs.declared.refusal.Refusal.{Refusal}
use Rattle.ep_rules.specs.declared.receipt.Receipt.{Receipt}
use Rattle.ep_script.specs.Plan.{SectionPlan}
use Rattle.ep_run.specs.Asking.{asked_in}
use Rattle.ep_run.specs.Lines.{left, Line, asks, event_made, made_at, refused_in, AreBeginnings, AreDone}
use Rattle.ep_run.specs.Rings.{fate_of, next_fate, without_next, lines_of, tasks_at, Begun, HasRun}
use Rattle.ep_run.specs.declared.ran.Ran.{Ran}
use Rattle.ep_run.specs.declared.ring_run.RingRun.{RingRun}
use Rattle.ep_run.proofs.Running.{blank}

pub asks_lines : (asked : List (ℕ × (ℕ × Task))) (uses : ℕ → List Use) → asks (lines_of asked uses) ≡ asked
asks_lines [] uses = refl
asks_lines (a ∷ asked) uses = ap (λ (l : List (ℕ × (ℕ × Task))). a ∷ l) (asks_lines asked (without_next a.1.0 uses))

next_taken : (q r : ℕ) (uses : ℕ → List Use) → q ≡ r → without_next q uses r ≡ drop 1 (uses r)
next_taken q r uses same = ⊎_elim
    (λ (e : (eqb r q ≡ true) × (r ≡ q)). ap (λ (b : Bool). cond b (drop 1 (uses r)) (uses r)) e.0)
    (λ (e : (eqb r q ≡ false) × (r ≢ q)). absurd (e.1 (sym same)))
    (eqb_tells r q)

next_kept : (q r : ℕ) (uses : ℕ → List Use) → q ≢ r → without_next q uses r ≡ uses r
next_kept q r uses other = ⊎_elim
    (λ (e : (eqb r q ≡ true) × (r ≡ q)). absurd (other (sym e.1)))
    (λ (e : (eqb r q ≡ false) × (r ≢ q)). ap (λ (b : Bool). cond b (drop 1 (uses r)) (uses r)) e.0)
    (eqb_tells r q)

event_same : (task : Task) (o : Option StepFault) → event_made task (fate_of o) ≡ event_by task o
event_same task None = refl
event_same task (Some fault) = refl

-- what a replica's next line made, before the others
next_made : (t : Task) (ts rest : List Task) (v : List Use) → t ∷ ts ≡ tasks_in v ++ rest → (rest' : List Task) × (ts ≡ tasks_in (drop 1 v) ++ rest') × (event_made t (next_fate v) ++ events_in (drop 1 v) ≡ events_in v)
next_made t ts rest [] h = (ts, refl, refl)
next_made t ts rest (u ∷ us) h =
    let same : t ≡ u.task = (let e : t ∷ ts ≡ u.task ∷ (tasks_in us ++ rest) = h in cc) in
    let others : ts ≡ tasks_in us ++ rest = (let e : t ∷ ts ≡ u.task ∷ (tasks_in us ++ rest) = h in cc) in
    (rest, others, ap (λ (x : Task). event_made x (fate_of u.refusal) ++ events_in us) same ∙ ap (λ (l : List Event). l ++ events_in us) (event_same u.task u.refusal))

pub made_lines : (r : ℕ) (asked : List (ℕ × (ℕ × Task))) (uses : ℕ → List Use) (rest : List Task) → tasks_at r asked ≡ tasks_in (uses r) ++ rest → made_at r (lines_of asked uses) ≡ events_in (uses r)
made_lines r [] uses rest h = sym (none (uses r) h)
  where
    none : (v : List Use) → [] ≡ tasks_in v ++ rest → events_in v ≡ []
    none [] e = refl
    none (u ∷ us) e = absurd (cc)
made_lines r (a ∷ asked) uses rest h = ⊎_elim
    (λ (e : _).
    let same : a.1.0 ≡ r = e.1 in
    let here : a.1.1 ∷ tasks_at r asked ≡ tasks_in (uses r) ++ rest = subst (λ (b : Bool). cond b (a.1.1 ∷ []) [] ++ tasks_at r asked ≡ tasks_in (uses r) ++ rest) e.0 h in
    let n = next_made a.1.1 (tasks_at r asked) rest (uses r) here in
    let less : without_next a.1.0 uses r ≡ drop 1 (uses r) = next_taken a.1.0 r uses same in
    let later : made_at r (lines_of asked (without_next a.1.0 uses)) ≡ events_in (drop 1 (uses r)) =
    made_lines r asked (without_next a.1.0 uses) n.0 (n.1 ∙ ap (λ (v : List Use). tasks_in v ++ n.0) (sym less)) ∙ ap events_in less in
    ap (λ (b : Bool). cond b (event_made a.1.1 (next_fate (uses a.1.0))) [] ++ made_at r (lines_of asked (without_next a.1.0 uses))) e.0
    ∙ ap (λ (q : ℕ). event_made a.1.1 (next_fate (uses q)) ++ made_at r (lines_of asked (without_next a.1.0 uses))) same
    ∙ ap (λ (l : List Event). event_made a.1.1 (next_fate (uses r)) ++ l) later ∙ n.2)
    (λ (e : _).
    let here : tasks_at r asked ≡ tasks_in (uses r) ++ rest = subst (λ (b : Bool). cond b (a.1.1 ∷ []) [] ++ tasks_at r asked ≡ tasks_in (uses r) ++ rest) e.0 h in
    let same : without_next a.1.0 uses r ≡ uses r = next_kept a.1.0 r uses e.1 in
    ap (λ (b : Bool). cond b (event_made a.1.1 (next_fate (uses a.1.0))) [] ++ made_at r (lines_of asked (without_next a.1.0 uses))) e.0
    ∙ made_lines r asked (without_next a.1.0 uses) rest (here ∙ ap (λ (v : List Use). tasks_in v ++ rest) (sym same)) ∙ ap events_in same)
    (eqb_tells a.1.0 r)

fate_left : (o : Option StepFault) → fate_of o ≢ left
fate_left None e = absurd (cc)
fate_left (Some fault) e = absurd (cc)

-- what there is of it, and what is left
next_done : (t : Task) (ts : List Task) (v : List Use) → t ∷ ts ≡ tasks_in v → (next_fate v ≢ left) × (ts ≡ tasks_in (drop 1 v))
next_done t ts [] h = absurd (cc)
next_done t ts (u ∷ us) h = (fate_left u.refusal, (let e : t ∷ ts ≡ u.task ∷ tasks_in us = h in cc))

pub none_left_of : (asked : List (ℕ × (ℕ × Task))) (uses : ℕ → List Use) → ((r : ℕ) → tasks_at r asked ≡ tasks_in (uses r)) → All (λ (l : Line). l.fate ≢ left) (lines_of asked uses)
none_left_of [] uses h i d low = absurd (omega (arith, low))
none_left_of (a ∷ asked) uses h zero d low = (next_done a.1.1 (tasks_at a.1.0 asked) (uses a.1.0) here).0
  where
    here : a.1.1 ∷ tasks_at a.1.0 asked ≡ tasks_in (uses a.1.0)
    here = ⊎_elim
        (λ (e : _). subst (λ (b : Bool). cond b (a.1.1 ∷ []) [] ++ tasks_at a.1.0 asked ≡ tasks_in (uses a.1.0)) e.0 (h a.1.0))
        (λ (e : _). absurd (e.1 refl))
        (eqb_tells a.1.0 a.1.0)
none_left_of (a ∷ asked) uses h (suc i) d low = none_left_of asked (without_next a.1.0 uses) (λ r. rest r) i d (omega (arith, low))
  where
    rest : (r : ℕ) → tasks_at r asked ≡ tasks_in (without_next a.1.0 uses r)
    rest r = ⊎_elim
        (λ (e : _).
        let here : a.1.1 ∷ tasks_at r asked ≡ tasks_in (uses r) = subst (λ (b : Bool). cond b (a.1.1 ∷ []) [] ++ tasks_at r asked ≡ tasks_in (uses r)) e.0 (h r) in
        let less : without_next a.1.0 uses r ≡ drop 1 (uses r) = next_taken a.1.0 r uses e.1 in
        (next_done a.1.1 (tasks_at r asked) (uses r) here).1 ∙ ap tasks_in (sym less))
        (λ (e : _).
        let here : tasks_at r asked ≡ tasks_in (uses r) = subst (λ (b : Bool). cond b (a.1.1 ∷ []) [] ++ tasks_at r asked ≡ tasks_in (uses r)) e.0 (h r) in
        let same : without_next a.1.0 uses r ≡ uses r = next_kept a.1.0 r uses e.1 in
        here ∙ ap tasks_in (sym same))
        (eqb_tells a.1.0 r)

entries_at : (nodes : List Node) (r : ℕ) (d : Node) → r < length nodes → get_or (entries_in (replicas_in nodes)) r [] ≡ (get_or nodes r d).replica.entries
entries_at [] r d low = absurd (omega (arith, low))
entries_at (n ∷ ns) zero d low = refl
entries_at (n ∷ ns) (suc r) d low = entries_at ns r d (omega (arith, low))

-- these are the lines that were refused, as the nodes report them
abbrev pub Refuses : List SectionPlan → List (ℕ × Refusal) → List Node → Type 0
Refuses sections reported nodes =
    (before : List (List Receipt)) (uses : ℕ → List Use) → (length before ≡ length sections) → ((i : ℕ) (d : Node) → i < length nodes → (get_or nodes i d).refused ≡ refusals_in 0 (uses i)) →
    ((i : ℕ) → length nodes ≤ i → uses i ≡ []) → reported ≡ refused_in (lines_of (asked_in [] sections before) uses)

-- what the lines became
pub are_done :
    (b : Begun) (turns : ℕ) (sections : List SectionPlan) (s : RingRun) (ran : Ran) → HasRun b turns sections s → ran.finished.journals.entries ≡ entries_in (replicas_in s.nodes.items) → ran.receipts.items ≡ s.receipts.items →
    (nodes : List Node) → nodes ≡ s.nodes.items → Refuses sections ran.refused.items nodes → AreDone turns sections ran
are_done b turns sections s ran h journals receipts from same refuses =
    let reported : Refuses sections ran.refused.items s.nodes.items = subst (λ (l : List Node). Refuses sections ran.refused.items l) same refuses in
    let uses : ℕ → List Use = λ r. (h.used r).used in
    let asked = asked_in [] sections h.before in
    let nodes = s.nodes.items in record {
      lines = lines_of asked uses;
      before = h.before;
      given = subst (λ (l : List Receipt). AreBeginnings h.before l) (sym receipts) h.given;
      sectioned = h.sectioned;
      asked = asks_lines asked uses;
      entries = λ r.
          let u = h.used r in
          let events : asked_in_entries (entries_of (get_or (entries_in (replicas_in nodes)) r [])) ≡ events_in u.used = ⊎_elim
          (λ (low : r < length nodes). ap (λ (es : List Entry). asked_in_entries (entries_of es)) (entries_at nodes r blank low) ∙ (u.node blank low).asked)
          (λ (high : length nodes ≤ r). ap (λ (es : List Entry). asked_in_entries (entries_of es)) (none_after nodes r high) ∙ ap events_in (sym (u.others high).0))
          (cases_lt r (length nodes)) in
          ap (λ (es : List (List Entry)). asked_in_entries (entries_of (get_or es r []))) journals ∙ events ∙ sym (made_lines r asked uses u.left u.parts);
      reported = reported h.before uses h.sectioned (λ i d low. ((h.used i).node d low).refused) (λ i high. ((h.used i).others high).0);
      done = λ most. none_left_of asked uses (λ r.
          let u = h.used r in
          let empty : u.left ≡ [] = ⊎_elim
          (λ (low : r < length nodes). sym (u.node blank low).agenda ∙ h.none_left most r blank low)
          (λ (high : length nodes ≤ r). (u.others high).1)
          (cases_lt r (length nodes)) in
          u.parts ∙ ap (λ (l : List Task). tasks_in u.used ++ l) empty ∙ append-nil (tasks_in u.used));
    }
