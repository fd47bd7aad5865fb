-- A walk over lines, beside the refusals of the nodes.
use Rattle.std.proofs.Common.{◌≡◌, ◌∙◌, ℕ, suc, ◌+◌, ◌<◌, ◌≤◌, cond, Bool, true, false, List, [], ◌∷◌, ◌++◌, length, drop, Option, Some, None, slice_index_or, refl, sym, ap, subst, arith, append_assoc}
use Rattle.std.specs.Prelude.{is_some, replicate}
use Rattle.std.proofs.lemmas.Bool.{eq-eqb, ne_eqb, lt-ltb}
use Rattle.std.proofs.lemmas.List.{append-nil, drop-drop, get_or-replicate}
use Rattle.ep_host.specs.Node.{Node}
use Rattle.ep_host.specs.Tasks.{Use, refusal_at, refusals_in, next_place}
use Rattle.ep_host.specs.declared.task.Task.{Task}
use Rattle.ep_journal.specs.declared.step_fault.StepFault.{StepFault}
use Rattle.ep_journal.specs.declared.refusal.Refusal.{Refusal}
use Rattle.ep_rules.specs.declared.receipt.Receipt.{Receipt}
use Rattle.ep_script.specs.Plan.{SectionPlan}
use Rattle.ep_script.specs.declared.agenda_line.AgendaLine.{AgendaLine}
use Rattle.ep_script.specs.declared.agenda_line.AgendaLine.TheVariants.{Propose, GiveUp, Recover}
use Rattle.ep_run.specs.Asking.{asked_of, proposers_of, asked_by, asked_in}
use Rattle.ep_run.specs.Lines.{refusal_of, refused_in, replica_of}
use Rattle.ep_run.specs.Rings.{fate_of, next_fate, without_next, lines_of, proposers_in}
use Rattle.ep_run.specs.Walks.{left_after, next_refusal, fault_at, IsAt, AreAt, Lists}
use Rattle.ep_run.specs.declared.cursor.Cursor.{Cursor}

-- one node's refusals

next_is : (p : ℕ) → p + 1 < 4294967296 → next_place p ≡ p + 1
next_is p h =
    let below : p < 4294967295 = omega arith in
    let one : suc p ≡ p + 1 = omega arith in
    ap (λ (b : Bool). cond b (suc p) p) (lt-ltb p 4294967295 below) ∙ one

next_up : (p : ℕ) → p ≤ next_place p
next_up p = grind arith

-- a list whose first refusal is at the place, or later
first_here : (p : ℕ) (o : Option StepFault) (rs : List (ℕ × StepFault)) → fault_at p rs ≡ None → fault_at p (refusal_at p o ++ rs) ≡ o
first_here p None rs e = e
first_here p (Some f) rs e = ap (λ (b : Bool). cond b (Some f) None) (eq-eqb p p refl)

first_later : (p q : ℕ) (o : Option StepFault) (rs : List (ℕ × StepFault)) → p < q → fault_at p rs ≡ None → fault_at p (refusal_at q o ++ rs) ≡ None
first_later p q None rs h e = e
first_later p q (Some f) rs h e = ap (λ (b : Bool). cond b (Some f) None) (ne_eqb q p (λ same. omega arith))

none_before : (p q : ℕ) (us : List Use) → p < q → fault_at p (refusals_in q us) ≡ None
none_before p q [] h = refl
none_before p q (u ∷ us) h =
    let up : q ≤ next_place q = next_up q in
    let later : p < next_place q = omega arith in
    first_later p q u.refusal (refusals_in (next_place q) us) h (none_before p (next_place q) us later)

fault_next : (p : ℕ) (us : List Use) → p + 1 < 4294967296 → fault_at p (refusals_in p us) ≡ next_refusal us
fault_next p [] h = refl
fault_next p (u ∷ us) h =
    let is : next_place p ≡ p + 1 = next_is p h in
    let later : p < next_place p = omega arith in
    first_here p u.refusal (refusals_in (next_place p) us) (none_before p (next_place p) us later)

-- the refusal of the line that is passed
pub passed_fault : (p q reported : ℕ) (rs : List (ℕ × StepFault)) (us : List Use) → q ≡ p + 1 → q < 4294967296 → drop reported rs ≡ refusals_in p us → fault_at p (drop reported rs) ≡ next_refusal us
passed_fault p q reported rs us after h is = ap (fault_at p) is ∙ fault_next p us (omega arith)

-- a line that wasn't refused
rest_none : (p : ℕ) (us : List Use) → p + 1 < 4294967296 → next_refusal us ≡ None → refusals_in p us ≡ refusals_in (p + 1) (drop 1 us)
rest_none p [] h none = refl
rest_none p (u ∷ us) h none =
    ap (λ (o : Option StepFault). refusal_at p o ++ refusals_in (next_place p) us) none
    ∙ ap (λ (n : ℕ). refusals_in n us) (next_is p h)

-- one that was
rest_some : (p : ℕ) (us : List Use) (f : StepFault) → p + 1 < 4294967296 → next_refusal us ≡ Some f → drop 1 (refusals_in p us) ≡ refusals_in (p + 1) (drop 1 us)
rest_some p [] f h some = absurd cc
rest_some p (u ∷ us) f h some =
    ap (λ (o : Option StepFault). drop 1 (refusal_at p o ++ refusals_in (next_place p) us)) some
    ∙ ap (λ (n : ℕ). refusals_in n us) (next_is p h)

pub passed_none :
    (p q reported : ℕ) (rs : List (ℕ × StepFault)) (us : List Use) (f : Option StepFault) → q ≡ p + 1 → q < 4294967296 → drop reported rs ≡ refusals_in p us → f ≡ fault_at p (drop reported rs) → is_some f ≡ false →
    drop reported rs ≡ refusals_in q (drop 1 us)
passed_none p q reported rs us None after h is this no-fault =
    is ∙ rest_none p us (omega arith) (sym (passed_fault p q reported rs us after h is) ∙ sym this) ∙ ap (λ (n : ℕ). refusals_in n (drop 1 us)) (sym after)
passed_none p q reported rs us (Some f) after h is this no-fault = absurd cc

pub passed_some :
    (p q reported : ℕ) (rs : List (ℕ × StepFault)) (us : List Use) (f : Option StepFault) → q ≡ p + 1 → q < 4294967296 → drop reported rs ≡ refusals_in p us → f ≡ fault_at p (drop reported rs) → is_some f ≡ true →
    drop (reported + 1) rs ≡ refusals_in q (drop 1 us)
passed_some p q reported rs us None after h is this a-fault = absurd cc
passed_some p q reported rs us (Some f) after h is this a-fault =
    sym (drop-drop 1 reported rs) ∙ ap (drop 1) is ∙ rest_some p us f (omega arith) (sym (passed_fault p q reported rs us after h is) ∙ sym this) ∙ ap (λ (n : ℕ). refusals_in n (drop 1 us)) (sym after)

-- all nodes

-- the start
pub at_start :
    (cs : List Cursor) (ns : List Node) (uses : ℕ → List Use) → cs ≡ replicate (length ns) (record { place = 0; reported = 0 }) →
    ((i : ℕ) (d : Node) → i < length ns → (slice_index_or ns i d).refused ≡ refusals_in 0 (uses i)) → ((i : ℕ) → length ns ≤ i → uses i ≡ []) → AreAt cs ns uses
at_start cs ns uses fresh refusals none = record {
  at =
      λ i c d within.
      let start : Cursor = record { place = 0; reported = 0 } in
      let first : slice_index_or cs i c ≡ start = ap (λ (xs : List Cursor). slice_index_or xs i c) fresh ∙ get_or-replicate (length ns) i start c within in
      subst (λ (k : Cursor). IsAt k (slice_index_or ns i d).refused (uses i)) (sym first) (refusals i d within);
  others = none;
}

-- lists of lines

lines_both : (xs ys : List (ℕ × (ℕ × Task))) (uses : ℕ → List Use) → refused_in (lines_of (xs ++ ys) uses) ≡ refused_in (lines_of xs uses) ++ refused_in (lines_of ys (left_after xs uses))
lines_both [] ys uses = refl
lines_both (x ∷ xs) ys uses =
    let rest : ℕ → List Use = without_next x.1.0 uses in
    let here : List (ℕ × Refusal) = refusal_of x.0 (next_fate (uses x.1.0)) in
    ap (λ (l : List (ℕ × Refusal)). here ++ l) (lines_both xs ys rest) ∙ sym (append_assoc here (refused_in (lines_of xs rest)) (refused_in (lines_of ys (left_after xs rest))))

left_both : (xs ys : List (ℕ × (ℕ × Task))) (uses : ℕ → List Use) → left_after (xs ++ ys) uses ≡ left_after ys (left_after xs uses)
left_both [] ys uses = refl
left_both (x ∷ xs) ys uses = left_both xs ys (without_next x.1.0 uses)

pub lists_both :
    (xs ys : List (ℕ × (ℕ × Task))) (ns : List Node) (xa xb xc : List Cursor) (ps qs rs : List (ℕ × Refusal)) → Lists xs ns xa xb ps qs → Lists ys ns xb xc qs rs → Lists (xs ++ ys) ns xa xc ps rs
lists_both xs ys ns xa xb xc ps qs rs first next = record {
  reported =
      λ uses are.
      let mine : List (ℕ × Refusal) = refused_in (lines_of xs uses) in
      let more : List (ℕ × Refusal) = refused_in (lines_of ys (left_after xs uses)) in
      next.reported (left_after xs uses) (first.rest uses are) ∙ ap (λ (l : List (ℕ × Refusal)). l ++ more) (first.reported uses are) ∙ append_assoc ps mine more ∙ ap (λ (l : List (ℕ × Refusal)). ps ++ l) (sym (lines_both xs ys uses));
  rest = λ uses are. subst (AreAt xc ns) (sym (left_both xs ys uses)) (next.rest (left_after xs uses) (first.rest uses are));
}

-- one line

fate_reported : (number : ℕ) (us : List Use) → refusal_of number (next_fate us) ≡ refusal_of number (fate_of (next_refusal us))
fate_reported number [] = refl
fate_reported number (u ∷ us) = refl

lists_one :
    (number r : ℕ) (task : Task) (ns : List Node) (cs cs' : List Cursor) (rs rs' : List (ℕ × Refusal)) (f : Option StepFault) → ((uses : ℕ → List Use) → AreAt cs ns uses → f ≡ next_refusal (uses r)) →
    ((uses : ℕ → List Use) → AreAt cs ns uses → AreAt cs' ns (without_next r uses)) → rs' ≡ rs ++ refusal_of number (fate_of f) → Lists ((number, (r, task)) ∷ []) ns cs cs' rs rs'
lists_one number r task ns cs cs' rs rs' f why rest is = record {
  reported =
      λ uses are.
      is ∙ ap (λ (l : List (ℕ × Refusal)). rs ++ l)
      (ap (λ (o : Option StepFault). refusal_of number (fate_of o)) (why uses are) ∙ sym (fate_reported number (uses r)) ∙ sym (append-nil (refusal_of number (next_fate (uses r)))));
  rest = rest;
}

pub lists_line :
    (number : ℕ) (line : AgendaLine) (r : ℕ) (ps : List ℕ) (ts : List Receipt) (ns : List Node) (cs cs' : List Cursor) (rs rs' : List (ℕ × Refusal)) (f : Option StepFault) → r ≡ replica_of line →
    ((uses : ℕ → List Use) → AreAt cs ns uses → f ≡ next_refusal (uses r)) → ((uses : ℕ → List Use) → AreAt cs ns uses → AreAt cs' ns (without_next r uses)) →
    rs' ≡ rs ++ refusal_of number (fate_of f) → Lists ((number, asked_of ps ts line) ∷ []) ns cs cs' rs rs'
lists_line number (Propose replica client command named) r ps ts ns cs cs' rs rs' f asks why rest is =
    subst (λ (q : ℕ). Lists ((number, (q, (asked_of ps ts (Propose replica client command named)).1)) ∷ []) ns cs cs' rs rs') asks (lists_one number r (asked_of ps ts (Propose replica client command named)).1 ns cs cs' rs rs' f why rest is)
lists_line number (GiveUp replica i) r ps ts ns cs cs' rs rs' f asks why rest is =
    subst (λ (q : ℕ). Lists ((number, (q, (asked_of ps ts (GiveUp replica i)).1)) ∷ []) ns cs cs' rs rs') asks (lists_one number r (asked_of ps ts (GiveUp replica i)).1 ns cs cs' rs rs' f why rest is)
lists_line number (Recover replica i) r ps ts ns cs cs' rs rs' f asks why rest is =
    subst (λ (q : ℕ). Lists ((number, (q, (asked_of ps ts (Recover replica i)).1)) ∷ []) ns cs cs' rs rs') asks (lists_one number r (asked_of ps ts (Recover replica i)).1 ns cs cs' rs rs' f why rest is)

-- one section more
pub asked_in_more :
    (ps : List ℕ) (ss : List SectionPlan) (s : SectionPlan) (before : List (List Receipt)) → length ss < length before →
    asked_in ps (ss ++ s ∷ []) before ≡ asked_in ps ss before ++ asked_by (proposers_in ps ss) (slice_index_or before (length ss) []) s.lines
asked_in_more ps [] s [] short = absurd (omega arith)
asked_in_more ps [] s (given ∷ before) short = append-nil (asked_by ps given s.lines)
asked_in_more ps (t ∷ ss) s [] short = absurd (omega arith)
asked_in_more ps (t ∷ ss) s (given ∷ before) short =
    let shorter : length ss < length before = omega arith in
    let first : List (ℕ × (ℕ × Task)) = asked_by ps given t.lines in
    let qs : List ℕ = proposers_of ps t.lines in
    ap (λ (l : List (ℕ × (ℕ × Task))). first ++ l) (asked_in_more qs ss s before shorter) ∙ sym (append_assoc first (asked_in qs ss before) (asked_by (proposers_in qs ss) (slice_index_or before (length ss) []) s.lines))
