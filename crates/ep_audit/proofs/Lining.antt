-- The lines that are made are those of the history.
use Rattle.std.proofs.Common.{◌≡◌, ◌↔◌, ℕ, zero, suc, ◌+◌, ◌<◌, ◌≤◌, Bool, true, false, cond, ◌⊎◌, inl, inr, Option, Some, None, List, [], ◌∷◌, ◌++◌, length, take, drop, map, slice_get, get_or, refl, sym, ap, subst, ◌∙◌, arith, append-nil, append_assoc}
use Rattle.std.proofs.lemmas.Bool.{false≢true}
use Rattle.std.specs.Borrow.{Bor}
use Rattle.std.specs.List.{filter}
use Rattle.std.specs.Option.{option_copied}
use Rattle.std.proofs.lemmas.List.Elements.{filter-append}
use Rattle.std.proofs.lemmas.List.{map-append}
use Rattle.ep_base.specs.Places.{place, Has}
use Rattle.ep_base.specs.Sameness.{is_noop}
use Rattle.ep_base.specs.Commands.{Command}
use Rattle.ep_base.specs.declared.decree.Decree.{Decree}
use Rattle.ep_base.specs.declared.reply.Reply.{Reply}
use Rattle.ep_base.specs.declared.reply.Reply.TheVariants.{Absent}
use Rattle.ep_base.specs.declared.reply.Answer.{Answer}
use Rattle.ep_rules.specs.Graph.{Graph}
use Rattle.ep_rules.specs.History.{is_new, nothing}
use Rattle.ep_rules.specs.Journals.{Entry, Journals, Scheduled, IsSchedule, AreLocalRuns, acts_of}
use Rattle.ep_rules.specs.Merging.{Merges}
use Rattle.ep_rules.specs.OneMap.{Store, replies, after}
use Rattle.ep_rules.specs.States.{command_of, attrs_of}
use Rattle.ep_rules.specs.Steps.{order_of}
use Rattle.ep_rules.specs.Verdicts.{agreed, command_at, merged_of, history_of, IsReply}
use Rattle.ep_rules.specs.Worlds.{In, opening}
use Rattle.ep_rules.proofs.Executions.{all_well, start}
use Rattle.ep_rules.proofs.Interleaved.{interleaved}
use Rattle.ep_rules.proofs.JournalsCommitted.{is_run}
use Rattle.ep_rules.proofs.JournalsExecutions.{executions}
use Rattle.ep_rules.proofs.JournalsGrow.{numbers_are_places_lem}
use Rattle.ep_rules.proofs.JournalsReplies.{merged_same, locals, each_reply_lem}
use Rattle.ep_rules.proofs.Merged.{in_at, in_of, at_in}
use Rattle.ep_rules.proofs.Places.{has_or, has_left, has_right, has_split, has_filter, filter_has, has_cons, has_tail, place_cons, place_head, Once, once_filter}
use Rattle.ep_journal.specs.Entries.{Collected, entry_of, entries_at, journals_of}
use Rattle.ep_journal.specs.Openings.{opens}
use Rattle.ep_journal.specs.declared.entry.Entry.{Entry as Written}
use Rattle.ep_audit.specs.Lookups.{entry_at}
use Rattle.ep_audit.specs.Lines.{reported_by, line_at, line_of, lines_of, lines_in}
use Rattle.ep_audit.specs.Turns.{takes, taken_of}
use Rattle.ep_audit.proofs.Turning.{in_taken}
use Rattle.ep_audit.specs.Verdicts.{places_of, instances_in, commands_in, replies_in, IsHistory}
use Rattle.ep_audit.proofs.Answering.{each_reported}
use Rattle.ep_audit.proofs.Seen.{new_false, new_true}
use Rattle.ep_audit.proofs.Shown.{shown_from, entry_from}
use Rattle.ep_audit.specs.declared.happening.Happening.{Happening}

-- What was seen.

abbrev SameSeen : List ℕ → List ℕ → Type 0
SameSeen xs ys = (i : ℕ) → Has xs i ↔ Has ys i

same_new : (xs ys : List ℕ) (i : ℕ) → SameSeen xs ys → is_new xs i ≡ is_new ys i
same_new xs ys i same = elim (has_or xs i) [
  | inl h ↦ new_false xs i h ∙ sym (new_false ys i ((same i).0 h))
  | inr n ↦ new_true xs i n ∙ sym (new_true ys i (λ h. n ((same i).1 h)))
]

module _ (g : ℕ → Option Decree) where
  same_lines : (xs ys : List ℕ) (done : List (ℕ × Answer)) → SameSeen xs ys → lines_of g xs done ≡ lines_of g ys done
  same_lines xs ys [] same = refl
  same_lines xs ys (d ∷ done) same =
      ap (λ b. cond b (line_at d.0 d.1 (g d.0)) [] ++ lines_of g xs done) (same_new xs ys d.0 same) ∙ ap (λ z. line_of g ys d.0 d.1 ++ z) (same_lines xs ys done same)

-- A schedule's lines, entry by entry.

-- the lines so far, and those of what is left, are all
pub record Lined (g : ℕ → Option Decree) (schedule : List Scheduled) (seen : List ℕ) (lines : List Happening) (k : ℕ) : Type 0 where
  pub merged : List ℕ
  pub same : (i : ℕ) → Has seen i ↔ Has merged i
  pub whole : lines ++ lines_in g merged (drop k schedule) ≡ lines_in g [] schedule

drop_at : (s : List Scheduled) (k : ℕ) (a : Scheduled) → slice_get s k ≡ Some a → drop k s ≡ a ∷ drop (suc k) s
drop_at [] k a e = absurd (cc)
drop_at (x ∷ s) zero a e = let same : x ≡ a = cc in ap (λ z. z ∷ s) same
drop_at (x ∷ s) (suc k) a e = drop_at s k a e

pub lined_first : (g : ℕ → Option Decree) (schedule : List Scheduled) → Lined g schedule [] [] 0
lined_first g schedule = record { merged = []; same = λ i. ((λ h. h), (λ h. h)); whole = refl }

pub lined_next : (g : ℕ → Option Decree) (schedule : List Scheduled) (seen later : List ℕ) (lines more : List Happening) (k : ℕ) (a : Scheduled) (done : List (ℕ × Answer)) →
    Lined g schedule seen lines k → slice_get schedule k ≡ Some a → a.entry.done ≡ done → more ≡ lines ++ lines_of g seen done → ((i : ℕ) → Has later i ↔ (Has seen i ⊎ Has (order_of done) i)) → Lined g schedule later more (suc k)
lined_next g schedule seen later lines more k a done l at is made saw =
    let m : List ℕ = l.merged in
    let order : List ℕ = order_of done in
    let next : List ℕ = m ++ filter (is_new m) order in
    let rest : List Happening = lines_in g next (drop (suc k) schedule) in
    let here : lines_in g m (drop k schedule) ≡ lines_of g m done ++ rest = ap (lines_in g m) (drop_at schedule k a at) ∙ ap (λ d. lines_of g m d ++ lines_in g (m ++ filter (is_new m) (order_of d)) (drop (suc k) schedule)) is in
    record {
      merged = next;
      same = λ i. (
        (λ h. elim ((saw i).0 h) [
          | inl old ↦ has_left m (filter (is_new m) order) i ((l.same i).0 old)
          | inr new ↦ (elim (has_or m i) [ inl there ↦ has_left m (filter (is_new m) order) i there | inr n ↦ has_right m (filter (is_new m) order) i (filter_has (is_new m) order i (new_true m i n) new) ])
        ]),
        (λ h. (saw i).1 (elim (has_split m (filter (is_new m) order) i h) [ inl old ↦ inl ((l.same i).1 old) | inr new ↦ inr (has_filter (is_new m) order i new).0 ])),
      );
      whole =
          ap (λ z. z ++ rest) (made ∙ ap (λ z. lines ++ z) (same_lines g seen m done l.same)) ∙ append_assoc lines (lines_of g m done) rest
          ∙ ap (λ z. lines ++ z) (sym here) ∙ l.whole;
    }

pub lined_last : (g : ℕ → Option Decree) (schedule : List Scheduled) (seen : List ℕ) (lines : List Happening) (k : ℕ) → drop k schedule ≡ [] → Lined g schedule seen lines k → lines ≡ lines_in g [] schedule
lined_last g schedule seen lines k none l = sym (append-nil lines) ∙ ap (λ s. lines ++ lines_in g l.merged s) (sym none) ∙ l.whole

-- An entry that executes nothing has no lines.
pub lines_taken : (g : ℕ → Option Decree) (seen : List ℕ) (s : List Scheduled) → lines_in g seen (taken_of false s) ≡ lines_in g seen s
lines_taken g seen [] = refl
lines_taken g seen (a ∷ s) = go a.entry.done refl (λ (xs : List ℕ). lines_taken g xs s)
  where
    go : (ds : List (ℕ × Answer)) → a.entry.done ≡ ds → ((xs : List ℕ) → lines_in g xs (taken_of false s) ≡ lines_in g xs s) → lines_in g seen (cond (takes false a.entry.done) (a ∷ taken_of false s) (taken_of false s)) ≡ lines_in g seen (a ∷ s)
    go [] e rec =
        ap (λ (ds : List (ℕ × Answer)). lines_in g seen (cond (takes false ds) (a ∷ taken_of false s) (taken_of false s))) e ∙ rec seen
        ∙ sym (ap (λ (ds : List (ℕ × Answer)). lines_of g seen ds ++ lines_in g (seen ++ filter (is_new seen) (order_of ds)) s) e ∙ ap (λ (xs : List ℕ). lines_in g xs s) (append-nil seen))
    go (d ∷ ds) e rec =
        ap (λ (ds : List (ℕ × Answer)). lines_in g seen (cond (takes false ds) (a ∷ taken_of false s) (taken_of false s))) e
        ∙ ap (λ (ls : List Happening). lines_of g seen a.entry.done ++ ls) (rec (seen ++ filter (is_new seen) (order_of a.entry.done)))

-- An entry of the schedule, where the journals have it.

pub record StandsAt (c : Collected) (a : Scheduled) : Type 0 where
  pub place : ℕ
  pub entry : Written
  pub number : a.entry.number ≡ place + 1
  pub there : slice_get (entries_at c a.replica) place ≡ Some entry
  pub is : entry_of entry ≡ a.entry

pub stands_at : (c : Collected) (s : List Scheduled) (a : Scheduled) → AreLocalRuns (opens c.opening) c.faults (journals_of c) → IsSchedule (journals_of c) s → In a s → StandsAt c a
stands_at c s a runs h at =
    let there : In a.entry (journals_of c a.replica) = subst (In a.entry) (h.0 a.replica) (in_of a s at) in
    let p = in_at (journals_of c a.replica) a.entry there in
    let n = (numbers_are_places_lem (journals_of c a.replica) (runs.local a.replica).0 p.0 a.entry).0 p.1 in
    let w = shown_from (entries_at c a.replica) p.0 a.entry p.1 in
    record { place = p.0; entry = w.entry; number = n.1; there = w.at; is = sym w.is }

-- one more is seen
pub seen_more : (old new : List ℕ) (x : ℕ) → ((¬ Has old x) → new ≡ old ++ (x ∷ [])) → (Has old x → new ≡ old) → (i : ℕ) → Has new i ↔ (Has old i ⊎ (i ≡ x))
seen_more old new x add keep i = elim (has_or old x) [
  | inl h ↦ (
    (λ k. inl (subst (λ z. Has z i) (keep h) k)),
    (λ k. elim k [ inl a ↦ subst (λ z. Has z i) (sym (keep h)) a | inr is ↦ subst (λ z. Has z i) (sym (keep h)) (subst (Has old) (sym is) h) ]),
  )
  | inr n ↦ (
    (λ k. elim (has_split old (x ∷ []) i (subst (λ z. Has z i) (add n) k)) [ inl a ↦ inl a | inr b ↦ inr (elim (has_cons x i [] b) [ inl is ↦ sym is | inr none ↦ absurd (omega arith) ]) ]),
    (λ k. subst (λ z. Has z i) (sym (add n)) (elim k [ inl a ↦ has_left old (x ∷ []) i a | inr is ↦ has_right old (x ∷ []) i (let z = place_head x [] in subst (Has (x ∷ [])) (sym is) (omega arith)) ])),
  )
]

-- and so all of a list
pub seen_next : (old now next : List ℕ) (order : List (ℕ × Answer)) (k : ℕ) (d : ℕ × Answer) → k < length order → d ≡ get_or order k d → ((i : ℕ) → Has now i ↔ (Has old i ⊎ Has (order_of (take k order)) i)) → ((i : ℕ) → Has next i ↔ (Has now i ⊎ (i ≡ d.0))) →
    (i : ℕ) → Has next i ↔ (Has old i ⊎ Has (order_of (take (suc k) order)) i)
seen_next old now next order k d lt at so more i =
    let grown : order_of (take (suc k) order) ≡ order_of (take k order) ++ (d.0 ∷ []) = taken order k d lt at in
    let ks : List ℕ = order_of (take k order) in
    let here : Has (d.0 ∷ []) d.0 = (let z = place_head d.0 [] in omega arith) in (
      λ h. elim ((more i).0 h) [
        | inl a ↦ (elim ((so i).0 a) [ inl b ↦ inl b | inr b ↦ inr (subst (λ z. Has z i) (sym grown) (has_left ks (d.0 ∷ []) i b)) ])
        | inr is ↦ inr (subst (λ z. Has z i) (sym grown) (has_right ks (d.0 ∷ []) i (subst (Has (d.0 ∷ [])) (sym is) here)))
      ],
      λ h. (more i).1 (elim h [
        | inl b ↦ inl ((so i).1 (inl b))
        | inr b ↦ (elim (has_split ks (d.0 ∷ []) i (subst (λ z. Has z i) grown b)) [
          | inl a ↦ inl ((so i).1 (inr a))
          | inr a ↦ (elim (has_cons d.0 i [] a) [ inl is ↦ inr (sym is) | inr none ↦ absurd (omega arith) ])
        ])
      ]),
    )
  where
    taken : (ds : List (ℕ × Answer)) (k : ℕ) (d : ℕ × Answer) → k < length ds → d ≡ get_or ds k d → order_of (take (suc k) ds) ≡ order_of (take k ds) ++ (d.0 ∷ [])
    taken [] k d lt e = absurd (omega arith)
    taken (x ∷ ds) zero d lt e = ap (λ z. z.0 ∷ []) (sym e)
    taken (x ∷ ds) (suc k) d lt e = ap (λ z. x.0 ∷ z) (taken ds k d (omega arith) e)

-- The n-th place of a schedule.
pub place_at : (s : List Scheduled) (k : ℕ) (p : ℕ × ℕ) → slice_get (places_of s) k ≡ Some p → (a : Scheduled) × (slice_get s k ≡ Some a) × (a.replica ≡ p.0) × (a.entry.number ≡ p.1)
place_at [] k p e = absurd (cc)
place_at (a ∷ s) zero p e = let same : ◌≡◌ {A = ℕ × ℕ} (a.replica, a.entry.number) p = cc in (a, refl, ap (λ z. z.0) same, ap (λ z. z.1) same)
place_at (a ∷ s) (suc k) p e = place_at s k p e

pub all_placed : (s : List Scheduled) (k : ℕ) → length (places_of s) ≤ k → drop k s ≡ []
all_placed [] zero h = refl
all_placed [] (suc k) h = refl
all_placed (a ∷ s) zero h = absurd (omega arith)
all_placed (a ∷ s) (suc k) h = all_placed s k (omega arith)

-- The entry that is looked up for the next place of a schedule.
pub record Looked (c : Collected) (schedule : List Scheduled) (k : ℕ) (o : Option (Bor Written)) : Type 0 where
  pub next : Scheduled
  pub at : slice_get schedule k ≡ Some next
  pub entry : Written
  pub is : entry_of entry ≡ next.entry
  pub found : option_copied o ≡ Some entry

slice_here : (xs : List (ℕ × ℕ)) (k : ℕ) (p : ℕ × ℕ) → k < length xs → p ≡ get_or xs k p → slice_get xs k ≡ Some p
slice_here [] k p lt e = absurd (omega arith)
slice_here (x ∷ xs) zero p lt e = ap Some (sym e)
slice_here (x ∷ xs) (suc k) p lt e = slice_here xs k p (omega arith) e

-- of a schedule, the entries that a merge takes
pub looked : (c : Collected) (all : Bool) (s : List Scheduled) (k : ℕ) (p : ℕ × ℕ) (xs : List (ℕ × ℕ)) (o : Option (Bor Written)) → AreLocalRuns (opens c.opening) c.faults (journals_of c) → IsSchedule (journals_of c) s → xs ≡ places_of (taken_of all s) → k < length xs → p ≡ get_or xs k p →
    option_copied o ≡ entry_at (entries_at c p.0) p.1 → Looked c (taken_of all s) k o
looked c all s k p xs o runs h is lt e lookup =
    let these : List Scheduled = taken_of all s in
    let a = place_at these k p (subst (λ z. slice_get z k ≡ Some p) is (slice_here xs k p lt e)) in
    let st = stands_at c s a.0 runs h (in_taken all s a.0 (at_in these k a.0 a.1)) in
    record {
      next = a.0;
      at = a.1;
      entry = st.entry;
      is = st.is;
      found = lookup ∙ entry_from (entries_at c p.0) p.1 st.place st.entry (sym a.3 ∙ st.number) (subst (λ r. slice_get (entries_at c r) st.place ≡ Some st.entry) a.2 st.there);
    }

pub never_none : (c : Collected) (s : List Scheduled) (k : ℕ) (o : Option (Bor Written)) → Looked c s k o → o ≡ None → ⊥
never_none c s k None l e = let f = l.found in cc
never_none c s k (Some x) l e = cc

done_by : (c : Collected) (s : List Scheduled) (k : ℕ) (o : Option (Bor Written)) (x : Bor Written) (l : Looked c s k o) → o ≡ Some x → l.next.entry.done ≡ x.now.done
done_by c s k None x l e = absurd (cc)
done_by c s k (Some y) x l e =
    let same : y ≡ x = cc in
    let here : y.now ≡ l.entry = (let f = l.found in cc) in
    ap (λ (z : Entry). z.done) (sym l.is) ∙ ap (λ (z : Written). z.done) (sym here) ∙ ap (λ (z : Bor Written). z.now.done) same

pub lined_looked : (c : Collected) (g : ℕ → Option Decree) (s : List Scheduled) (seen later : List ℕ) (lines more : List Happening) (k : ℕ) (o : Option (Bor Written)) (x : Bor Written) (done : List (ℕ × Answer)) →
    Looked c s k o → o ≡ Some x → done ≡ x.now.done → Lined g s seen lines k → more ≡ lines ++ lines_of g seen done → ((i : ℕ) → Has later i ↔ (Has seen i ⊎ Has (order_of done) i)) → Lined g s later more (k + 1)
lined_looked c g s seen later lines more k o x done l e is h made saw =
    let count : suc k ≡ k + 1 = omega arith in
    subst (Lined g s later more) count (lined_next g s seen later lines more k l.next done h l.at (done_by c s k o x l e ∙ sym is) made saw)

-- What the lines say.

instances_both : (xs ys : List Happening) → instances_in (xs ++ ys) ≡ instances_in xs ++ instances_in ys
instances_both [] ys = refl
instances_both (x ∷ xs) ys = ap (λ z. x.instance ∷ z) (instances_both xs ys)

commands_both : (xs ys : List Happening) → commands_in (xs ++ ys) ≡ commands_in xs ++ commands_in ys
commands_both [] ys = refl
commands_both (x ∷ xs) ys = ap (λ z. x.command ∷ z) (commands_both xs ys)

replies_both : (xs ys : List Happening) → replies_in (xs ++ ys) ≡ replies_in xs ++ replies_in ys
replies_both [] ys = refl
replies_both (x ∷ xs) ys = ap (λ z. x.reply ∷ z) (replies_both xs ys)

module _ (g : ℕ → Option Decree) where
  abbrev said : ℕ → Command
  said i = command_of (g i)

  abbrev real : ℕ → Bool
  real i = cond (is_noop (said i)) false true

  line_instances : (i : ℕ) (x : Answer) (rest : List ℕ) (o : Option Decree) → instances_in (line_at i x o) ++ rest ≡ cond (cond (is_noop (command_of o)) false true) (i ∷ rest) rest
  line_instances i x rest None = refl
  line_instances i x rest (Some d) = go (is_noop d.command)
    where
      go : (b : Bool) → instances_in (cond b [] (record { instance = i; command = d.command; reply = reported_by x } ∷ [])) ++ rest ≡ cond (cond b false true) (i ∷ rest) rest
      go true = refl
      go false = refl

  lines_instances : (seen : List ℕ) (done : List (ℕ × Answer)) → instances_in (lines_of g seen done) ≡ filter real (filter (is_new seen) (order_of done))
  lines_instances seen [] = refl
  lines_instances seen (d ∷ done) = instances_both (line_of g seen d.0 d.1) (lines_of g seen done) ∙ ap (λ z. instances_in (line_of g seen d.0 d.1) ++ z) (lines_instances seen done) ∙ go (is_new seen d.0)
    where
      go : (b : Bool) → instances_in (cond b (line_at d.0 d.1 (g d.0)) []) ++ filter real (filter (is_new seen) (order_of done)) ≡ filter real (cond b (d.0 ∷ filter (is_new seen) (order_of done)) (filter (is_new seen) (order_of done)))
      go true = line_instances d.0 d.1 (filter real (filter (is_new seen) (order_of done))) (g d.0)
      go false = refl

  in_instances : (seen : List ℕ) (s : List Scheduled) → filter real seen ++ instances_in (lines_in g seen s) ≡ filter real (merged_of seen s)
  in_instances seen [] = append-nil (filter real seen)
  in_instances seen (a ∷ s) =
      let new : List ℕ = filter (is_new seen) (order_of a.entry.done) in
      let rest : List ℕ = instances_in (lines_in g (seen ++ new) s) in
      ap (λ z. filter real seen ++ z) (instances_both (lines_of g seen a.entry.done) (lines_in g (seen ++ new) s) ∙ ap (λ z. z ++ rest) (lines_instances seen a.entry.done))
      ∙ sym (append_assoc (filter real seen) (filter real new) rest) ∙ ap (λ z. z ++ rest) (sym (filter-append real seen new)) ∙ in_instances (seen ++ new) s

  -- commands

  line_commands : (i : ℕ) (x : Answer) (o : Option Decree) → g i ≡ o → commands_in (line_at i x o) ≡ map said (instances_in (line_at i x o))
  line_commands i x None e = refl
  line_commands i x (Some d) e = go (is_noop d.command)
    where
      go : (b : Bool) → commands_in (cond b [] (record { instance = i; command = d.command; reply = reported_by x } ∷ [])) ≡ map said (instances_in (cond b [] (record { instance = i; command = d.command; reply = reported_by x } ∷ [])))
      go true = refl
      go false = ap (λ o. command_of o ∷ []) (sym e)

  abbrev SaysCommands : List Happening → Type 0
  SaysCommands lines = commands_in lines ≡ map said (instances_in lines)

  commands_append : (xs ys : List Happening) → SaysCommands xs → SaysCommands ys → SaysCommands (xs ++ ys)
  commands_append xs ys h k =
      commands_both xs ys ∙ ap (λ z. z ++ commands_in ys) h ∙ ap (λ z. map said (instances_in xs) ++ z) k ∙ sym (map-append said (instances_in xs) (instances_in ys)) ∙ ap (map said) (sym (instances_both xs ys))

  line_of_commands : (seen : List ℕ) (i : ℕ) (x : Answer) → SaysCommands (line_of g seen i x)
  line_of_commands seen i x = go (is_new seen i)
    where
      go : (b : Bool) → SaysCommands (cond b (line_at i x (g i)) [])
      go true = line_commands i x (g i) refl
      go false = refl

  lines_commands : (seen : List ℕ) (done : List (ℕ × Answer)) → SaysCommands (lines_of g seen done)
  lines_commands seen [] = refl
  lines_commands seen (d ∷ done) = commands_append (line_of g seen d.0 d.1) (lines_of g seen done) (line_of_commands seen d.0 d.1) (lines_commands seen done)

  in_commands : (seen : List ℕ) (s : List Scheduled) → SaysCommands (lines_in g seen s)
  in_commands seen [] = refl
  in_commands seen (a ∷ s) =
      let new : List ℕ = seen ++ filter (is_new seen) (order_of a.entry.done) in commands_append (lines_of g seen a.entry.done) (lines_in g new s) (lines_commands seen a.entry.done) (in_commands new s)

  -- replies

  module _ (base : Store) (h : List ℕ) where
    abbrev here : ℕ → Reply
    here i = get_or (replies base (map said h)) (place h i) Absent

    abbrev SaysReplies : List Happening → Type 0
    SaysReplies lines = replies_in lines ≡ map here (instances_in lines)

    line_replies : (i : ℕ) (x : Answer) (o : Option Decree) → g i ≡ o → IsReply base said h i x → SaysReplies (line_at i x o)
    line_replies i x None e k = refl
    line_replies i x (Some d) e k = go (is_noop d.command) refl k
      where
        go : (b : Bool) → is_noop d.command ≡ b → IsReply base said h i x → SaysReplies (cond b [] (record { instance = i; command = d.command; reply = reported_by x } ∷ []))
        go true q t = refl
        go false q (inl lost) = absurd (false≢true (sym q ∙ ap (λ o. is_noop (command_of o)) (sym e) ∙ lost.0))
        go false q (inr reported) = ap (λ a. reported_by a ∷ []) reported.1

    replies_append : (xs ys : List Happening) → SaysReplies xs → SaysReplies ys → SaysReplies (xs ++ ys)
    replies_append xs ys a b =
        replies_both xs ys ∙ ap (λ z. z ++ replies_in ys) a ∙ ap (λ z. map here (instances_in xs) ++ z) b ∙ sym (map-append here (instances_in xs) (instances_in ys)) ∙ ap (map here) (sym (instances_both xs ys))

    line_of_replies : (seen : List ℕ) (i : ℕ) (x : Answer) → IsReply base said h i x → SaysReplies (line_of g seen i x)
    line_of_replies seen i x k = go (is_new seen i)
      where
        go : (b : Bool) → SaysReplies (cond b (line_at i x (g i)) [])
        go true = line_replies i x (g i) refl k
        go false = refl

    lines_replies : (seen : List ℕ) (done : List (ℕ × Answer)) → ((i : ℕ) (x : Answer) → In (i, x) done → IsReply base said h i x) → SaysReplies (lines_of g seen done)
    lines_replies seen [] all = refl
    lines_replies seen (d ∷ done) all =
        replies_append (line_of g seen d.0 d.1) (lines_of g seen done) (line_of_replies seen d.0 d.1 (all d.0 d.1 (inl refl))) (lines_replies seen done (λ i x k. all i x (inr k)))

    in_replies : (seen : List ℕ) (s : List Scheduled) → ((a : Scheduled) (i : ℕ) (x : Answer) → In a s → In (i, x) a.entry.done → IsReply base said h i x) → SaysReplies (lines_in g seen s)
    in_replies seen [] all = refl
    in_replies seen (a ∷ s) all =
        let new : List ℕ = seen ++ filter (is_new seen) (order_of a.entry.done) in
        replies_append (lines_of g seen a.entry.done) (lines_in g new s) (lines_replies seen a.entry.done (λ i x k. all a i x (inl refl) k)) (in_replies new s (λ b i x k m. all b i x (inr k) m))

-- Where each stands once, what stands at the place of each in turn is the whole.

map_same : (xs : List ℕ) (f g : ℕ → Reply) → ((i : ℕ) → Has xs i → f i ≡ g i) → map f xs ≡ map g xs
map_same [] f g h = refl
map_same (x ∷ xs) f g h = ap (λ z. z ∷ map f xs) (h x (let z = place_head x xs in omega arith)) ∙ ap (λ z. g x ∷ z) (map_same xs f g (λ i k. h i (has_tail x i xs k)))

spread : (h : List ℕ) (rs : List Reply) → Once h → length rs ≡ length h → map (λ i. get_or rs (place h i) Absent) h ≡ rs
spread [] [] once e = refl
spread [] (r ∷ rs) once e = absurd (omega arith)
spread (x ∷ h) [] once e = absurd (omega arith)
spread (x ∷ h) (r ∷ rs) once e =
    let first : get_or (r ∷ rs) (place (x ∷ h) x) Absent ≡ r = ap (λ k. get_or (r ∷ rs) k Absent) (place_head x h) in
    ap (λ z. z ∷ map (λ i. get_or (r ∷ rs) (place (x ∷ h) i) Absent) h) first
    ∙ ap (λ z. r ∷ z) (map_same h (λ i. get_or (r ∷ rs) (place (x ∷ h) i) Absent) (λ i. get_or rs (place h i) Absent) (λ i k. ap (λ n. get_or (r ∷ rs) n Absent) (later i k)) ∙ spread h rs once.1 (omega arith))
  where
    later : (i : ℕ) → Has h i → place (x ∷ h) i ≡ suc (place h i)
    later i k = elim (place_cons x i h) [ inl p ↦ absurd (once.0 (subst (Has h) (sym p.0) k)) | inr q ↦ q ]

length_replies : (m : Store) (cs : List Command) → length (replies m cs) ≡ length cs
length_replies m [] = refl
length_replies m (c ∷ cs) = let t = length_replies (after m c) cs in omega arith

length_map : (f : ℕ → Command) (xs : List ℕ) → length (map f xs) ≡ length xs
length_map f [] = refl
length_map f (x ∷ xs) = let t = length_map f xs in omega arith

-- The history.

once_merged : (base : Store) (f : ℕ) (journal : Journals) (schedule : List Scheduled) → Merges base f journal schedule → Once (merged_of [] schedule)
once_merged base f journal schedule given =
    let es = executions f (opening base) (acts_of schedule) in
    let graph : Graph = λ i. attrs_of (agreed base f journal i) in
    let w = all_well graph nothing [] es (start graph) (interleaved base graph (command_at base f journal) nothing es (locals base f journal schedule given)).0 in
    subst Once (merged_same f schedule (opening base) [] (is_run base f journal schedule given)) w.whole.once

pub history_is : (base : Store) (f : ℕ) (journal : Journals) (schedule : List Scheduled) → IsHistory base f journal schedule (lines_in (agreed base f journal) [] schedule)
history_is base f journal schedule =
    let g = agreed base f journal in
    let h : List ℕ = history_of (command_at base f journal) schedule in
    let lines : List Happening = lines_in g [] schedule in
    let instances : instances_in lines ≡ h = in_instances g [] schedule in
    let commands : commands_in lines ≡ map (command_at base f journal) (instances_in lines) = in_commands g [] schedule in
    record {
      instances = instances;
      commands = commands;
      reported = each_reported g schedule;
      replies = λ given.
          let reported : replies_in lines ≡ map (here g base h) (instances_in lines) = in_replies g base h [] schedule (λ a i x k m. each_reply_lem base f journal schedule given a i x k m) in
          let once : Once h = once_filter (real g) (merged_of [] schedule) (once_merged base f journal schedule given) in
          let all : map (here g base h) h ≡ replies base (map (said g) h) = spread h (replies base (map (said g) h)) once (length_replies base (map (said g) h) ∙ length_map (said g) h) in
          reported ∙ ap (map (here g base h)) instances ∙ all ∙ ap (λ z. replies base (map (said g) z)) (sym instances) ∙ ap (replies base) (sym commands);
    }

pub history_by : (base : Store) (f : ℕ) (journal : Journals) (g : ℕ → Option Decree) (schedule : List Scheduled) (lines : List Happening) → ((i : ℕ) → g i ≡ agreed base f journal i) → lines ≡ lines_in g [] schedule → IsHistory base f journal schedule lines
history_by base f journal g schedule lines same is =
    let whole : g ≡ agreed base f journal = (λ t i. same i t) in
    subst (IsHistory base f journal schedule) (sym (is ∙ ap (λ k. lines_in k [] schedule) whole)) (history_is base f journal schedule)
