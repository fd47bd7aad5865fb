-- No plan goes back.
use Rattle.std.proofs.Common.{◌≡◌, ℕ, ◌-◌, ◌<◌, ◌≤◌, Bool, true, false, cond, ◌&&◌, eqb, ltb, List, [], ◌∷◌, Result, Ok, Err, IfOk, refl, arith, sym, subst}
use Rattle.std.proofs.lemmas.Bool.{false≢true, ltb-true, ltb-false, eqb-true, and_parts, cond_both}
use Rattle.std.specs.List.{AllByRecursion}
use Rattle.ep_folder.specs.Plans.{begin, begins, go_on, has_opening, left_for, newest, opened_number, plan, start, take, take_again, take_later, where_unmarked, NeverGoesBack}
use Rattle.ep_folder.specs.declared.generation_folder.GenerationFolder.{GenerationFolder}
use Rattle.ep_folder.specs.declared.log_start.LogStart.TheVariants as log
use Rattle.ep_folder.specs.declared.plan.Plan.{Plan}
use Rattle.ep_folder.specs.declared.start_fault.StartFault.{StartFault}
use Rattle.ep_folder.specs.declared.wish.Wish.{Wish}
use Rattle.ep_folder.specs.declared.wish.Wish.TheVariants as wish

-- what is seen of a plan, by the greatest generation that has an opening and the greatest that a mark names
record Keeps (top left : ℕ) (p : Plan) : Type 0 where
  marks : left ≤ p.generation
  begun : (has_log : Bool) → begins p.log has_log ≡ true → left < p.generation
  openings : top ≤ p.generation

-- each is at most the greatest
marks_under : (hs : List GenerationFolder) (g : ℕ) → left_for hs ≤ g → AllByRecursion (λ h. h.left_for ≤ g) hs
marks_under [] g le = tt
marks_under (h ∷ hs) g le = (omega arith, marks_under hs g (omega arith))

marks_below : (hs : List GenerationFolder) (g : ℕ) → left_for hs < g → AllByRecursion (λ h. h.left_for < g) hs
marks_below [] g le = tt
marks_below (h ∷ hs) g le = (omega arith, marks_below hs g (omega arith))

openings_under : (hs : List GenerationFolder) (g : ℕ) → newest hs ≤ g → AllByRecursion (λ h. opened_number h ≤ g) hs
openings_under [] g le = tt
openings_under (h ∷ hs) g le = (omega arith, openings_under hs g (omega arith))

all_of : (hs : List GenerationFolder) (p : Plan) → Keeps (newest hs) (left_for hs) p → NeverGoesBack hs p
all_of hs p k = record {
  marks = marks_under hs p.generation k.marks;
  begun = λ has_log begun. marks_below hs p.generation (k.begun has_log begun);
  openings = openings_under hs p.generation k.openings;
}

-- what holds of a plan that was answered
abbrev KeepsIn : ℕ → ℕ → Result Plan StartFault → Type 0
KeepsIn top left (Ok p) = Keeps top left p
KeepsIn top left (Err e) = Unit {0}

-- a log that may be begun where none is, is one of a generation that no mark names
unmarked : (g left : ℕ) (has_log : Bool) → begins (where_unmarked g left) has_log ≡ true → left < g
unmarked g left has_log = go (ltb left g) refl
  where
    go : (b : Bool) → ltb left g ≡ b → begins (cond b log.Either log.Existing) has_log ≡ true → left < g
    go true is _ = ltb-true left g is
    go false is bad = absurd (false≢true bad)

unmarked_if : (before : Bool) (g left : ℕ) (has_log : Bool) → begins (cond before (where_unmarked g left) log.Existing) has_log ≡ true → left < g
unmarked_if true g left has_log begun = unmarked g left has_log begun
unmarked_if false g left has_log bad = absurd (false≢true bad)

keeps_go_on : (top left : ℕ) (before : Bool) → KeepsIn top left (go_on top left before)
keeps_go_on top left before =
    cond_both (ltb top left) _ _ (KeepsIn top left) (λ _. tt) (λ fits. cond_both (eqb top 0) _ _ (KeepsIn top left) (λ _. tt)
    (λ _. record { marks = ltb-false top left fits; begun = unmarked_if before top left; openings = omega arith }))

keeps_begin : (top left : ℕ) (same : Bool) → KeepsIn top left (begin top left same)
keeps_begin top left same =
    cond_both (ltb top left) _ _ (KeepsIn top left) (λ _. tt) (λ fits. cond_both (eqb top 0) _ _ (KeepsIn top left) (λ none. first (ltb-false top left fits) (eqb-true top 0 none))
    (λ _. cond_both (eqb top 1 && eqb left 0 && same) _ _ (KeepsIn top left) (λ all. again (and_parts (eqb top 1 && eqb left 0) same all).0) (λ _. tt)))
  where
    first : left ≤ top → top ≡ 0 → Keeps top left (start 1 true log.New)
    first fits none = record { marks = omega arith; begun = λ _ _. omega arith; openings = omega arith }

    again : (eqb top 1 && eqb left 0) ≡ true → Keeps top left (start 1 false log.New)
    again both =
        let one : top ≡ 1 = eqb-true top 1 (and_parts (eqb top 1) (eqb left 0) both).0 in
        let none : left ≡ 0 = eqb-true left 0 (and_parts (eqb top 1) (eqb left 0) both).1 in
        record { marks = omega arith; begun = λ _ _. omega arith; openings = omega arith }

keeps_again : (top left : ℕ) (same : Bool) → KeepsIn top left (take_again top left same)
keeps_again top left same =
    cond_both (ltb top left) _ _ (KeepsIn top left) (λ _. tt) (λ fits. cond_both same _ _ (KeepsIn top left)
    (λ _. record { marks = ltb-false top left fits; begun = unmarked top left; openings = omega arith }) (λ _. tt))

keeps_later : (top g left : ℕ) → top ≤ g → KeepsIn top left (take_later g left)
keeps_later top g left le =
    cond_both (ltb left g) _ _ (KeepsIn top left) (λ above. let less : left < g = ltb-true left g above in record { marks = omega arith; begun = λ _ _. less; openings = le }) (λ _. tt)

keeps_take : (top left g : ℕ) (same : Bool) → KeepsIn top left (take top left g same)
keeps_take top left g same =
    cond_both (ltb g top) _ _ (KeepsIn top left) (λ _. tt) (λ above. cond_both (eqb g top) _ _ (KeepsIn top left) (λ _. keeps_again top left same)
    (λ _. keeps_later top g left (ltb-false g top above)))

keeps : (hs : List GenerationFolder) (w : Wish) → KeepsIn (newest hs) (left_for hs) (plan hs w)
keeps hs wish.GoOn = keeps_go_on (newest hs) (left_for hs) (has_opening (newest hs - 1) hs)
keeps hs (wish.New same) = keeps_begin (newest hs) (left_for hs) same
keeps hs (wish.Take g same) = keeps_take (newest hs) (left_for hs) g same

-- the plan that was answered
pub never_goes_back : (hs : List GenerationFolder) (w : Wish) (r : Result Plan StartFault) → r ≡ plan hs w → IfOk r (NeverGoesBack hs)
never_goes_back hs w (Ok p) is = all_of hs p (subst (KeepsIn (newest hs) (left_for hs)) (sym is) (keeps hs w))
never_goes_back hs w (Err e) is = tt
