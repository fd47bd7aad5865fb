-- How a replica that lives through generations starts, by what its folder has.
use Rattle.std.specs.Prelude.{◌≡◌, ℕ, zero, suc, ◌-◌, ◌<◌, ◌≤◌, max, Bool, true, false, not, cond, ◌&&◌, ◌||◌, eqb, ltb, List, [], ◌∷◌, Result, Ok, Err}
use Rattle.std.specs.List.{AllByRecursion, list_any}
use Rattle.ep_folder.specs.declared.generation_folder.GenerationFolder.{GenerationFolder}
use Rattle.ep_folder.specs.declared.log_start.LogStart.{LogStart}
use Rattle.ep_folder.specs.declared.log_start.LogStart.TheVariants as log
use Rattle.ep_folder.specs.declared.plan.Plan.{Plan}
use Rattle.ep_folder.specs.declared.start_fault.StartFault.{StartFault}
use Rattle.ep_folder.specs.declared.start_fault.StartFault.TheVariants.{Empty, There, Left, Older, Other, Broken}
use Rattle.ep_folder.specs.declared.wish.Wish.{Wish}
use Rattle.ep_folder.specs.declared.wish.Wish.TheVariants as wish

-- the generation is here: it has an opening, or a reference to the log whose replay leaves one
abbrev pub is_here : GenerationFolder → Bool
is_here h = h.has_opening || h.has_reference

-- its opening can be read: it is there, and no reference is, or what binds it to the reference
abbrev pub is_whole : GenerationFolder → Bool
is_whole h = h.has_opening && (not h.has_reference || h.is_bound)

-- the generation, where it is here
abbrev pub opened_number : GenerationFolder → ℕ
opened_number h = cond (is_here h) h.number 0

-- the greatest generation that is here; 0 where none is
abbrev pub newest : List GenerationFolder → ℕ
newest [] = 0
newest (h ∷ hs) = max (opened_number h) (newest hs)

-- the greatest generation that a mark names: the replica has begun its log; 0 where there is no mark
abbrev pub left_for : List GenerationFolder → ℕ
left_for [] = 0
left_for (h ∷ hs) = max h.left_for (left_for hs)

abbrev pub is_opening_of : ℕ → GenerationFolder → Bool
is_opening_of g h = is_here h && eqb h.number g

-- whether the generation is here
abbrev pub has_opening : ℕ → List GenerationFolder → Bool
has_opening g hs = list_any (is_opening_of g) hs

-- From where on a start replays.

abbrev pub is_whole_of : ℕ → GenerationFolder → Bool
is_whole_of g h = is_whole h && eqb h.number g

-- whether the opening of the generation can be read
abbrev pub can_read : ℕ → List GenerationFolder → Bool
can_read g hs = list_any (is_whole_of g) hs

abbrev pub is_referred_of : ℕ → GenerationFolder → Bool
is_referred_of g h = h.has_reference && eqb h.number g

-- whether its opening is left by the log of the generation before
abbrev pub is_referred : ℕ → List GenerationFolder → Bool
is_referred g hs = list_any (is_referred_of g) hs

-- The greatest generation, up to this one, whose opening can be read, where those above it, up to this one, have references. The logs from there on are replayed. Else
-- the generation is broken that has neither.
abbrev pub first_of : ℕ → List GenerationFolder → Result ℕ StartFault
first_of zero hs = Err (Broken 0)
first_of (suc g) hs = cond (can_read (suc g) hs) (Ok (suc g)) (cond (is_referred (suc g) hs) (first_of g hs) (Err (Broken (suc g))))

abbrev pub start : ℕ → Bool → LogStart → Plan
start g writes log = record { generation = g; writes = writes; log = log }

-- a log may be begun, where there is none, in a generation that no mark names
abbrev pub where_unmarked : ℕ → ℕ → LogStart
where_unmarked g left = cond (ltb left g) log.Either log.Existing

-- Going on. A log is begun only where the generation before is still here, and not left for this one: then there has been none.
abbrev pub go_on : ℕ → ℕ → Bool → Result Plan StartFault
go_on newest left before =
    cond (ltb newest left) (Err (Left left)) (cond (eqb newest 0) (Err Empty) (Ok (start newest false (cond before (where_unmarked newest left) log.Existing))))

-- A new replica: nothing is here, or no more than the opening that it begins with.
abbrev pub begin : ℕ → ℕ → Bool → Result Plan StartFault
begin newest left same =
    cond (ltb newest left) (Err (Left left))
    (cond (eqb newest 0) (Ok (start 1 true log.New)) (cond (eqb newest 1 && eqb left 0 && same) (Ok (start 1 false log.New)) (Err (There newest))))

-- Taking the opening of the generation that is the newest one here: the same again.
abbrev pub take_again : ℕ → ℕ → Bool → Result Plan StartFault
take_again newest left same = cond (ltb newest left) (Err (Left left)) (cond same (Ok (start newest false (where_unmarked newest left))) (Err (Other newest)))

-- taking that of a later one, where the replica has not been before
abbrev pub take_later : ℕ → ℕ → Result Plan StartFault
take_later g left = cond (ltb left g) (Ok (start g true log.Either)) (Err (Left left))

abbrev pub take : ℕ → ℕ → ℕ → Bool → Result Plan StartFault
take newest left g same = cond (ltb g newest) (Err (Older newest)) (cond (eqb g newest) (take_again newest left same) (take_later g left))

-- how it starts, or why not
abbrev pub plan : List GenerationFolder → Wish → Result Plan StartFault
plan hs wish.GoOn = go_on (newest hs) (left_for hs) (has_opening (newest hs - 1) hs)
plan hs (wish.New same) = begin (newest hs) (left_for hs) same
plan hs (wish.Take g same) = take (newest hs) (left_for hs) g same

-- whether a log is begun, by whether there is one
abbrev pub begins : LogStart → Bool → Bool
begins log.New has_log = true
begins log.Either has_log = not has_log
begins log.Existing has_log = false

-- What holds of each plan: no mark names a later generation than that of the plan, nor this one where a log may be begun. So a replica never
-- acts in a generation that it has left, and never begins a log that it has begun before, as long as the mark is there.
pub record NeverGoesBack (hs : List GenerationFolder) (p : Plan) : Type 0 where
  pub marks : AllByRecursion (λ h. h.left_for ≤ p.generation) hs
  pub begun : (has_log : Bool) → begins p.log has_log ≡ true → AllByRecursion (λ h. h.left_for < p.generation) hs
  pub openings : AllByRecursion (λ h. opened_number h ≤ p.generation) hs
