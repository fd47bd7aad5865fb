-- How a replica starts, as C has it.
use Rattle.std.specs.Prelude.{◌≡◌, ◌⊎◌, ℕ, cond, eqb, List, map, Option, Some, None, Result, Ok, Err}
use Rattle.ep_folder.specs.Plans as plans
use Rattle.ep_folder.specs.declared.generation_folder.GenerationFolder.{GenerationFolder}
use Rattle.ep_folder.specs.declared.log_start.LogStart.{LogStart}
use Rattle.ep_folder.specs.declared.log_start.LogStart.TheVariants as log
use Rattle.ep_folder.specs.declared.plan.Plan.{Plan}
use Rattle.ep_folder.specs.declared.start_fault.StartFault.{StartFault}
use Rattle.ep_folder.specs.declared.start_fault.StartFault.TheVariants.{Empty, There, Left, Older, Other, Broken}
use Rattle.ep_folder.specs.declared.wish.Wish.{Wish}
use Rattle.ep_folder.specs.declared.wish.Wish.TheVariants as wish
use Rattle.ep_library.specs.Arguments.{is_said}
use Rattle.ep_library.specs.Statuses.{done, memory, none, out_of_range}
use Rattle.ep_library.specs.Syncing.{flag}
use Rattle.ep_library.specs.declared.held_generation.HeldGeneration.{HeldGeneration}
use Rattle.ep_library.specs.declared.place.Place.{Place}
use Rattle.ep_library.specs.declared.start_plan.StartPlan.{StartPlan}
use Rattle.ep_library.specs.declared.start_wish.StartWish.{StartWish}

abbrev pub folder_of : HeldGeneration → GenerationFolder
folder_of h = record {
  number = h.number;
  has_opening = is_said h.has_opening;
  has_reference = is_said h.has_reference;
  is_bound = is_said h.is_bound;
  left_for = h.left_for;
}

abbrev pub wish_in : StartWish → Option Wish
wish_in w =
    cond (eqb w.kind 1) (Some wish.GoOn)
    (cond (eqb w.kind 2) (Some (wish.New (is_said w.is_same)))
    (cond (eqb w.kind 3) (Some (wish.Take w.generation (is_said w.is_same))) None))

abbrev pub log_number : LogStart → ℕ
log_number log.New = 1
log_number log.Either = 2
log_number log.Existing = 3

abbrev pub plan_out : Plan → StartPlan
plan_out p = record { generation = p.generation; writes = flag p.writes; log = log_number p.log }

-- why it isn't started
abbrev pub fault_status : StartFault → ℕ
fault_status Empty = 16
fault_status (There g) = 17
fault_status (Left g) = 18
fault_status (Older g) = 19
fault_status (Other g) = 20
fault_status (Broken g) = 21

-- the generation that is named; 0 where none is
abbrev pub fault_number : StartFault → ℕ
fault_number Empty = 0
fault_number (There g) = g
fault_number (Left g) = g
fault_number (Older g) = g
fault_number (Other g) = g
fault_number (Broken g) = g

-- this plan is reported; or why there is none, with the generation that this names
abbrev pub Starts : ℕ → Result Plan StartFault → StartPlan → Place → StartPlan → Place → Type 0
Starts status (Ok p) old other reported place = (status ≡ done) × (reported ≡ plan_out p) × (place ≡ other)
Starts status (Err fault) old other reported place =
    (status ≡ fault_status fault) × (reported ≡ old) × (place ≡ record { at = fault_number fault; by = 0 })

-- nothing is reported, as the status says
abbrev pub IsUnplanned : ℕ → ℕ → StartPlan → Place → StartPlan → Place → Type 0
IsUnplanned why status old other reported place = (status ≡ why) × (reported ≡ old) × (place ≡ other)

-- the plan for what the folder has and what is asked for, unless that is nothing or memory was refused
abbrev pub Plans : ℕ → List HeldGeneration → StartWish → StartPlan → Place → StartPlan → Place → Type 0
Plans status held w old other reported place =
    ((wish_in w ≡ None) × IsUnplanned out_of_range status old other reported place)
    ⊎ (IsUnplanned memory status old other reported place
    ⊎ ((asked : Wish) × (wish_in w ≡ Some asked)
    × Starts status (plans.plan (map folder_of held) asked) old other reported place))

-- from where on logs are replayed is reported; or why not, and by which generation
abbrev pub StartsFrom : ℕ → Result ℕ StartFault → ℕ → Type 0
StartsFrom status (Ok g) reported = (status ≡ done) × (reported ≡ g)
StartsFrom status (Err fault) reported = (status ≡ fault_status fault) × (reported ≡ fault_number fault)

abbrev pub ReportsFirst : ℕ → List HeldGeneration → ℕ → ℕ → ℕ → Type 0
ReportsFirst status held generation old reported =
    ((status ≡ memory) × (reported ≡ old)) ⊎ StartsFrom status (plans.first_of generation (map folder_of held)) reported

-- the greatest generation that is here is reported, unless memory was refused
abbrev pub ReportsNewest : ℕ → List HeldGeneration → ℕ → ℕ → Type 0
ReportsNewest status held old reported =
    ((status ≡ memory) × (reported ≡ old)) ⊎ ((status ≡ done) × (reported ≡ plans.newest (map folder_of held)))

-- the generation is reported, if there is one
abbrev pub Names : ℕ → Option ℕ → ℕ → ℕ → Type 0
Names status None old reported = (status ≡ none) × (reported ≡ old)
Names status (Some g) old reported = (status ≡ done) × (reported ≡ g)
