-- What a generation's opening file says.
use Rattle.std.specs.Prelude.{◌≡◌, ℕ, ◌≤◌, List, [], length, Option, Some, None, refl}
use Rattle.std.specs.FinMap.{entries}
use Rattle.std.specs.Coded.{Coded, code_by, coded×, coded_ℕ, coded_list, coded_option}
use Rattle.ep_base.specs.Deps.{IsDeps}
use Rattle.ep_base.specs.Generations.{IsGeneration}
use Rattle.ep_base.specs.Values.{most_value}
use Rattle.ep_journal.specs.Openings.{Opening, opening_code}
use Rattle.ep_bundle.specs.Writing.{All, OpeningFits}
use Rattle.ep_bundle.specs.WriteRanges.{PairTyped}
use Rattle.ep_opening.specs.declared.parts_fault.PartsFault.{PartsFault}
use Rattle.ep_opening.specs.declared.parts_fault.PartsFault.TheVariants.{Seal, Executed}

pub record File : Type 0 where
  -- how many replicas of the cluster may fail
  pub faults : ℕ
  pub generation : ℕ
  pub opening : Opening
  -- the value of the seal that began the generation
  pub seal : Option (List ℕ)
  -- the instances that the generation before executed up to that seal
  pub executed : List ℕ

abbrev pub file_code : Coded File
file_code =
    code_by (ℕ × (ℕ × (Opening × (Option (List ℕ) × List ℕ)))) (coded× coded_ℕ (coded× coded_ℕ (coded× opening_code (coded× (coded_option (coded_list coded_ℕ)) (coded_list coded_ℕ)))))
    (λ f. (f.faults, (f.generation, (f.opening, (f.seal, f.executed))))) (λ p. record { faults = p.0; generation = p.1.0; opening = p.1.1.0; seal = p.1.1.1.0; executed = p.1.1.1.1 }) (λ _. refl)

-- a seal begins each generation but the first
abbrev pub HasItsSeal : ℕ → Option (List ℕ) → Type 0
HasItsSeal g None = g ≡ 1
HasItsSeal g (Some value) = 2 ≤ g

-- nothing is executed before the first generation
abbrev pub HasItsPast : ℕ → List ℕ → Type 0
HasItsPast g is = g ≡ 1 → is ≡ []

-- why these are no parts of a file
abbrev pub IsRuledOut : PartsFault → ℕ → Option (List ℕ) → List ℕ → Type 0
IsRuledOut Seal g seal is = ¬ HasItsSeal g seal
IsRuledOut Executed g seal is = HasItsSeal g seal × (¬ HasItsPast g is)

abbrev pub SealFits : Option (List ℕ) → Type 0
SealFits None = Unit {0}
SealFits (Some value) = length value ≤ most_value

-- what holds of every file
pub record IsFile (f : File) : Type 0 where
  pub least : 1 ≤ f.faults
  pub most : f.faults ≤ 3
  pub generation : IsGeneration f.generation
  pub fits : OpeningFits f.opening
  pub keys : All PairTyped (entries f.opening.contents)
  pub seal : HasItsSeal f.generation f.seal
  pub short : SealFits f.seal
  pub deps : IsDeps f.executed
  pub past : HasItsPast f.generation f.executed
