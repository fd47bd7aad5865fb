-- What is known of a file by its fields' types.
use Rattle.std.proofs.Common.{◌≡◌, ℕ, ◌≤◌, List, length, Option, Some, None, Result, refl, sym, ap, ◌∙◌, subst}
use Rattle.std.specs.FinMap.{entries}
use Rattle.ep_base.specs.Deps.{IsDeps}
use Rattle.ep_base.specs.Generations.{IsGeneration}
use Rattle.ep_base.specs.Values.{most_value}
use Rattle.ep_journal.specs.Openings.{Opening}
use Rattle.ep_bundle.specs.Writing.{All, OpeningFits}
use Rattle.ep_bundle.specs.WriteRanges.{PairTyped}
use Rattle.ep_opening.specs.Files.{File, HasItsPast, HasItsSeal, IsFile, SealFits}

pub no_seal : (s : Option (List ℕ)) → None ≡ s → SealFits s
no_seal s is = subst SealFits is tt

pub some_seal : (s : Option (List ℕ)) (v : List ℕ) → Some v ≡ s → length v ≤ most_value → SealFits s
some_seal s v is le = subst SealFits is le

pub file_known : (f : File) (s g : ℕ) (o : Opening) (d : List ℕ) → s ≡ f.faults → g ≡ f.generation → o ≡ f.opening → d ≡ f.executed → 1 ≤ s → s ≤ 3 → IsGeneration g → OpeningFits o → All PairTyped (entries o.contents)
    → HasItsSeal f.generation f.seal → SealFits f.seal → IsDeps d → HasItsPast f.generation f.executed → IsFile f
file_known f s g o d es eg eo ed least most generation fits keys seal short deps past = record {
  least = subst (λ (x : ℕ). 1 ≤ x) es least;
  most = subst (λ (x : ℕ). x ≤ 3) es most;
  generation = subst (λ (x : ℕ). IsGeneration x) eg generation;
  fits = subst (λ (x : Opening). OpeningFits x) eo fits;
  keys = subst (λ (x : Opening). All PairTyped (entries x.contents)) eo keys;
  seal = seal;
  short = short;
  deps = subst IsDeps ed deps;
  past = past;
}
