-- What the program does of what it has to do, by the status that it answers.
use Rattle.std.specs.Prelude.{◌≡◌, ◌⊎◌, ℕ, List, map, string_bytes}
use Rattle.ep_main.specs.Chains.{ChainsFiles, EndsOfFiles}
use Rattle.ep_cli.specs.Outputs.{Input, Output}
use Rattle.ep_main.specs.Runs.{Ends, Performs}
use Rattle.ep_main.specs.Words.{IsAsked, IsChainAsked}
use Rattle.ep_main.specs.declared.asked.Asked.{Asked}
use Rattle.ep_cli.specs.declared.status.Status.{Status}
use Rattle.ep_main.specs.declared.form.Form.{Form}
use Rattle.ep_main.specs.declared.job.Job.{Job}
use Rattle.ep_main.specs.declared.job.Job.TheVariants.{Streams, Chain}

abbrev pub Works : Job → Status → List ℕ → Input → Output → Output → Type 0
Works (Streams asked) status zs reader out fault = Performs asked status zs reader out fault
Works (Chain form files) status zs reader out fault = ChainsFiles form (map string_bytes files.items) status out fault

-- of a chain the input isn't read
abbrev pub EndsBy : Job → Status → Input → Output → Output → Type 0
EndsBy (Streams asked) status reader out fault = Ends status reader out fault
EndsBy (Chain form files) status reader out fault = (reader.failed ≡ reader.had_failed) × EndsOfFiles status out fault

-- what was asked for by these words is done
abbrev pub Does : List (List ℕ) → Status → List ℕ → Input → Output → Output → Type 0
Does words status zs reader out fault =
    ((asked : Asked) × IsAsked asked words × Performs asked status zs reader out fault) ⊎ ((form : Form) × (names : List (List ℕ)) × IsChainAsked form names words × ChainsFiles form names status out fault)

-- status 4 is that of a device that failed in this run; or, where the words ask for a chain, of a file of it that isn't read
abbrev pub EndsSo : List (List ℕ) → Status → Input → Output → Output → Type 0
EndsSo words status reader out fault =
    Ends status reader out fault ⊎ ((form : Form) × (names : List (List ℕ)) × IsChainAsked form names words × (reader.failed ≡ reader.had_failed) × EndsOfFiles status out fault)
