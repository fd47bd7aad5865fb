-- What is shown of two files, by their names and the bytes that they gave.
use Rattle.std.specs.Prelude.{◌≡◌, ℕ, List, ◌++◌, codes}
use Rattle.ep_assemble.specs.GenerationLines.{opening_line}
use Rattle.ep_assemble.specs.Lines.{end_line, log_line}
use Rattle.ep_assemble.specs.declared.assembled.End.{End}
use Rattle.ep_assemble.specs.Shown.{IsNotShown, IsShown}
use Rattle.ep_assemble.specs.declared.show_fault.ShowFault.{ShowFault}
use Rattle.ep_assemble.specs.declared.show_fault.ShowFault.TheVariants.{Memory, Opening, OtherGeneration, Log}

-- of an opening file and a log of these names
abbrev pub fault_line : List ℕ → List ℕ → ShowFault → List ℕ
fault_line opening_name log_name Memory = codes "out of memory\n"
fault_line opening_name log_name (Opening fault) = opening_line opening_name fault
fault_line opening_name log_name OtherGeneration = opening_name ++ codes " is of another generation\n"
fault_line opening_name log_name (Log fault) = log_line log_name fault

-- the text is that of the map that the log leaves beside the opening file, and a line is reported where its end is torn
pub record AreShown (g : ℕ) (log_name opening digest log text lines : List ℕ) : Type 0 where
  pub end : End
  pub shown : IsShown g opening digest log text end
  pub reported : lines ≡ end_line log_name end

-- other than out of memory
abbrev pub IsOfFiles : ShowFault → Type 0
IsOfFiles Memory = ⊥
IsOfFiles (Opening fault) = Unit {0}
IsOfFiles OtherGeneration = Unit {0}
IsOfFiles (Log fault) = Unit {0}

-- these bytes show no map of generation g, and the line is that of the first fault
pub record AreNotShown (g : ℕ) (opening_name log_name opening digest log line : List ℕ) : Type 0 where
  pub fault : ShowFault
  pub of : IsOfFiles fault
  pub refused : IsNotShown g opening digest log fault
  pub reported : line ≡ fault_line opening_name log_name fault
