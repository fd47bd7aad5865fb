-- The lines of faults on the fault output.
use Rattle.std.specs.Prelude.{ℕ, List, ◌++◌, codes, decimal}

-- a number between words
abbrev pub numbered : List ℕ → ℕ → List ℕ → List ℕ
numbered before n after = before ++ decimal n ++ after

-- the first line; what is wrong with the words follows
abbrev pub command_line_refused : List ℕ
command_line_refused = codes "command line refused\n"

-- this line is the first at fault
abbrev pub script_refused : ℕ → List ℕ
script_refused line = numbered (codes "script refused at line ") line (codes "\n")

-- the field that begins at this byte is at fault
abbrev pub bad_bundle : ℕ → List ℕ
bad_bundle offset = numbered (codes "bundle refused E12 at byte ") offset (codes "\n")

-- this entry of this replica isn't its next step
abbrev pub not_a_run : ℕ → ℕ → List ℕ
not_a_run replica entry = numbered (codes "bundle refused E11 at replica ") replica (codes " entry ") ++ (decimal entry ++ codes "\n")

abbrev pub out_of_memory : List ℕ
out_of_memory = codes "out of memory\n"

abbrev pub reading_failed : List ℕ
reading_failed = codes "reading failed\n"

abbrev pub writing_failed : List ℕ
writing_failed = codes "writing failed\n"
