-- The lines of what is open.
use Rattle.std.specs.Prelude.{ℕ, zero, suc, ◌+◌, cond, eqb, List, [], ◌∷◌, ◌++◌, Option, Some, None, codes, decimal}
use Rattle.ep_base.specs.Instances.{leader_of}
use Rattle.ep_report.specs.Parts.{instance_text}
use Rattle.ep_laws.specs.Named.{name}

-- what stands before the replica at this place of f+1
abbrev pub between_text : ℕ → ℕ → List ℕ
between_text f k = cond (eqb k 0) (codes "") (cond (eqb k f) (codes " and ") (codes ", "))

-- the replicas at the first n places
abbrev pub names_text : (f leader n : ℕ) → List ℕ
names_text f leader zero = []
names_text f leader (suc n) = names_text f leader n ++ (between_text f n ++ decimal (name leader n))

-- an instance that is open: f+1 replicas have to be heard, and a recovery comes next
abbrev pub open_line : ℕ → ℕ → List ℕ
open_line f i = codes "next  recover " ++ instance_text i ++ codes " at any replica that reaches " ++ names_text f (leader_of i) (f + 1) ++ codes "\n"

abbrev pub open_lines : ℕ → List ℕ → List ℕ
open_lines f [] = []
open_lines f (i ∷ is) = open_line f i ++ open_lines f is

-- where not all have a line, the first one without
abbrev pub more_line : Option ℕ → List ℕ
more_line None = []
more_line (Some i) = codes "more  are open, from " ++ instance_text i ++ codes " on\n"

-- an instance that its leader r has to execute: at once, or once it has committed what is missing
abbrev pub owed_line : ℕ → ℕ → Option ℕ → List ℕ
owed_line r i None = codes "next  execute " ++ instance_text i ++ codes " at replica " ++ decimal r ++ codes "\n"
owed_line r i (Some j) = codes "then  execute " ++ instance_text i ++ codes " at replica " ++ decimal r ++ codes ", once it has committed " ++ instance_text j ++ codes "\n"
