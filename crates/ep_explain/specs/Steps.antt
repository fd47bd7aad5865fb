-- How a step's frames and executions differ from an entry's.
use Rattle.std.specs.Prelude.{ℕ, ◌==◌, ◌&&◌, Bool, false, List, Option, Some}
use Rattle.std.specs.Str.{bytes_eq}
use Rattle.ep_base.specs.Sameness.{same_answer}
use Rattle.ep_base.specs.declared.reply.Answer.{Answer}

-- the same instance, with the same answer
abbrev pub same_execution : ℕ × Answer → ℕ × Answer → Bool
same_execution p q = p.0 == q.0 && same_answer p.1 q.1

-- both are there, and are the same bytes
abbrev pub same_frame : Option (List ℕ) → Option (List ℕ) → Bool
same_frame (Some x) (Some y) = bytes_eq x y
same_frame _ _ = false
