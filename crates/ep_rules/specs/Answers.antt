-- What replicas answered the leader of a ballot.
use Rattle.std.specs.Prelude.{ℕ, List, [], ◌∷◌, Option, Some, None, cond, eqb}

-- the answers, by replica; the last one came last
abbrev pub Answers : Type 0 → Type 0
Answers X = List (ℕ × X)

-- what r answered
abbrev pub answer : {X : Type 0} → Answers X → ℕ → Option X
answer [] r = None
answer (x ∷ xs) r = cond (eqb x.0 r) (Some x.1) (answer xs r)

abbrev pub with_answer : {X : Type 0} → Answers X → ℕ → X → Answers X
with_answer answers r x = (r, x) ∷ answers
