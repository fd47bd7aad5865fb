-- What a section does to a node, and a settling to all nodes: turns, each exactly as a turn is.
use Rattle.std.specs.Prelude.{◌≡◌, ℕ, ◌<◌, ◌≤◌, Bool, true, false, zero, suc, List, length, slice_index_or, MatchBool}
use Rattle.ep_host.specs.Host.{Looked}
use Rattle.ep_host.specs.Node.{Node}
use Rattle.ep_host.specs.Pointwise.{Each}
use Rattle.ep_host.specs.Turns.{IsTurn}

-- so many turns, one after another
abbrev pub AreTurns : ℕ → Node → Node → Type 0
AreTurns zero a b = b ≡ a
AreTurns (suc n) a b = (c : Node) × (moved : Bool) × AreTurns n a c × IsTurn moved c b

-- so many turns, or fewer where the node has ended, which it may after any turn; then it was noted whether it ended, and the ends of the rings were looked at
pub record IsTurned (limit : ℕ) (a b : Node) : Type 0 where
  pub count : ℕ
  pub few : count ≤ limit
  pub all : b.ended ≡ false → count ≡ limit
  pub some : b.ended ≡ true → 1 ≤ count
  pub last : Node
  pub turns : AreTurns count a last
  pub looked : Looked (record last { ended = b.ended }) b

-- a turn of a round, in which nothing moved unless this says so
abbrev pub IsTurnIn : Bool → Node → Node → Type 0
IsTurnIn round a b = (moved : Bool) × IsTurn moved a b × (moved ≡ true → round ≡ true)

-- rounds, each of one turn of each node: so many, or up to the first in which nothing moved
abbrev pub AreRounds : ℕ → List Node → List Node → Type 0
AreRounds zero xs ys = ys ≡ xs
AreRounds (suc n) xs ys = (zs : List Node) × (moved : Bool) × Each (IsTurnIn moved) xs zs × MatchBool moved (AreRounds n zs ys) (ys ≡ zs)

-- the same; then the ends of the rings were looked at
pub record AreSettled (limit : ℕ) (xs ys : List Node) : Type 0 where
  pub last : List Node
  pub rounds : AreRounds limit xs last
  pub looked : Each Looked last ys

-- each node that has ended was let end
abbrev pub WereLet : (ℕ → Type 0) → List Node → Type 0
WereLet lets nodes = (i : ℕ) (d : Node) → i < length nodes → (slice_index_or nodes i d).ended ≡ true → lets i
