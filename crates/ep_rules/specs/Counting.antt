-- Tests on the replicas below a number: how many pass, whether all do, which is the least.
use Rattle.std.specs.Prelude.{ℕ, zero, suc, ◌+◌, Bool, true, false, ◌&&◌, not, eqb, cond, List, [], ◌∷◌, ◌++◌, Option, Some, None}
use Rattle.ep_base.specs.declared.message.Message.{Message}

-- how many below n pass
abbrev pub count : ℕ → (ℕ → Bool) → ℕ
count zero p = 0
count (suc n) p = cond (p n) 1 0 + count n p

-- whether each below n passes
abbrev pub every : ℕ → (ℕ → Bool) → Bool
every zero p = true
every (suc n) p = p n && every n p

abbrev pub or_this : ℕ → Bool → Option ℕ → Option ℕ
or_this n b (Some k) = Some k
or_this n true None = Some n
or_this n false None = None

-- the least below n that passes
abbrev pub least : ℕ → (ℕ → Bool) → Option ℕ
least zero p = None
least (suc n) p = or_this n (p n) (least n p)

-- one message to each below n that passes, by rising receiver
abbrev pub to_those : (ℕ → Bool) → ℕ → Message → List (ℕ × Message)
to_those p zero m = []
to_those p (suc n) m = to_those p n m ++ cond (p n) ((n, m) ∷ []) []

abbrev pub is_other : ℕ → ℕ → Bool
is_other me r = not (eqb r me)
