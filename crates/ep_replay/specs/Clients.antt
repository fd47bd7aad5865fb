-- Clients: how often each has proposed, and the greatest stamp that it has seen.
use Rattle.std.specs.Prelude.{ℕ, ◌+◌, max, eqb, cond, List, [], ◌∷◌}
use Rattle.ep_rules.specs.declared.receipt.Receipt.{Receipt}

-- how many of these are client c
abbrev pub times : ℕ → List ℕ → ℕ
times c [] = 0
times c (d ∷ ds) = cond (eqb d c) 1 0 + times c ds

-- the greatest stamp of the client's receipts, 0 where there are none
abbrev pub greatest : ℕ → List Receipt → ℕ
greatest c [] = 0
greatest c (t ∷ ts) = max (cond (eqb t.client c) t.stamp 0) (greatest c ts)
