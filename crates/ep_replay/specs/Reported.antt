-- Which instances the receipts of a replay are about.
use Rattle.std.specs.Prelude.{ℕ, List, [], ◌∷◌}
use Rattle.ep_rules.specs.declared.receipt.Receipt.{Receipt}

abbrev pub instances_of : List Receipt → List ℕ
instances_of [] = []
instances_of (t ∷ ts) = t.instance ∷ instances_of ts
