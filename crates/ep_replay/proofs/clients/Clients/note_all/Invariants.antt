use Rattle.std.proofs.Common.{◌++◌, ℕ, List, take}
use Rattle.ep_rules.specs.declared.receipt.Receipt.{Receipt as Reported}
use Rattle.ep_replay.specs.Tables.{AreCounted}
use Rattle.ep_replay.proofs.clients.Clients.note_all.Given as goal

abbrev pub invariant-loop-receipt : goal.invariant-loop-receipt
invariant-loop-receipt l = (ps : List ℕ) (ts : List Reported) → AreCounted l.fn.self ps ts → AreCounted l.self ps (ts ++ take l.receipt-index l.receipts)
