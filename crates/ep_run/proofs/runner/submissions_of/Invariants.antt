use Rattle.std.proofs.Common.{ℕ, List, take}
use Rattle.ep_replay.specs.Tables.{AreCounted}
use Rattle.ep_rules.specs.declared.receipt.Receipt.{Receipt as Reported}
use Rattle.ep_run.specs.Asking.{AreSubmissions, proposers_of}
use Rattle.ep_run.proofs.runner.submissions_of.Given as goal

abbrev pub invariant-loop-line : goal.invariant-loop-line
invariant-loop-line l = record {
  tasks : (ps : List ℕ) (ts : List Reported) → AreCounted l.fn.clients ps ts → AreSubmissions ps ts (take l.line-index l.line-items) l.tasks.items;
  counted : (ps : List ℕ) (ts : List Reported) → AreCounted l.fn.clients ps ts → AreCounted l.clients (proposers_of ps (take l.line-index l.line-items)) ts;
}
