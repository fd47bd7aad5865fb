use Rattle.std.proofs.Common.{ℕ, List, take}
use Rattle.ep_host.specs.Host.{IsHost}
use Rattle.ep_replay.specs.Tables.{AreCounted}
use Rattle.ep_rules.specs.declared.receipt.Receipt.{Receipt as Reported}
use Rattle.ep_run.specs.Asking.{asked_by, proposers_of}
use Rattle.ep_run.specs.Rings.{AreAssigned}
use Rattle.ep_run.proofs.ring_run.assign_all.Given as goal

abbrev pub invariant-loop-line : goal.invariant-loop-line
invariant-loop-line l = record {
  host : (f : ℕ) → IsHost f l.fn.nodes → IsHost f l.nodes;
  assigned : (ps : List ℕ) (ts : List Reported) → AreCounted l.fn.clients ps ts → AreAssigned (asked_by ps ts (take l.line-index l.lines)) l.fn.nodes l.nodes;
  counted : (ps : List ℕ) (ts : List Reported) → AreCounted l.fn.clients ps ts → AreCounted l.clients (proposers_of ps (take l.line-index l.lines)) ts;
}
