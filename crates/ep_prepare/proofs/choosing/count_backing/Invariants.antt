use Rattle.std.proofs.Common.{◌≡◌, ◌≤◌, ◌&&◌}
use Rattle.ep_rules.specs.Answers.{answer}
use Rattle.ep_rules.specs.Counting.{count, is_other}
use Rattle.ep_rules.specs.Recovery as rules
use Rattle.ep_prepare.proofs.choosing.count_backing.Given as goal

abbrev pub invariant-loop-r : goal.invariant-loop-r
invariant-loop-r l = record {
  value : l.backing ≡ count l.r (λ q. is_other l.leader q && rules.votes (rules.did_preaccept_this l.leader l.decree) (answer l.answers q));
  in_range : l.backing ≤ l.r;
}
