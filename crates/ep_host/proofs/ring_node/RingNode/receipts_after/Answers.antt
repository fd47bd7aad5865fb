use Rattle.std.proofs.Common.{rules, ◌≡◌, subst}
use Rattle.ep_journal.specs.Entries.{entries_of}
use Rattle.ep_journal.specs.Openings.{opens}
use Rattle.ep_replica.specs.Kept.{Kept}
use Rattle.ep_rules.specs.Verdicts.{IsOwn}
use Rattle.ep_host.proofs.ring_node.RingNode.receipts_after.Goals as goal

pub returns-clause-own : goal.returns-clause-own
returns-clause-own c =
    let is : c.self.inside.replica ≡ c.args.self.now.replica = search rules in
    λ t h. subst (λ (k : Kept). IsOwn (opens k.opening) k.faults k.me (entries_of k.entries) t) is (c.in_ok-reported.ensures.own t h)
