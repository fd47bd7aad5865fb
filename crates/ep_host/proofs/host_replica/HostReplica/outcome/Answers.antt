use Rattle.std.proofs.Common.{◌≡◌, subst, sym}
use Rattle.ep_base.specs.declared.version.Version.{Version}
use Rattle.ep_journal.specs.Openings.{Opening}
use Rattle.ep_replica.specs.Kept.{start_of}
use Rattle.ep_rules.specs.declared.receipt.Receipt.{Receipt}
use Rattle.ep_host.specs.Asking.{IsOutcome}
use Rattle.ep_host.proofs.host_replica.HostReplica.outcome.Goals as goal

pub returns-in_ok-to_receipt-in-Some-clause-reported : goal.returns-in_ok-to_receipt-in-Some-clause-reported
returns-in_ok-to_receipt-in-Some-clause-reported g c =
    let k = c.args.self.now.replica in
    let view : IsOutcome (start_of k) c.args.instance c.in-Some.view = record {
      kept = k;
      run = c.know.ensures;
      instance = c.in-Some.ensures.own.1;
      own = c.in-Some.ensures.own.0;
      first = sym c.in-Some.ensures.exact;
    } in
    subst (λ (t : Receipt). IsOutcome g.S.Start.start c.args.instance t) (sym c.in_ok-to_receipt-in-Some.ensures)
    (subst (λ (s : Version × Opening). IsOutcome s c.args.instance c.in-Some.view) c.args.self.now.start view)
