use Rattle.std.proofs.Common.{◌≡◌, subst}
use Rattle.std.proofs.lemmas.Result.{IfOk-weaker}
use Rattle.ep_base.specs.declared.version.Version.{Version}
use Rattle.ep_journal.specs.Entries.{entries_of}
use Rattle.ep_journal.specs.Openings.{Opening}
use Rattle.ep_replica.specs.Kept.{start_of}
use Rattle.ep_replica.specs.Receipts.{receipts_after}
use Rattle.ep_host.specs.Asking.{AreReported}
use Rattle.ep_host.proofs.host_replica.HostReplica.receipts_after.Goals as goal

pub returns-clause-reported : goal.returns-clause-reported
returns-clause-reported g c =
    let k = c.args.self.now.replica in
    IfOk-weaker c.receipts_after.result (λ ts. ts.items ≡ receipts_after k.me c.args.entry (entries_of k.entries)) (λ ts. AreReported g.S.Start.start c.args.entry ts.items)
    (λ ts h. let reported : AreReported (start_of k) c.args.entry ts.items = record { kept = k; run = c.know.ensures; exact = h } in
    subst (λ (s : Version × Opening). AreReported s c.args.entry ts.items) c.args.self.now.start reported) c.receipts_after.ensures.exact
