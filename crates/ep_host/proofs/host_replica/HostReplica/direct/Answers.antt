use Rattle.std.proofs.Common.{rules, subst}
use Rattle.ep_base.specs.declared.version.Version.{Version}
use Rattle.ep_journal.specs.Openings.{Opening}
use Rattle.ep_journal.specs.declared.entry.Entry.{Entry}
use Rattle.ep_replica.specs.Applied.{Applied}
use Rattle.ep_replica.specs.Kept.{start_of}
use Rattle.ep_host.specs.Asking.{IsTaken, IsDeclinedThere}
use Rattle.ep_host.proofs.host_replica.HostReplica.direct.Goals as goal

pub returns-clause-ok : goal.returns-clause-ok
returns-clause-ok g c =
    let k = c.args.self.now.replica in let new = c.take.new.self in
    let made : (e : Entry) × Applied k c.args.event e new = c.in_ok-take.ensures.ok in
    let taken : IsTaken (start_of k) c.args.event = record { old = k; new = new; run = c.know.ensures; entry = made.0; applied = made.1 } in
    subst (λ (s : Version × Opening). IsTaken s c.args.event) c.args.self.now.start taken

pub returns-in_err-take-clause-declined : goal.returns-in_err-take-clause-declined
returns-in_err-take-clause-declined g c =
    let k = c.args.self.now.replica in
    let there : IsDeclinedThere (start_of k) c.args.event c.in_err-take.field-0.0 = record { kept = k; run = c.know.ensures; declined = c.in_err-take.ensures.refused } in
    let reported : IsDeclinedThere g.S.Start.start c.args.event c.in_err-take.field-0.0 = subst (λ (s : Version × Opening). IsDeclinedThere s c.args.event c.in_err-take.field-0.0) c.args.self.now.start there in search (rules, reported)
