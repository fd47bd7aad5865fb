use Rattle.std.proofs.Common.{None, subst}
use Rattle.std.proofs.lemmas.Result.{IfOk-weaker, IfErr-weaker}
use Rattle.ep_base.specs.declared.version.Version.{Version}
use Rattle.ep_journal.specs.Openings.{Opening}
use Rattle.ep_journal.specs.declared.event.Event.{Event}
use Rattle.ep_journal.specs.declared.event.Event.TheVariants.{Propose}
use Rattle.ep_replica.specs.Applied.{IsDeclined}
use Rattle.ep_replica.specs.Kept.{start_of}
use Rattle.ep_replica.specs.Pending.{Submits}
use Rattle.ep_host.specs.Asking.{IsSubmitted, IsDeclinedThere}
use Rattle.ep_host.proofs.host_replica.HostReplica.submit.Goals as goal

pub returns-clause-ok : goal.returns-clause-ok
returns-clause-ok g c =
    let event : Event = Propose c.args.client c.args.request c.args.command c.args.seen None in
    let old = c.args.self.now.replica in let new = c.submit.new.self in
    IfOk-weaker c.submit.result (λ i. Submits old event i new) (IsSubmitted g.S.Start.start event)
    (λ i h. let reported : IsSubmitted (start_of old) event i = record { old = old; new = new; run = c.know.ensures; submits = h } in
    subst (λ (s : Version × Opening). IsSubmitted s event i) c.args.self.now.start reported) c.submit.ensures.ok

pub returns-clause-declined : goal.returns-clause-declined
returns-clause-declined g c =
    let event : Event = Propose c.args.client c.args.request c.args.command c.args.seen None in
    let old = c.args.self.now.replica in
    IfErr-weaker c.submit.result (λ fault. IsDeclined old event fault) (IsDeclinedThere g.S.Start.start event)
    (λ fault h. let reported : IsDeclinedThere (start_of old) event fault = record { kept = old; run = c.know.ensures; declined = h } in
    subst (λ (s : Version × Opening). IsDeclinedThere s event fault) c.args.self.now.start reported) c.submit.ensures.refused
