use Rattle.std.proofs.Common.{◌∙◌, sym, ap, subst}
use Rattle.ep_serve.specs.Serving.{dialect_of}
use Rattle.ep_bundle.specs.declared.journal_dialect.JournalDialect.{JournalDialect}
use Rattle.ep_embedded.specs.Asking.{IsUnread}
use Rattle.ep_embedded.specs.Hosting.{Hosting}
use Rattle.ep_embedded.proofs.Requests.{unasked}
use Rattle.ep_embedded.proofs.Still.{still_hosted}
use Rattle.ep_embedded.proofs.hosted.Hosted.ask.Goals as goal

pub returns-in-Err-clause-err : goal.returns-in-Err-clause-err
returns-in-Err-clause-err c =
    unasked c.args.self.now c.args.bytes.now c.in-Err.fault
    (subst (λ (d : JournalDialect). IsUnread d c.args.bytes.now c.in-Err.fault) (c.dialect_of.ensures ∙ ap (λ (h : Hosting). dialect_of h.node.replica) c.self.view_is) c.in-Err.ensures.err)

pub invariant_of-self : goal.invariant_of-self
invariant_of-self c =
    let begun = ap (λ (h : Hosting). h.is_anew) c.self.view_is ∙ sym c.is_anew.ensures ∙ c.if-is_anew.false in
    still_hosted c.self.inside.node c.add.new.node c.self.inside.is_anew c.self.inside.durable c.self.inside.lent begun c.add.ensures.same c.add.ensures.grows c.self.invariant
