use Rattle.std.proofs.Common.{◌≡◌, ◌∷◌, [], ◌++◌, List, ℕ, take, add-one, sym, ap, ◌∙◌, subst}
use Rattle.std.proofs.Math.Seq.{take-suc}
use Rattle.ep_host.specs.Outboxes.{IsNewPort, AreNew}
use Rattle.ep_host.specs.declared.outlet.Outlet.{Outlet}
use Rattle.ep_host.proofs.Mailing.{new_more}
use Rattle.ep_host.proofs.outlets.outlets_to.Goals as goal

pub loop-inbox-preserved : goal.loop-inbox-preserved
loop-inbox-preserved c =
    let done = take c.loop-inbox.inbox-index c.args.inboxes.now in let q = c.inbox-item.result in let port = c.in_ok-another.field-0 in
    let outlets : List Outlet = c.loop-inbox.outlets.items in
    let new : IsNewPort q port = record { leads = c.in_ok-another.ensures.0; put = c.in_ok-another.ensures.1; taken = c.in_ok-another.ensures.2 } in
    rw (add-one, take-suc c.args.inboxes.now c.loop-inbox.inbox-index q c.loop-inbox-test.true, ← c.inbox-item.is)
    (subst (λ (l : List Outlet). AreNew (done ++ q ∷ []) l) (sym (c.in_ok-push.ensures.items ∙ ap (λ (o : Outlet). outlets ++ o ∷ []) c.new.ensures)) (new_more done outlets q port new c.loop-inbox.invariant))
